-- The plays of changed indexes.
use Rattle.jc_history.proofs.IndexPlays.{elastic-replies, elastic-counts, elastic-completed, elastic-verdicts, failed_index-replies, failed_index-counts, failed_index-conditions, failed_index-failed, failed_index-verdicts}
use Rattle.jc_history.proofs.IndexPlays.{unfailing-replies, unfailing-conditions, unfailing-failed}
use Rattle.jc_history.proofs.samples.changed_indexes_play.Goals as goal

pub returns : goal.returns
returns c = record {
  elastic = elastic-replies;
  elastic_counts = elastic-counts;
  elastic_completed = elastic-completed;
  elastic_verdicts = elastic-verdicts;
  failed_index = failed_index-replies;
  failed_index_counts = failed_index-counts;
  failed_index_conditions = failed_index-conditions;
  failed_index_failed = failed_index-failed;
  failed_index_verdicts = failed_index-verdicts;
  unfailing = unfailing-replies;
  unfailing_conditions = unfailing-conditions;
  unfailing_failed = unfailing-failed;
}
