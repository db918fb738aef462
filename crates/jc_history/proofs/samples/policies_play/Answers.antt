use Rattle.jc_history.proofs.SamplePlays.{marked_pod-verdicts, backoff_limit-conditions, failing_exit-conditions, deadline-conditions, restarted_container-conditions, deadline-indexes, suspension-conditions, marked_pod-replies}
use Rattle.jc_history.proofs.SamplePlays.{marked_pod-counts, replacement-replies, replacement-counts, backoff_limit-replies, backoff_limit-counts, failing_exit-replies, failing_exit-counts, deadline-replies, deadline-counts}
use Rattle.jc_history.proofs.SamplePlays.{restarted_container-replies, restarted_container-counts, suspension-replies, suspension-counts}
use Rattle.jc_history.proofs.samples.policies_play.Goals as goal

pub returns : goal.returns
returns c = record {
  marked_pod = marked_pod-replies;
  marked_pod_counts = marked_pod-counts;
  replacement = replacement-replies;
  replacement_counts = replacement-counts;
  backoff_limit = backoff_limit-replies;
  backoff_limit_counts = backoff_limit-counts;
  failing_exit = failing_exit-replies;
  failing_exit_counts = failing_exit-counts;
  deadline = deadline-replies;
  deadline_counts = deadline-counts;
  restarted_container = restarted_container-replies;
  restarted_container_counts = restarted_container-counts;
  suspension = suspension-replies;
  suspension_counts = suspension-counts;
  marked_pod_verdicts = marked_pod-verdicts;
  backoff_limit_conditions = backoff_limit-conditions;
  failing_exit_conditions = failing_exit-conditions;
  deadline_conditions = deadline-conditions;
  restarted_container_conditions = restarted_container-conditions;
  deadline_indexes = deadline-indexes;
  suspension_conditions = suspension-conditions;
}
