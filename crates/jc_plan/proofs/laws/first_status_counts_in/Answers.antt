-- The lemmas on the two statuses.
use Rattle.jc_plan.proofs.ValueFacts.{first-completed, first-failed, first-failed_indexes, first-failed_list, first-index_failures, first-succeeded, first-succeeded_list}
use Rattle.jc_plan.proofs.laws.first_status_counts_in.Goals as goal

pub returns : goal.returns
returns c = record {
  failed_list = first-failed_list;
  succeeded_list = first-succeeded_list;
  failed = first-failed;
  succeeded = first-succeeded;
  completed = first-completed;
  failed_indexes = first-failed_indexes;
  index_failures = first-index_failures;
}
