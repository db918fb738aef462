-- The lemmas on the two statuses.
use Rattle.jc_plan.proofs.ValueFacts.{second-completed, second-failed, second-failed_indexes, second-failed_list, second-index_failures, second-lists_none, second-succeeded, second-succeeded_list, values-same}
use Rattle.jc_plan.proofs.laws.second_status_counts_out.Goals as goal

pub returns : goal.returns
returns c = record {
  failed_list = second-failed_list;
  succeeded_list = second-succeeded_list;
  failed = second-failed;
  succeeded = second-succeeded;
  completed = second-completed;
  failed_indexes = second-failed_indexes;
  index_failures = second-index_failures;
  no_failed = λ job basis. (second-lists_none job basis).0;
  no_succeeded = λ job basis. (second-lists_none job basis).1;
  same = values-same;
}
