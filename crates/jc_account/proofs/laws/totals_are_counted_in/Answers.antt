-- The lemmas on the totals.
use Rattle.jc_account.proofs.AccountFacts.{failed-sum, failed-total, few-failed, indexed-total, judged-failed, left-failed, left-indexed, left-succeeded, new-failed, new-indexes, new-succeeded, succeeded-sum, succeeded-total}
use Rattle.jc_account.proofs.Totals.{stayed_and_left}
use Rattle.jc_account.proofs.laws.totals_are_counted_in.Goals as goal

pub returns : goal.returns
returns c = record {
  stay_or_leave = stayed_and_left;
  failed = failed-total;
  succeeded = succeeded-total;
  indexed = indexed-total;
  failed_sum = failed-sum;
  succeeded_sum = succeeded-sum;
  new_failed = new-failed;
  new_succeeded = new-succeeded;
  new_indexes = new-indexes;
  judged_failed = judged-failed;
  few_failed = few-failed;
  left_failed = left-failed;
  left_succeeded = left-succeeded;
  left_indexed = left-indexed;
}
