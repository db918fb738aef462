-- The lemmas on what is counted out.
use Rattle.jc_account.proofs.AccountFacts.{failed-out, failed-out-order, failed-out-sum, others-out, succeeded-out, succeeded-out-order, succeeded-out-sum}
use Rattle.jc_account.proofs.laws.totals_are_counted_out.Goals as goal

pub returns : goal.returns
returns c = record {
  failed = failed-out;
  succeeded = succeeded-out;
  failed_order = failed-out-order;
  succeeded_order = succeeded-out-order;
  failed_sum = failed-out-sum;
  succeeded_sum = succeeded-out-sum;
  others = others-out;
}
