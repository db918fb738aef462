-- The lemmas on what is counted in and then out.
use Rattle.jc_account.proofs.AccountFacts.{failed-all-out, failed-list-empty, succeeded-all-out, succeeded-list-empty}
use Rattle.jc_account.proofs.laws.released_lists_end_empty.Goals as goal

pub returns : goal.returns
returns c = record {
  failed_list = failed-list-empty;
  succeeded_list = succeeded-list-empty;
  failed = failed-all-out;
  succeeded = succeeded-all-out;
}
