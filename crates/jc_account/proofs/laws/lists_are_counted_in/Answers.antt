-- The lemmas on the lists.
use Rattle.jc_account.proofs.AccountFacts.{empty-in, failed-in, failed-length, failed-order, indexed-in, lists-apart, lists-short, succeeded-in, succeeded-length, succeeded-order}
use Rattle.jc_account.proofs.laws.lists_are_counted_in.Goals as goal

pub returns : goal.returns
returns c = record {
  failed = failed-in;
  succeeded = succeeded-in;
  indexed = indexed-in;
  empty = empty-in;
  failed_order = failed-order;
  succeeded_order = succeeded-order;
  failed_length = failed-length;
  succeeded_length = succeeded-length;
  apart = lists-apart;
  few_listed = λ job pods rises lists few. lists-short job pods rises lists.succeeded lists.failed lists.apart few;
}
