-- The lemmas on the completed indexes.
use Rattle.jc_account.proofs.AccountFacts.{indexes-below, indexes-in, plain-set}
use Rattle.jc_account.proofs.laws.indexes_are_counted_in.Goals as goal

pub returns : goal.returns
returns c = record {
  indexed = indexes-in;
  below = indexes-below;
  plain = plain-set;
}
