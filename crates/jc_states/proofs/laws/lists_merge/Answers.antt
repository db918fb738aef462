-- The lemmas on lists of UIDs and sets of indexes.
use Rattle.jc_states.proofs.UidListFacts.{is_in-merge, has-join, ascends_merge, each_from_zero}
use Rattle.jc_states.proofs.laws.lists_merge.Goals as goal

pub returns : goal.returns
returns c = record {
  merged = is_in-merge;
  joined = has-join;
  order = λ uids more rises. ascends_merge 0 uids more rises (each_from_zero more);
}
