-- The lemmas on what the node does.
use Rattle.std.proofs.Common.{◌≤◌, ◌∷◌, ◌++◌, sym, subst}
use Rattle.jc_making.proofs.NodeFacts.{gone, node-falls}
use Rattle.jc_making.specs.Making.{creations_left}
use Rattle.jc_making.proofs.laws.the_node_needs_no_more_pods.Goals as goal

pub returns : goal.returns
returns c = record {
  acts = λ ends made job front back pod after counted it.
      subst (λ p. creations_left ends made job (front ++ p ∷ back) ≤ creations_left ends made job (front ++ pod ∷ back))
      (sym it.after_is) (node-falls it.fates ends made job front back it.log pod counted it.fated it.act it.befalls);
  gone = gone;
}
