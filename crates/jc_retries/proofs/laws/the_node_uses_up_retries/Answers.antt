-- The lemmas on what the node does.
use Rattle.std.proofs.Common.{◌≤◌, ◌∷◌, ◌++◌, sym, subst}
use Rattle.jc_retries.proofs.RetryNodes.{gone-allowed, retries-fall}
use Rattle.jc_retries.specs.Retries.{creations_allowed}
use Rattle.jc_retries.proofs.laws.the_node_uses_up_retries.Goals as goal

pub returns : goal.returns
returns c = record {
  acts = λ ends made job front back pod after counted it.
      subst (λ p. creations_allowed ends made job (front ++ p ∷ back) ≤ creations_allowed ends made job (front ++ pod ∷ back))
      (sym it.after_is) (retries-fall ends made job front back it.fates it.log pod counted it.fated it.act it.befalls);
  gone = gone-allowed;
}
