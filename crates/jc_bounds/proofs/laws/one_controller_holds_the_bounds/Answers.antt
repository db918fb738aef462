-- The lemma on whole histories.
use Rattle.jc_bounds.proofs.Whole.{holds}
use Rattle.jc_bounds.proofs.laws.one_controller_holds_the_bounds.Goals as goal

pub returns : goal.returns
returns c = holds
