-- The lemma on a pod that is made.
use Rattle.jc_bounds.proofs.Whole.{fits}
use Rattle.jc_bounds.proofs.laws.pods_that_are_made_fit.Goals as goal

pub returns : goal.returns
returns c = fits
