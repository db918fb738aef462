-- The lemma on what bounds the syncs.
use Rattle.jc_bounds.proofs.Whole.{bounded}
use Rattle.jc_bounds.proofs.laws.histories_are_bounded.Goals as goal

pub returns : goal.returns
returns c = bounded
