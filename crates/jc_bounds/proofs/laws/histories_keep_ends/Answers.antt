-- The lemma on what keeps an end.
use Rattle.jc_bounds.proofs.Whole.{final}
use Rattle.jc_bounds.proofs.laws.histories_keep_ends.Goals as goal

pub returns : goal.returns
returns c = final
