-- The lemmas on turns.
use Rattle.jc_calm.proofs.GoFacts.{goes-on}
use Rattle.jc_calm.proofs.laws.calm_settles_go_on.Goals as goal

pub returns : goal.returns
returns c = goes-on
