-- The lemma on outcomes.
use Rattle.jc_failpol.proofs.OutcomeFacts.{outcome-exact}
use Rattle.jc_failpol.proofs.laws.outcomes_are_told_apart.Goals as goal

pub returns : goal.returns
returns c = outcome-exact
