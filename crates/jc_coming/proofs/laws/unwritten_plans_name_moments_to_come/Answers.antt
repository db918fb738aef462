-- The lemma on the moment that a plan names.
use Rattle.jc_coming.proofs.MomentFacts.{names-moment}
use Rattle.jc_coming.proofs.laws.unwritten_plans_name_moments_to_come.Goals as goal

pub returns : goal.returns
returns c = names-moment
