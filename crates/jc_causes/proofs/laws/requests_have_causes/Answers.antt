-- The lemma on the requests of syncs.
use Rattle.jc_causes.proofs.StepFacts.{all}
use Rattle.jc_causes.proofs.laws.requests_have_causes.Goals as goal

pub returns : goal.returns
returns c = all
