-- The lemmas on targets.
use Rattle.jc_plan.proofs.ValueFacts.{first-fails, policy-fails}
use Rattle.jc_plan.proofs.laws.failed_jobs_get_a_target.Goals as goal

pub returns : goal.returns
returns c = record { failing = first-fails; policy = policy-fails }
