-- The lemmas on the backoff.
use Rattle.jc_plan.proofs.BackoffFacts.{plan-dated, plan-failures}
use Rattle.jc_plan.proofs.laws.failures_are_bounded.Goals as goal

pub returns : goal.returns
returns c = record { few_failures = plan-failures; dated = plan-dated }
