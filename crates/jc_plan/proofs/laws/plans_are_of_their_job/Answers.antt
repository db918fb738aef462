-- The lemmas on the parts of a plan.
use Rattle.jc_plan.proofs.PartFacts.{plan-created, plan-going, planned-here}
use Rattle.jc_plan.proofs.laws.plans_are_of_their_job.Goals as goal

pub returns : goal.returns
returns c = record { parts = planned-here; going = plan-going; created = plan-created }
