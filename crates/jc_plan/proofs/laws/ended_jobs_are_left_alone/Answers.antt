-- The lemma on the plan of a Job that has ended.
use Rattle.jc_plan.proofs.PlanBounds.{idle-plan}
use Rattle.jc_plan.proofs.laws.ended_jobs_are_left_alone.Goals as goal

pub returns : goal.returns
returns c = idle-plan
