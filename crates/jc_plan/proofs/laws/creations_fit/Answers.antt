-- The lemmas on new pods.
use Rattle.jc_plan.proofs.PlanBounds.{creates-fit, creates-fit_ending, plan-numbered}
use Rattle.jc_plan.proofs.laws.creations_fit.Goals as goal

pub returns : goal.returns
returns c = record { fit = creates-fit; fit_ending = creates-fit_ending; numbered = plan-numbered }
