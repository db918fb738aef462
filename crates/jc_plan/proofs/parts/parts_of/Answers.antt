-- The plan is that for the Job that is there, or for none.
use Rattle.std.proofs.Common.{◌≡◌, Some, None, IfOk, ap, subst, ◌∙◌}
use Rattle.jc_types.specs.declared.objects.Job.{Job}
use Rattle.jc_plan.specs.declared.plans.Planned.{Planned}
use Rattle.jc_plan.specs.Plans.{planned_for}
use Rattle.jc_plan.proofs.PartFacts.{planned-here}
use Rattle.jc_plan.proofs.parts.parts_of.Goals as goal

pub returns-in-None : goal.returns-in-None
returns-in-None c =
    subst (λ (p : Planned). IfOk c.planned_alone.result (λ r. r ≡ p)) (planned-here c.args.basis.now None c.in-None.is) c.planned_alone.ensures

pub returns-in-Some : goal.returns-in-Some
returns-in-Some c =
    subst (λ (p : Planned). IfOk c.planned_for.result (λ r. r ≡ p)) (ap (λ (job : Job). planned_for c.args.basis.now (Some job)) c.deref.ensures ∙ planned-here c.args.basis.now (Some c.in-Some.job) c.in-Some.is)
    c.planned_for.ensures
