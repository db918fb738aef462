-- The parts are those of the plan of the basis's Job.
use Rattle.std.proofs.Common.{◌≡◌, IfOk, ap, sym, subst, ◌∙◌}
use Rattle.jc_types.specs.declared.syncs.CountIn.{CountIn}
use Rattle.jc_plan.specs.declared.plans.Planned.{Planned}
use Rattle.jc_plan.specs.Releases.{due_uids}
use Rattle.jc_plan.proofs.PartFacts.{planned-is}
use Rattle.jc_plan.proofs.parts.planned_with.Goals as goal

-- What is counted in says which pods the Job is to release.
pub released-requires : goal.released-requires
released-requires c =
    ap (λ (k : CountIn). k.releases) c.requires.counted
    ∙ sym (ap (λ o. due_uids o c.args.basis.now.pods) c.requires.its_job)

pub returns : goal.returns
returns c =
    subst (λ (p : Planned). IfOk c.new.result (λ r. r ≡ p))
    (planned-is c.args.job.now c.args.basis.now c.in_ok-wants.wants c.in_ok-wants.ensures.wants
    c.next_deadline.result c.in_ok-first.first c.in_ok-second.second c.in_ok-releases.releases c.earlier.result
    c.requires.its_job c.next_deadline.ensures c.in_ok-first.ensures c.in_ok-second.ensures
    c.in_ok-releases.ensures c.earlier.ensures)
    c.new.ensures
