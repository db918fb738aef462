-- The first status is that of the plan of the basis's Job.
use Rattle.std.proofs.Common.{◌≡◌, IfOk, refl, subst}
use Rattle.jc_types.specs.declared.statuses.JobStatus.{JobStatus}
use Rattle.jc_states.specs.Bases.{own_pods}
use Rattle.jc_plan.specs.Plans.{changed}
use Rattle.jc_plan.specs.Statuses.{first_status_of}
use Rattle.jc_plan.proofs.PartFacts.{first-is, wants-created, wants-going}
use Rattle.jc_plan.proofs.parts.first_for.Goals as goal

pub first_status-requires-clause-created : goal.first_status-requires-clause-created
first_status-requires-clause-created c =
    wants-created c.args.job.now c.args.basis.now c.args.wants.now c.requires.its_job c.requires.can c.requires.wants

pub first_status-requires-clause-going : goal.first_status-requires-clause-going
first_status-requires-clause-going c = wants-going c.args.job.now c.args.basis.now c.args.wants.now c.requires.wants

pub returns : goal.returns
returns c =
    let job = c.args.job.now in
    let basis = c.args.basis.now in
    subst (λ (s : JobStatus). IfOk c.first_status.result (λ r. r ≡ changed job.status s))
    (first-is job basis c.args.counted.now c.args.target c.args.wants.now
    (first_status_of basis.now job (own_pods job basis.pods) c.args.counted.now c.args.target c.args.wants.now)
    c.requires.counted c.requires.target c.requires.wants refl)
    c.first_status.ensures
