-- All pods are the Job's, so that none is an orphan.
use Rattle.std.proofs.Common.{◌≡◌, eqb-true, length, subst, sym, ◌∙◌}
use Rattle.jc_states.specs.PodLists.{IsRising}
use Rattle.jc_states.specs.Tallies.{pods_for}
use Rattle.jc_plan.proofs.NotedFacts.{just-due}
use Rattle.jc_plan.proofs.releases.are_just_due.Goals as goal

pub returns : goal.returns
returns c = λ h.
    let job = c.args.job.now in
    just-due c.args.basis.now job (subst IsRising c.deref.ensures c.are_all_of.ensures.rising) c.requires.its_job
    (subst (λ pods. length (pods_for job.uid pods) ≡ length pods) c.deref.ensures (eqb-true _ _ (sym c.are_all_of.ensures.all ∙ h)))
    ∙ sym c.requires.due
