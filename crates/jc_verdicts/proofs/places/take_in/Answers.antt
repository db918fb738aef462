use Rattle.std.proofs.Common.{ap, refl}
use Rattle.jc_types.specs.declared.objects.Job.{Job}
use Rattle.jc_verdicts.proofs.PlaceSteps.{job-gone, job-put}
use Rattle.jc_verdicts.proofs.places.take_in.Goals as goal

-- A Job is put.
pub returns-in_ok-add_place-in-JobPut : goal.returns-in_ok-add_place-in-JobPut
returns-in_ok-add_place-in-JobPut c =
    λ older long are. job-put older c.args.place c.args.places.now _ c.args.entry.now c.in-JobPut.job c.deref.result.now.key (ap (λ (job : Job). job.key) c.deref.ensures) long c.in_ok-add_place-in-JobPut.ensures refl refl are c.in-JobPut.is

-- A Job goes.
pub returns-in_ok-add_place-in-JobGone : goal.returns-in_ok-add_place-in-JobGone
returns-in_ok-add_place-in-JobGone c =
    λ older long are. job-gone older c.args.place c.args.places.now _ c.args.entry.now c.in-JobGone.job
    c.deref-in-JobGone.result.now.key (ap (λ (job : Job). job.key) c.deref-in-JobGone.ensures) long
    c.in_ok-add_place-in-JobGone.ensures refl refl are c.in-JobGone.is
