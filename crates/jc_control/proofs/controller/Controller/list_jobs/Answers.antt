use Rattle.std.proofs.Common.{map}
use Rattle.jc_types.specs.declared.objects.Job.{Job}
use Rattle.jc_control.proofs.RoomFacts.{provided_all}
use Rattle.jc_control.proofs.controller.Controller.list_jobs.Goals as goal

pub invariant_of-self-2 : goal.invariant_of-self-2
invariant_of-self-2 c =
    provided_all c.self.inside.queue c.in_ok-queue.queue c.self.inside.delays c.self.inside.known.entries c.self.inside.supplies.items c.in_ok-queue.ensures.room c.self.invariant
    (map (λ (job : Job). job.key) c.as_slice.result.now) c.in_ok-queue.ensures.added
