use Rattle.std.proofs.Common.{map}
use Rattle.jc_types.specs.declared.objects.Pod.{Pod}
use Rattle.jc_control.proofs.RoomFacts.{provided_all}
use Rattle.jc_control.proofs.controller.Controller.list_pods.Goals as goal

pub invariant_of-self-2 : goal.invariant_of-self-2
invariant_of-self-2 c =
    provided_all c.self.inside.queue c.in_ok-queue.queue c.self.inside.delays c.self.inside.known.entries c.self.inside.supplies.items c.in_ok-queue.ensures.room c.self.invariant
    (map (λ (pod : Pod). pod.owner) c.as_slice.result.now) c.in_ok-queue.ensures.added
