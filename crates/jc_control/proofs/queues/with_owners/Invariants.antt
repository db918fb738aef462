use Rattle.std.proofs.Common.{◌≡◌, map, take, true}
use Rattle.std.specs.Prelude.{IfSome}
use Rattle.std.specs.Option.{option_copied}
use Rattle.jc_control.specs.ControllerCalls.{all_added}
use Rattle.jc_queue.specs.Queued.{has_key}
use Rattle.jc_control.proofs.queues.with_owners.Given as goal

-- The keys of the owners of the pods before the index are added, and the last one that was asked for is dirty.
abbrev pub invariant-loop-pod : goal.invariant-loop-pod
invariant-loop-pod l =
    (l.with_keys.queue ≡ all_added l.fn.queue.queue (map (λ pod. pod.owner) (take l.pod-index l.pods)))
    × (l.with_keys.room ≡ l.fn.queue.room)
    × IfSome (option_copied l.last) (λ k. has_key k l.with_keys.queue.dirty ≡ true)
