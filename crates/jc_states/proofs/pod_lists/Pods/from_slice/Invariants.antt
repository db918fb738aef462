use Rattle.std.proofs.Common.{◌≡◌, take}
use Rattle.jc_states.proofs.pod_lists.Pods.from_slice.Given as goal

-- The pods before the index are copied.
abbrev pub invariant-loop-pod : goal.invariant-loop-pod
invariant-loop-pod l = l.pods ≡ take l.pod-index l.items
