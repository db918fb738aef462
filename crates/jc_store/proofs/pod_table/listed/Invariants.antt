use Rattle.std.proofs.Common.{◌≡◌, map}
use Rattle.jc_store.proofs.pod_table.listed.Given as goal

-- The pods listed so far are those that were shown.
abbrev pub invariant-loop-pod : goal.invariant-loop-pod
invariant-loop-pod l = l.pods.items ≡ map (λ p. p.now) l.yielded
