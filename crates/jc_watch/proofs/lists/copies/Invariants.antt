use Rattle.std.proofs.Common.{◌≡◌, map}
use Rattle.jc_watch.proofs.lists.copies.Given as goal

abbrev pub invariant-loop-pod : goal.invariant-loop-pod
invariant-loop-pod l = l.list ≡ map (λ p. p.now) l.yielded
