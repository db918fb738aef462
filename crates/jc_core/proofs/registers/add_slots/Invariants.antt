use Rattle.std.proofs.Common.{◌≡◌, ◌++◌, map}
use Rattle.jc_history.specs.Available.{below}
use Rattle.jc_core.specs.Shared.{fresh_slot}
use Rattle.jc_core.proofs.registers.add_slots.Given as goal

-- The registers of the workers before this one are added.
abbrev pub invariant-loop-worker : goal.invariant-loop-worker
invariant-loop-worker l = l.slots.items ≡ l.initial.slots.items ++ map fresh_slot (map (λ w. (l.controller, w)) (below l.worker))
