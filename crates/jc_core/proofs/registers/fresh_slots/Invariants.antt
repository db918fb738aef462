use Rattle.std.proofs.Common.{◌≡◌, map}
use Rattle.std.specs.List.{flat_map}
use Rattle.jc_history.specs.Available.{below}
use Rattle.jc_core.specs.Shared.{fresh_slot}
use Rattle.jc_core.proofs.registers.fresh_slots.Given as goal

-- The registers of the controllers before this one are there.
abbrev pub invariant-loop-controller : goal.invariant-loop-controller
invariant-loop-controller l = l.slots.items ≡ map fresh_slot (flat_map (λ c. map (λ w. (c, w)) (below l.shape.workers)) (below l.controller))
