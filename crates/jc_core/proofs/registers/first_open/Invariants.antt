use Rattle.std.proofs.Common.{◌≡◌, drop, find}
use Rattle.jc_core.specs.Shared.{is_open_slot}
use Rattle.jc_core.proofs.registers.first_open.Given as goal

-- The registers before this one are not open.
abbrev pub invariant-loop-slot : goal.invariant-loop-slot
invariant-loop-slot l = find (is_open_slot l.machine) (drop l.slot-index l.slots) ≡ find (is_open_slot l.machine) l.slots
