use Rattle.std.proofs.Common.{◌≡◌, ◌++◌, length, map, take, drop}
use Rattle.jc_core.specs.RegisterChanges.{changed_slot}
use Rattle.jc_core.proofs.changes.change_each.Given as goal

-- The registers before this one are changed.
abbrev pub invariant-loop-i : goal.invariant-loop-i
invariant-loop-i l = record {
  made : l.slots.items ≡ map (changed_slot l.change) (take l.i l.initial.slots.items) ++ drop l.i l.initial.slots.items;
  count : length l.slots.items ≡ length l.initial.slots.items;
}
