use Rattle.std.proofs.Common.{◌≡◌, drop, map}
use Rattle.jc_core.specs.Shared.{numbers_of, slots_told}
use Rattle.jc_core.proofs.going.keep_up.Given as goal

-- The events that are left lead where all of them do.
abbrev pub invariant-loop-past : goal.invariant-loop-past
invariant-loop-past l = record {
  left : slots_told l.script.commands (drop l.past-index l.events) l.slots.items ≡ slots_told l.script.commands l.events l.initial.slots.items;
  numbers : map numbers_of l.slots.items ≡ map numbers_of l.initial.slots.items;
}
