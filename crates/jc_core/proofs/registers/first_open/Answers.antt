use Rattle.std.proofs.Common.{false, None, get_or, sym}
use Rattle.jc_play.specs.declared.slots.Slot.{Slot}
use Rattle.jc_core.proofs.SlotFacts.{open-busy, slot-within}
use Rattle.jc_core.proofs.registers.first_open.Goals as goal

abbrev blank : Slot
blank = record { controller = 0; worker = 0; holder = None; wants = false }

pub is_open_slot-requires-clause-of_shape : goal.is_open_slot-requires-clause-of_shape
is_open_slot-requires-clause-of_shape c = (slot-within c.args.machine.now.shape c.args.slots.now c.loop-slot.slot-index blank c.requires c.loop-slot-test.true).controller

pub is_open_slot-requires-clause-worker : goal.is_open_slot-requires-clause-worker
is_open_slot-requires-clause-worker c = (slot-within c.args.machine.now.shape c.args.slots.now c.loop-slot.slot-index blank c.requires c.loop-slot-test.true).worker

pub returns-then-is_open_slot-clause-of_shape : goal.returns-then-is_open_slot-clause-of_shape
returns-then-is_open_slot-clause-of_shape c = (slot-within c.args.machine.now.shape c.args.slots.now c.loop-slot.slot-index blank c.requires c.loop-slot-test.true).controller

pub returns-then-is_open_slot-clause-worker : goal.returns-then-is_open_slot-clause-worker
returns-then-is_open_slot-clause-worker c = (slot-within c.args.machine.now.shape c.args.slots.now c.loop-slot.slot-index blank c.requires c.loop-slot-test.true).worker

pub returns-then-is_open_slot-clause-busy : goal.returns-then-is_open_slot-clause-busy
returns-then-is_open_slot-clause-busy c = open-busy c.args.machine.now (get_or c.args.slots.now c.loop-slot.slot-index blank) (sym c.if-is_open_slot.ensures)
