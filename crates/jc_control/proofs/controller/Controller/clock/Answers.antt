use Rattle.std.proofs.Common.{arith}
use Rattle.jc_control.proofs.RoomFacts.{provided_moved}
use Rattle.jc_control.proofs.controller.Controller.clock.Goals as goal

-- The queue has room for each key that has a moment.
pub move_due-requires : goal.move_due-requires
move_due-requires c = let room = c.self.invariant.for_queue in record { room = omega (arith, room) }

pub invariant_of-self : goal.invariant_of-self
invariant_of-self c =
    provided_moved c.self.inside.queue c.move_due.new.queue c.self.inside.delays c.move_due.new.delays c.self.inside.known.entries c.self.inside.supplies.items c.args.now c.move_due.ensures.queue c.move_due.ensures.room c.self.invariant
