use Rattle.std.proofs.Common.{arith, ◌∙◌}
use Rattle.jc_control.proofs.TurnFacts.{due-fewer, due-moves, none-moves}
use Rattle.jc_control.proofs.queues.move_due.Goals as goal

-- No key is due any more.
pub returns-in_default-clause-queue : goal.returns-in_default-clause-queue
returns-in_default-clause-queue c =
    (none-moves c.loop.queue.queue c.loop.delays.delays c.take_due.new.self.delays c.args.now c.args.queue.now.queue c.args.delays.now.delays c.loop.invariant.0 c.in_default.ensures.key c.in_default.ensures.left).0

pub returns-in_default-clause-delays : goal.returns-in_default-clause-delays
returns-in_default-clause-delays c =
    (none-moves c.loop.queue.queue c.loop.delays.delays c.take_due.new.self.delays c.args.now c.args.queue.now.queue c.args.delays.now.delays c.loop.invariant.0 c.in_default.ensures.key c.in_default.ensures.left).1

-- There is room for each key that has a moment.
pub add_reserved-requires : goal.add_reserved-requires
add_reserved-requires c =
    let fewer = due-fewer c.loop.delays.delays c.take_due.new.self.delays c.args.now c.in-Some.key c.loop.invariant.0.2 c.in-Some.ensures.key c.in-Some.ensures.left in
    let room = c.loop.invariant.1.0 in
    record { room = omega (arith, fewer, room, c.requires.room) }

-- One key moves.
pub loop-preserved : goal.loop-preserved
loop-preserved c =
    let fewer = due-fewer c.loop.delays.delays c.take_due.new.self.delays c.args.now c.in-Some.key c.loop.invariant.0.2 c.in-Some.ensures.key c.in-Some.ensures.left in
    let room = c.loop.invariant.1.0 in (
      due-moves c.loop.queue.queue c.add_reserved.new.self.queue c.loop.delays.delays c.take_due.new.self.delays c.args.now c.in-Some.key c.args.queue.now.queue c.args.delays.now.delays
          c.loop.invariant.0 c.in-Some.ensures.key c.in-Some.ensures.left c.add_reserved.ensures.added,
      (omega (arith, fewer, room, c.add_reserved.ensures.room), c.take_due.ensures.room ∙ c.loop.invariant.1.1),
      omega (arith, fewer, c.loop.invariant.2),
    )
