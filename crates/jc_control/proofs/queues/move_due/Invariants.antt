use Rattle.std.proofs.Common.{◌≤◌, ◌+◌, length}
use Rattle.jc_control.specs.Schedules.{RoomMoves}
use Rattle.jc_control.proofs.TurnFacts.{ComesTo}
use Rattle.jc_control.proofs.queues.move_due.Given as goal

-- What is left comes to the same, in the room that there was, and there are as many turns left as moments, or
-- more.
abbrev pub invariant-loop : goal.invariant-loop
invariant-loop l =
    ComesTo l.queue.queue l.delays.delays l.now l.fn.queue.queue l.fn.delays.delays
    × RoomMoves l.fn.queue l.fn.delays l.queue l.delays
    × (length l.delays.delays.moments + l.counter ≤ l.end)
