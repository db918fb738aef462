use Rattle.std.proofs.Common.{◌≡◌, false}
use Rattle.jc_turn.specs.LockSeats.{IsSameSeat}
use Rattle.jc_shared.proofs.by_turn_lock.run_seat.Given as goal

abbrev pub invariant-loop : goal.invariant-loop
invariant-loop g l = IsSameSeat l.initial.seat l.seat × (l.seat.holds ≡ false)
