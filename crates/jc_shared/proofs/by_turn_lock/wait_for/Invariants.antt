use Rattle.std.proofs.Common.{◌≡◌, false}
use Rattle.jc_turn.specs.LockSeats.{IsSameSeat}
use Rattle.jc_shared.proofs.by_turn_lock.wait_for.Given as goal

-- A try that finds the cluster out leaves what the seat has seen.
abbrev pub invariant-loop : goal.invariant-loop
invariant-loop g l =
    IsSameSeat l.initial.seat l.seat × (l.seat.holds ≡ false) × (l.seat.seen ≡ l.initial.seat.seen)
