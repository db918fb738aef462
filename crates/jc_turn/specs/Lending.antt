-- What the seats are once a borrow of them is over.
use Rattle.std.specs.Prelude.{List, length}
use Rattle.std.specs.List.{refill}
use Rattle.std.specs.Borrow.{Lends, MutBor, Fml, Array}
use Rattle.jc_turn.specs.LockSeats.{LockSeatView}
use Rattle.jc_turn.specs.contracts.seating.LockSeat.{the_row as seat_row}
use Rattle.jc_turn.specs.contracts.seating.LockSeats.{the_row as seats_row}

-- The seats are those that were left behind the borrow: as many as there were.
abbrev pub LendsSeats : MutBor (List LockSeatView) → MutBor (List LockSeatView) → Fml
LendsSeats seats lent =
    Lends seats_row (Array seat_row 0) seats lent (λ left. refill (length seats.now) seats.now left)
