-- A lock and its seats, as contracts see them.
--     TurnLockView, LockSeatView  the lock; one seat
--     fresh_seat table number     a seat that has seen nothing
--     IsSeat views                what the type of a seat keeps
--     AreSeatsOf lock seats       all seats of the lock, each once
--     BelongTo lock seats         the seats belong to the lock
--     IsSameSeat old new          the seat belongs to the same lock, under the same number
--     NoSeatHolds seats               none of them holds
--     HaveSeen seats history      what each has seen is a beginning of the history
use Rattle.std.specs.Prelude.{◌≡◌, ℕ, zero, suc, Bool, false, List, [], ◌∷◌, length}
use Rattle.std.specs.List.{AllByRecursion as Each}
use mathlib.Core.List.{IsPrefix}
use Rattle.atomic_table.specs.Seated.{TableId}
use Rattle.jc_types.specs.declared.runs.Past.{Past}
use Rattle.jc_turn.specs.declared.board.LockStage.{LockStage}
use Rattle.jc_turn.specs.declared.board.LockStage.TheVariants.{Rests, Moves, Holds}
use Rattle.jc_turn.specs.declared.board.LockPlaceView.{LockPlaceView}
use Rattle.jc_turn.specs.LockRules.{holds_value, spent_view}

-- Which lock it is, and how many seats it has.
pub record TurnLockView : Type 0 where
  pub name : TableId
  pub seats : ℕ

-- The lock that the seat belongs to, its number, whether it holds the value, what it has seen of
-- the history, and how many of its tries found the value out.
pub record LockSeatView : Type 0 where
  pub lock : TableId
  pub number : ℕ
  pub holds : Bool
  pub seen : List Past
  pub lost : ℕ

-- A seat that has done nothing.
abbrev pub fresh_seat : TableId → ℕ → LockSeatView
fresh_seat lock number =
    record { lock = lock; number = number; holds = false; seen = []; lost = 0 }

-- So many seats, with the numbers from this one on.
abbrev pub fresh_seats : TableId → ℕ → ℕ → List LockSeatView
fresh_seats lock from zero = []
fresh_seats lock from (suc n) = fresh_seat lock from ∷ fresh_seats lock (suc from) n

-- The one view of a seat.
abbrev pub view_of : List LockPlaceView → LockPlaceView
view_of [] = spent_view
view_of (v ∷ vs) = v

abbrev pub seat_view : TableId → ℕ → LockPlaceView → LockSeatView
seat_view lock number v = record {
  lock = lock;
  number = number;
  holds = holds_value v.stage;
  seen = v.seen;
  lost = v.lost;
}

-- It is not between two steps of a call.
abbrev pub IsStill : LockStage → Type 0
IsStill Rests = Unit {0}
IsStill Moves = ⊥
IsStill Holds = Unit {0}

-- What the type of a seat keeps of its views.
pub record IsSeat (views : List LockPlaceView) : Type 0 where
  pub one : views ≡ view_of views ∷ []
  pub still : IsStill (view_of views).stage
  pub old : (view_of views).old ≡ []
  pub weight : (view_of views).weight ≡ 1

-- The table of a lock has one word and one slot.
abbrev pub IsLock : TableId → Type 0
IsLock t = (t.words ≡ 1) × (t.slots ≡ 1)

-- The seats belong to this lock.
abbrev pub BelongTo : TableId → List LockSeatView → Type 0
BelongTo lock seats = Each (λ (s : LockSeatView). s.lock ≡ lock) seats

-- All seats of the lock, each once: no seat can be copied, so as many as it has are all of them.
abbrev pub AreSeatsOf : TurnLockView → List LockSeatView → Type 0
AreSeatsOf lock seats = BelongTo lock.name seats × (length seats ≡ lock.seats)

-- The seat belongs to the same lock, under the same number.
abbrev pub IsSameSeat : LockSeatView → LockSeatView → Type 0
IsSameSeat s t = (t.lock ≡ s.lock) × (t.number ≡ s.number)

-- None of the seats holds.
abbrev pub NoSeatHolds : List LockSeatView → Type 0
NoSeatHolds seats = Each (λ (s : LockSeatView). s.holds ≡ false) seats

-- What each of the seats has seen is a beginning of this history.
abbrev pub HaveSeen : List LockSeatView → List Past → Type 0
HaveSeen seats history = Each (λ (s : LockSeatView). IsPrefix s.seen history) seats
