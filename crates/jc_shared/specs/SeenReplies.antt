-- What a seat of a turn lock is answered to an event.
--     IsSeenHistory seen                     its history is legal and orderly, and counts once
--     Found script shape old g        a history that was found, by a seat that had seen old
--     IsDone seen event answer new    what an event is answered, and what it leaves
--     IsOutAnswer answer              the value was out
--     lost_after answer lost          the count of tries that found it out, after this one
--     SeatIsAnswered ..                   what a seat is answered, and what it has seen then
use Rattle.std.specs.Prelude.{◌≡◌, ℕ, ◌+◌, ◌<◌, ◌≤◌, List, [], ◌∷◌, ◌++◌, length, reverse, Result, Ok, Err}
use mathlib.Core.List.{IsPrefix}
use Rattle.jc_types.specs.declared.actions.Script.{Script}
use Rattle.jc_types.specs.declared.runs.Event.{Event}
use Rattle.jc_types.specs.declared.runs.Past.{Past}
use Rattle.jc_types.specs.declared.runs.Shape.{Shape}
use Rattle.jc_runs.specs.Once.{OnceAtEach}
use Rattle.jc_history.specs.Available.{IsOrderly}
use Rattle.jc_history.specs.Legal.{InLanes, IsLegal}
use Rattle.jc_runs.specs.Seen.{Seen, deeds_seen, happened, log_seen, past_seen, reply_seen}
use Rattle.jc_seats.specs.ApplyFault.{ApplyFault}
use Rattle.jc_seats.specs.ApplyFault.TheVariants.{HistoryFull, Want}
use Rattle.jc_seats.specs.Actors.{CanCome}
use Rattle.jc_seats.specs.Names.{named_seen}
use Rattle.jc_shared.specs.declared.seen.SeenReply.{SeenReply}
use Rattle.jc_shared.specs.declared.seen.SeenReply.TheVariants as seen

-- The history is a legal and orderly one of the script, and it counts once.
pub record IsSeenHistory (seen : Seen) : Type 0 where
  pub legal : IsLegal seen.shape (deeds_seen seen)
  pub orderly : IsOrderly seen.shape (deeds_seen seen)
  pub lanes : InLanes seen.script.commands seen.pasts
  pub few : length seen.pasts ≤ seen.shape.events
  pub once : OnceAtEach (deeds_seen seen) (log_seen seen)

-- The history that was found stands, and begins with what the seat had seen.
pub record Found (script : Script) (shape : Shape) (old g : List Past) : Type 0 where
  pub begins : IsPrefix old g
  pub stands : IsSeenHistory (named_seen script shape g)

-- What an event is answered, and what it leaves.
abbrev pub IsDone : Seen → Event → Result SeenReply ApplyFault → Seen → Type 0
IsDone old event (Ok (seen.Reply r)) new =
    CanCome old event × (length old.pasts < old.shape.events) × (r ≡ reply_seen old event)
    × (new ≡ happened old event)
IsDone old event (Ok seen.NotNow) new = (¬ CanCome old event) × (new ≡ old)
IsDone old event (Ok seen.Out) new = ⊥
IsDone old event (Err HistoryFull) new =
    CanCome old event × (length old.pasts ≡ old.shape.events) × (new ≡ old)
IsDone old event (Err Want) new = new ≡ old

-- The value was out.
abbrev pub IsOutAnswer : Result SeenReply ApplyFault → Type 0
IsOutAnswer (Ok seen.Out) = Unit {0}
IsOutAnswer other = ⊥

-- How many tries have found it out, where so many had before this one.
abbrev pub lost_after : Result SeenReply ApplyFault → ℕ → ℕ
lost_after (Ok seen.Out) lost = lost + 1
lost_after other lost = lost

-- What the seat is answered, which had seen the one list and has seen the other now.
abbrev pub SeatIsAnswered : Script → Shape → Event → Result SeenReply ApplyFault → List Past → List Past
    → Type 0
SeatIsAnswered script shape event (Ok (seen.Reply r)) old new =
    (g : List Past) × Found script shape old g × CanCome (named_seen script shape g) event
    × (length g < shape.events) × (r ≡ reply_seen (named_seen script shape g) event)
    × (new ≡ g ++ past_seen (named_seen script shape g) event ∷ [])
SeatIsAnswered script shape event (Ok seen.NotNow) old new =
    Found script shape old new × (¬ CanCome (named_seen script shape new) event)
SeatIsAnswered script shape event (Ok seen.Out) old new = new ≡ old
SeatIsAnswered script shape event (Err HistoryFull) old new =
    Found script shape old new × CanCome (named_seen script shape new) event
    × (length new ≡ shape.events)
SeatIsAnswered script shape event (Err Want) old new = Found script shape old new
