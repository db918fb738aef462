-- Plays and runs that are allowed events enough.
--     EndsInTime shape ended script          where the play of the script ends in time, the run does not end as full
--     IsDoneInTime lock shape left ended     so it is of the script that a run without threads has read
--     IsSettledPlay script shape history     the history is the play of such a script, and ends in a settle
use Rattle.std.specs.Prelude.{◌≡◌, ◌≢◌, ℕ, ◌≤◌, true, List, Option, IfOk, IfSome}
use Rattle.jc_types.specs.declared.actions.Script.{Script}
use Rattle.jc_types.specs.declared.runs.History.{History}
use Rattle.jc_types.specs.declared.runs.Shape.{Shape}
use Rattle.jc_promise.specs.Play.{play_of}
use Rattle.jc_promise.specs.Plays.{PlayEnds, ends_in_settle}
use Rattle.jc_words.specs.declared.words.LockKind.{LockKind}
use Rattle.jc_words.specs.declared.words.Order.TheVariants.{Run}
use Rattle.jc_single.specs.Headlines.{IsPlayable}
use Rattle.jc_single.specs.Played.{script_played}
use Rattle.jc_single.specs.declared.status.Status.{Status}
use Rattle.jc_single.specs.declared.status.Status.TheVariants as status

-- Where the play of the script ends, and the shape allows the events of it, the run does not end as full.
abbrev pub EndsInTime : Shape → Status → Script → Type 0
EndsInTime shape ended script =
    (play : PlayEnds script shape) → play.events ≤ shape.events → ended ≢ status.HistoryFull

-- So it is of the script that a run without threads has read, where its source tells what it has left.
abbrev pub IsDoneInTime : LockKind → Shape → Option (List ℕ) → Status → Type 0
IsDoneInTime lock shape left ended =
    IfSome left (λ input. IfOk (script_played (Run 0 lock shape) input) (EndsInTime shape ended))

-- The history is the play of a script that ends in a settle, and has events enough.
pub record IsSettledPlay (script : Script) (shape : Shape) (history : History) : Type 0 where
  pub playable : IsPlayable script shape
  pub settles : ends_in_settle script.commands ≡ true
  pub play : PlayEnds script shape
  pub enough : play.events ≤ shape.events
  pub is : history.events.items ≡ play_of script shape
