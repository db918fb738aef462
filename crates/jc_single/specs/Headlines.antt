-- The headline: what was written is the report of a legal history of the script, of which all promises hold.
--     ends_full status                  the run ended with its history full
--     EndsAtRest threads script         the script is played until nothing is left to do
--     IsPlayedOut script shape history      every lane is used up, and nothing is left to do
--     IsReportOf history threads script shape full text     the text is the report of this history of the script
--     IsReport threads script shape full text     it is that of a history whose lines tell it
--     IsPlayable script shape           of the play of the script in the shape all is promised
--     HasSmallNumbers script shape      the lanes and the numbers of the shape are such as the code's types hold
--     TellsHistory threads script shape full old new    that was written to the sink
--     TellsFront threads script shape old new     the front of it was
use Rattle.std.specs.Prelude.{◌≡◌, ℕ, ◌<◌, ◌≤◌, ◌^◌, ◌⊎◌, Bool, true, false, List, length, reverse, Option}
use Rattle.std.specs.Io.KnownBytes.{Appends}
use Rattle.std.specs.List.{AllByRecursion as Each}
use Rattle.jc_io.specs.Moved.{AppendsFront}
use Rattle.jc_types.specs.declared.actions.Command.{Command}
use Rattle.jc_types.specs.declared.actions.Script.{Script}
use Rattle.jc_types.specs.declared.runs.History.{History}
use Rattle.jc_types.specs.declared.runs.Shape.{Shape}
use Rattle.jc_promise.specs.Deeds.{deeds}
use Rattle.jc_promise.specs.Available.{IsOrderly, is_quiescent}
use Rattle.jc_promise.specs.Legal.{AreUsed, IsHistory}
use Rattle.jc_promise.specs.Replies.{log_given}
use Rattle.jc_promise.specs.Plays.{IsScriptFor, ends_in_settle}
use Rattle.jc_promise.specs.Promises.{KeepsPromises}
use Rattle.jc_promise.specs.ValidActions.{AreValidCommands}
use Rattle.jc_report.specs.Reports.{report_text}
use Rattle.jc_report.specs.Told.{AreEvents}
use Rattle.jc_single.specs.declared.status.Status.{Status}
use Rattle.jc_single.specs.declared.status.Status.TheVariants as status

-- The run ended with its history full.
abbrev pub ends_full : Status → Bool
ends_full status.HistoryFull = true
ends_full other = false

-- The script is played until nothing is left to do: on threads always, on one where it ends in a settle.
abbrev pub EndsAtRest : ℕ → Script → Type 0
EndsAtRest threads script = (1 ≤ threads) ⊎ (ends_in_settle script.commands ≡ true)

-- Every lane is used up, and nothing is left to do.
pub record IsPlayedOut (script : Script) (shape : Shape) (history : History) : Type 0 where
  pub used : AreUsed script.commands (reverse history.events.items)
  pub rests : is_quiescent shape (deeds script history) (log_given shape (deeds script history)) ≡ true

-- The text is the report of this history of the script: legal, in the order of its lanes, and orderly, so
-- that the clock moves of itself only where nothing else can be done. The statuses and verdicts that are
-- printed are those of the log of that history. All promises hold of it. Where it is not full every lane
-- is used up, and where the script is played until then nothing is left to do. Where it is full on threads,
-- a lane is not used up or something is left to do.
pub record IsReportOf (history : History) (threads : ℕ) (script : Script) (shape : Shape) (full : Bool)
    (text : List ℕ) : Type 0 where
  pub text_is : text
      ≡ report_text script history.events.items (log_given shape (deeds script history)) full
  pub legal : IsHistory script shape history
  pub orderly : IsOrderly shape (deeds script history)
  pub keeps : KeepsPromises script shape history
  pub used : full ≡ false → AreUsed script.commands (reverse history.events.items)
  pub rests : full ≡ false → EndsAtRest threads script
      → is_quiescent shape (deeds script history) (log_given shape (deeds script history)) ≡ true
  pub filled : full ≡ true → length history.events.items ≡ shape.events
  pub to_come : full ≡ true → 1 ≤ threads → ¬ IsPlayedOut script shape history

-- The text is the report of a history of the script, the numbers of whose events are such as the code's types
-- hold: so its lines tell it, and no other history of the script with such numbers.
pub record IsReport (threads : ℕ) (script : Script) (shape : Shape) (full : Bool) (text : List ℕ) : Type 0
  where
    pub history : History
    pub told : IsReportOf history threads script shape full text
    pub events : AreEvents history.events.items

-- Its commands are valid, it is a script for the shape, and the shape has a controller, a worker and not too many events.
pub record IsPlayable (script : Script) (shape : Shape) : Type 0 where
  pub valid : AreValidCommands script.commands
  pub fits : IsScriptFor script shape
  pub some_controllers : 0 < shape.controllers
  pub some_workers : 0 < shape.workers
  pub few_events : shape.events ≤ 200000

-- The lanes of the script and the numbers of the shape are such as the code's types hold.
pub record HasSmallNumbers (script : Script) (shape : Shape) : Type 0 where
  pub lanes : Each (λ (command : Command). command.lane < 2 ^ 8) script.commands
  pub few_controllers : shape.controllers ≤ 2 ^ 32
  pub few_workers : shape.workers ≤ 2 ^ 32

-- The sink was given such a report.
pub record TellsHistory (threads : ℕ) (script : Script) (shape : Shape) (full : Bool)
    (old new : Option (List ℕ)) : Type 0 where
  pub text : List ℕ
  pub report : IsReport threads script shape full text
  pub written : Appends old new text

-- The sink was given the front of such a report.
pub record TellsFront (threads : ℕ) (script : Script) (shape : Shape) (old new : Option (List ℕ)) : Type 0
  where
    pub full : Bool
    pub text : List ℕ
    pub report : IsReport threads script shape full text
    pub front : AppendsFront old new text
