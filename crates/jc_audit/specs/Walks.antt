-- The walk over the lines of events, from the empty script and the empty history.
--     at_first shape             nothing has happened, and the script has no command
--     last_line seen             the line of the newest event
--     TakesCommand, TakesSystem  the event of a line is a command more of the script, or one of the system
--     TakesLine seen new         one of both
--     Walks shape seen text      by the lines of the text so far has come
--     NoneIsTaken seen rest      the rest begins with the line of no event that is taken
--     HasTaken old new rest n    it begins with the line, of so many bytes, of one that was
use Rattle.std.specs.Prelude.{◌≡◌, ℕ, ◌+◌, ◌<◌, List, [], ◌∷◌, ◌++◌, drop, length, ◌≤◌, ◌⊎◌, Option, None, Some}
use Rattle.jc_types.specs.declared.actions.Command.{Command}
use Rattle.jc_types.specs.declared.runs.Event.TheVariants as event
use Rattle.jc_types.specs.declared.runs.Shape.{Shape}
use Rattle.jc_types.specs.declared.runs.Sys.{Sys}
use Rattle.jc_log.specs.Deeds.{Deed, act_of_system}
use Rattle.jc_history.specs.Available.{WasAvailable, available}
use Rattle.jc_runs.specs.Seen.{Admits, Seen, deeds_seen, happened, log_seen}
use Rattle.jc_lines.specs.Events.{event_line}
use Rattle.jc_reading.specs.Proper.{IsProperCommand, as_begin}
use Rattle.jc_reading.specs.Reads.{BeginsWith, IsProperRead, begun_read}
use Rattle.jc_reading.specs.declared.reads.LineAct.TheVariants as read
use Rattle.jc_reading.specs.declared.reads.LineRead.{LineRead}
use Rattle.jc_play.specs.Longer.{extended}

-- Nothing has happened, and the script has no command.
abbrev pub at_first : Shape → Seen
at_first shape = record { script = record { commands = [] }; shape = shape; pasts = [] }

-- The line of the newest of the deeds.
abbrev pub line_of_last : List Deed → List ℕ
line_of_last [] = []
line_of_last (d ∷ past) = event_line (1 + length past) d

-- The line of the newest event.
abbrev pub last_line : Seen → List ℕ
last_line seen = line_of_last (deeds_seen seen)

-- The command, with the begin in a sync's place.
abbrev pub begun_command : Command → Command
begun_command command = record command { action = as_begin command.action }

-- Once the command stands at the end of the script and has happened.
abbrev pub with_command : Seen → Command → Seen
with_command seen command =
    happened (extended seen command) (event.Command command.lane (length seen.script.commands))

-- A command that a script may say is put at the end of the script, as its lane's next one, and happens.
pub record TakesCommand (seen new : Seen) : Type 0 where
  pub command : Command
  pub proper : IsProperCommand command
  pub admits : Admits (extended seen (begun_command command)) (event.Command command.lane (length seen.script.commands))
  pub is : new ≡ with_command seen (begun_command command)

-- An event of the system that is available happens.
pub record TakesSystem (seen new : Seen) : Type 0 where
  pub system : Sys
  pub admits : Admits seen (event.System system)
  pub among : WasAvailable (act_of_system system) None (available seen.shape (deeds_seen seen) (log_seen seen))
  pub is : new ≡ happened seen (event.System system)

-- There is room for one event more, and it is one of both.
pub record TakesLine (seen new : Seen) : Type 0 where
  pub few : length seen.pasts < seen.shape.events
  pub one : TakesCommand seen new ⊎ TakesSystem seen new

-- The text is the lines of the events that have led there.
pub data Walks (shape : Shape) : Seen → List ℕ → Type 0 where
  Begins : Walks shape (at_first shape) []
  GoesOn : (seen new : Seen) (text : List ℕ) → Walks shape seen text → TakesLine seen new → Walks shape new (text ++ last_line new)

-- The rest of the bytes begins with the line of no event that is taken.
abbrev pub NoneIsTaken : Seen → List ℕ → Type 0
NoneIsTaken seen rest = (new : Seen) (more : List ℕ) → TakesLine seen new → rest ≡ last_line new ++ more → ⊥

-- An event that is taken and whose line they begin with has happened, and is the one that did.
abbrev pub IsOnlyTaken : Seen → Seen → List ℕ → Type 0 → Type 0
IsOnlyTaken old new rest has_happened =
    (other : Seen) (more : List ℕ) → TakesLine old other → rest ≡ last_line other ++ more → has_happened × (other ≡ new)

-- How long the line of the newest event is, where they begin with it.
abbrev pub IsLineLen : Seen → List ℕ → Option ℕ → Type 0
IsLineLen seen rest (Some n) = (rest ≡ last_line seen ++ drop n rest) × (n ≡ length (last_line seen)) × (n ≤ length rest)
IsLineLen seen rest None = (more : List ℕ) → rest ≡ last_line seen ++ more → ⊥

-- It begins with the line of the event that was taken, which has so many bytes.
pub record HasTaken (old new : Seen) (rest : List ℕ) (n : ℕ) : Type 0 where
  pub takes : TakesLine old new
  pub begins : rest ≡ last_line new ++ drop n rest
  pub some : 0 < n
  pub within : n ≤ length rest

-- What is read of the line of a command that is taken, and of that of an event of the system.
abbrev pub read_of_command : (seen new : Seen) → TakesCommand seen new → LineRead
read_of_command seen new t = record { lane = Some t.command.lane; act = read.Command t.command.action }

abbrev pub read_of_system : (seen new : Seen) → TakesSystem seen new → LineRead
read_of_system seen new t = record { lane = None; act = read.System t.system }

-- What was read of the bytes: they begin with its front, and with no other.
pub record IsRead (rest : List ℕ) (read : LineRead) : Type 0 where
  pub proper : IsProperRead read
  pub begins : BeginsWith rest read
  pub only : (other : LineRead) → IsProperRead other → BeginsWith rest other → read ≡ begun_read other
