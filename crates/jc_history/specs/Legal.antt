-- When a history is one of the script and the shape.
--     IsOfShape shape act          the controller and the worker are of the shape
--     MaySettle act quiescent      a settle comes only where nothing is available
--     IsLegalNext shape past d     the deed is what the table of events gives after the past
--     IsLegal shape deeds          each deed is
--     lane_places, next_command    the places of a lane's commands in the script, and that of the next
--     InLanes script events        each command came as its lane's next one
--     AreUsed script events        no lane has a command left
--     IsHistory script shape h     all together
use Rattle.std.specs.Prelude.{◌≡◌, ℕ, ◌+◌, ◌<◌, ◌≤◌, ◌==◌, Bool, true, false, List, [], ◌∷◌, length, filter, reverse, slice_get, if◌then◌else◌, Option, Some, None}
use Rattle.jc_log.specs.Acts as does
use Rattle.jc_types.specs.declared.actions.Command.{Command}
use Rattle.jc_types.specs.declared.actions.Script.{Script}
use Rattle.jc_types.specs.declared.runs.Event.{Event}
use Rattle.jc_types.specs.declared.runs.Event.TheVariants as event
use Rattle.jc_types.specs.declared.runs.History.{History}
use Rattle.jc_types.specs.declared.runs.Past.{Past}
use Rattle.jc_types.specs.declared.runs.Shape.{Shape}
use Rattle.jc_log.specs.Acts.{Act}
use Rattle.jc_log.specs.Deeds.{Deed, deeds}
use Rattle.jc_history.specs.Available.{is_quiescent}
use Rattle.jc_history.specs.Replies.{log_given, reply_given}

-- ---- deeds

-- The controller and the worker are of the shape.
abbrev pub IsOfShape : Shape → Act → Type 0
IsOfShape shape (does.List controller kind) = controller < shape.controllers
IsOfShape shape (does.Deliver controller kind) = controller < shape.controllers
IsOfShape shape (does.Begin controller worker) = (controller < shape.controllers) × (worker < shape.workers)
IsOfShape shape (does.Step controller worker) = (controller < shape.controllers) × (worker < shape.workers)
IsOfShape shape (does.Restart controller) = controller < shape.controllers
IsOfShape shape (does.PutFault controller worker fault) = (controller < shape.controllers) × (worker < shape.workers)
IsOfShape shape other = Unit {0}

-- A settle comes only where nothing is available.
abbrev pub MaySettle : Act → Bool → Type 0
MaySettle does.Settle quiescent = quiescent ≡ true
MaySettle other quiescent = Unit {0}

-- The deed is what the table of events gives after the past.
pub record IsLegalNext (shape : Shape) (past : List Deed) (d : Deed) : Type 0 where
  pub within : IsOfShape shape d.act
  pub settled : MaySettle d.act (is_quiescent shape past (log_given shape past))
  pub reply : d.reply ≡ reply_given shape past (log_given shape past) d.act
  pub length : d.length.0 ≡ length (log_given shape (d ∷ past))

-- Each deed is.
abbrev pub IsLegal : Shape → List Deed → Type 0
IsLegal shape [] = Unit {0}
IsLegal shape (d ∷ past) = IsLegalNext shape past d × IsLegal shape past

-- ---- lanes

-- The places of the lane's commands, in the order of the script, from this place on.
abbrev pub places_from : ℕ → ℕ → List Command → List ℕ
places_from lane place [] = []
places_from lane place (command ∷ commands) =
    if command.lane == lane then place ∷ places_from lane (place + 1) commands
    else places_from lane (place + 1) commands

-- Those of all commands.
abbrev pub lane_places : ℕ → List Command → List ℕ
lane_places lane commands = places_from lane 0 commands

-- The event is a command of the lane.
abbrev pub is_of_lane : ℕ → Past → Bool
is_of_lane lane past = by past.event
  where
    by : Event → Bool
    by (event.Command other number) = other == lane
    by (event.System system) = false

-- How many commands of the lane were played.
abbrev pub lane_count : ℕ → List Past → ℕ
lane_count lane events = length (filter (is_of_lane lane) events)

-- The place of its next one.
abbrev pub next_command : List Command → ℕ → List Past → Option ℕ
next_command commands lane events = slice_get (lane_places lane commands) (lane_count lane events)

-- The event, if it is a command, is its lane's next one; the events before it are newest first.
abbrev pub ComesNext : List Command → List Past → Event → Type 0
ComesNext commands before (event.Command lane number) = next_command commands lane before ≡ Some number
ComesNext commands before (event.System system) = Unit {0}

-- Each command came as its lane's next one.
abbrev pub InLanes : List Command → List Past → Type 0
InLanes commands [] = Unit {0}
InLanes commands (past ∷ before) = ComesNext commands before past.event × InLanes commands before

-- No lane has a command left.
abbrev pub AreUsed : List Command → List Past → Type 0
AreUsed commands events = (lane : ℕ) → next_command commands lane events ≡ None

-- ---- histories

-- A history of the script and the shape: few events, the commands of each lane in their order, and legal deeds.
pub record IsHistory (script : Script) (shape : Shape) (history : History) : Type 0 where
  pub few : length history.events.items ≤ shape.events
  pub lanes : InLanes script.commands (reverse history.events.items)
  pub legal : IsLegal shape (deeds script history)
