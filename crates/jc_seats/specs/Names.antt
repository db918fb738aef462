-- What the seats of a threaded run share: the script and the shape that a name has, and what is kept besides.
--     no_script      no command, where no run has picked another script
--     no_shape       nothing, where none has picked another shape
--     no_log         no log, where none has picked another log
--     IsOfName       a cluster is of this script and this shape
--     named_seen script shape g       a cluster of this script and shape with the history g
--     AreLanesBelow bound commands    their lanes are below the bound
--     AreLanes commands    their lanes are bytes
--     AreUsedFrom bound seen    each lane from the bound on is used up
--     KeepsRun lanes seen      what the type of what is shared keeps of its cluster
use Rattle.std.specs.Prelude.{◌≡◌, ◌<◌, ◌≤◌, ℕ, List, [], None, reverse}
use Rattle.std.specs.List.{AllByRecursion as Each}
use Rattle.atomic_table.specs.Seated.{TableId}
use Rattle.jc_types.specs.declared.actions.Command.{Command}
use Rattle.jc_types.specs.declared.actions.Script.{Script}
use Rattle.jc_types.specs.declared.runs.Past.{Past}
use Rattle.jc_types.specs.declared.runs.Shape.{Shape}
use Rattle.jc_history.specs.Available.{IsOrderly}
use Rattle.jc_history.specs.Legal.{next_command}
use Rattle.jc_runs.specs.Seen.{Seen, deeds_seen}
use Rattle.jc_core.specs.Places.{most_lanes}

-- No command.
abbrev pub no_script : Script
no_script = record { commands = [] }

-- Nothing.
abbrev pub no_shape : Shape
no_shape = record { controllers = 0; workers = 0; window = 0; events = 0; start = 0 }

-- No log.
abbrev pub no_log : TableId
no_log = record {
  words = 0;
  slots = 0;
  views_name = 0;
  atom = 0;
  block = 0;
  offset = 0;
  slot_names = [];
}

-- The cluster is of this script and this shape.
pub record IsOfName (script : Script) (shape : Shape) (seen : Seen) : Type 0 where
  pub script_is : seen.script ≡ script
  pub shape_is : seen.shape ≡ shape

-- A cluster of this script and this shape with this history, the oldest event first.
abbrev pub named_seen : Script → Shape → List Past → Seen
named_seen script shape g = record { script = script; shape = shape; pasts = reverse g }

-- Each command is of a lane below the bound.
abbrev pub AreLanesBelow : ℕ → List Command → Type 0
AreLanesBelow bound commands = Each (λ (command : Command). command.lane < bound) commands

-- Each command is of a lane that there can be.
abbrev pub AreLanes : List Command → Type 0
AreLanes commands = AreLanesBelow most_lanes commands

-- Each lane from the bound on is used up.
abbrev pub AreUsedFrom : ℕ → Seen → Type 0
AreUsedFrom bound seen =
    (lane : ℕ) → bound ≤ lane → next_command seen.script.commands lane seen.pasts ≡ None

-- What the type keeps: the history is orderly, and only lanes below the number that it keeps have commands
-- left, which is no more than there can be.
pub record KeepsRun (lanes : ℕ) (seen : Seen) : Type 0 where
  pub orderly : IsOrderly seen.shape (deeds_seen seen)
  pub used : AreUsedFrom lanes seen
  pub few : lanes ≤ most_lanes
