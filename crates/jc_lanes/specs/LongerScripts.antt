-- A script with a command more, and what its histories keep.
--     longer script command       the script with the command at its end
--     longer_place ..             the place of a lane's next command, or else the new one's
--     HasMore lane place old new  each lane's next command is known again, once one is put there
use Rattle.std.specs.Prelude.{◌≡◌, ℕ, ◌==◌, List, [], ◌∷◌, ◌++◌, length, if◌then◌else◌, Option, Some}
use Rattle.std.specs.Option.{option_or}
use Rattle.jc_types.specs.declared.actions.Command.{Command}
use Rattle.jc_types.specs.declared.actions.Script.{Script}
use Rattle.jc_types.specs.declared.runs.Past.{Past}
use Rattle.jc_history.specs.Legal.{InLanes, next_command}
use Rattle.jc_lanes.specs.Places.{HasPlaces}

-- The script with the command at its end.
abbrev pub longer : Script → Command → Script
longer script command = record { commands = script.commands ++ command ∷ [] }

-- The place of the lane's next command once the command stands at the end of the others: the one that there was, or
-- else that of the new command, where it is of the lane.
abbrev pub longer_place : List Command → Command → ℕ → List Past → Option ℕ
longer_place commands command lane before =
    if command.lane == lane then option_or (next_command commands lane before) (Some (length commands))
    else next_command commands lane before

-- Each lane's next command is known again, once a command of the lane is put at that place.
abbrev pub HasMore : ℕ → ℕ → List (Option ℕ) → List (Option ℕ) → Type 0
HasMore lane place old new = (commands : List Command) (command : Command) (before : List Past)
    → command.lane ≡ lane → length commands ≡ place → InLanes commands before → HasPlaces commands before old
    → HasPlaces (longer (record { commands = commands }) command).commands before new
