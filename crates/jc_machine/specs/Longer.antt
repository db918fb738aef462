-- A machine whose script has a command more.
--     extended seen command          what is then seen
use Rattle.jc_types.specs.declared.actions.Command.{Command}
use Rattle.jc_lanes.specs.LongerScripts.{longer}
use Rattle.jc_runs.specs.Seen.{Seen}

-- What is then seen.
abbrev pub extended : Seen → Command → Seen
extended seen command = record seen { script = longer seen.script command }
