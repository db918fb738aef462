-- When a command of a script is valid: a Job is created with a valid specification, and a fate has
-- at least one end.
--     IsValidAction action         the command is valid
--     AreValidCommands commands    each of them is
use Rattle.std.specs.Prelude.{◌≢◌, List, []}
use Rattle.std.specs.List.{AllByRecursion as Each}
use Rattle.jc_types.specs.declared.actions.Action1.{Action1}
use Rattle.jc_types.specs.declared.actions.Command.{Command}
use Rattle.jc_types.specs.declared.actions.Action1.TheVariants as action
use Rattle.jc_types.specs.ValidSpecs.{IsValidSpec}

abbrev pub IsValidAction : Action1 → Type 0
IsValidAction (action.Create key spec) = IsValidSpec spec
IsValidAction (action.Fate key ends) = ends ≢ []
IsValidAction other = Unit {0}

-- So is each of the commands.
abbrev pub AreValidCommands : List Command → Type 0
AreValidCommands commands = Each (λ (command : Command). IsValidAction command.action) commands
