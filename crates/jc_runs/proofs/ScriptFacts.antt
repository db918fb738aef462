-- A script whose Jobs are valid makes histories whose Jobs are.
use Rattle.std.proofs.Common.{ℕ, zero, suc, List, [], ◌∷◌, slice_get}
use Rattle.jc_types.specs.declared.actions.Action1.{Action1}
use Rattle.jc_types.specs.declared.actions.Action1.TheVariants as action
use Rattle.jc_types.specs.declared.actions.Command.{Command}
use Rattle.jc_types.specs.declared.actions.Script.{Script}
use Rattle.jc_types.specs.declared.runs.Event.{Event}
use Rattle.jc_types.specs.declared.runs.Event.TheVariants as event
use Rattle.jc_types.specs.declared.runs.Past.{Past}
use Rattle.jc_types.specs.declared.runs.Sys.{Sys}
use Rattle.jc_types.specs.declared.runs.Sys.TheVariants as sys
use Rattle.jc_log.specs.Deeds.{act_of_action, act_of_command, act_of_event, act_of_system}
use Rattle.jc_runs.specs.Machines.{AllAskValid, AsksValid}
use Rattle.jc_states.specs.ValidActions.{AreValidCommands, IsValidAction}
use Rattle.jc_runs.specs.Seen.{deeds_in}

action_valid : (a : Action1) → IsValidAction a → AsksValid (act_of_action a)
action_valid (action.Create key spec) fine = fine
action_valid other fine = tt

system_valid : (s : Sys) → AsksValid (act_of_system s)
system_valid (sys.List controller kind) = tt
system_valid (sys.Deliver controller kind) = tt
system_valid (sys.Begin controller worker) = tt
system_valid (sys.Step controller worker) = tt
system_valid sys.Node = tt
system_valid (sys.Clock add) = tt

command_valid : (commands : List Command) (n : ℕ) → AreValidCommands commands → AsksValid (act_of_command (slice_get commands n))
command_valid [] zero fine = tt
command_valid [] (suc n) fine = tt
command_valid (command ∷ commands) zero fine = action_valid command.action fine.0
command_valid (command ∷ commands) (suc n) fine = command_valid commands n fine.1

pub asks_valid : (script : Script) (pasts : List Past) → AreValidCommands script.commands → AllAskValid (deeds_in script pasts)
asks_valid script [] fine = tt
asks_valid script (past ∷ pasts) fine = (by past.event, asks_valid script pasts fine)
  where
    by : (e : Event) → AsksValid (act_of_event script.commands e)
    by (event.Command lane number) = command_valid script.commands number fine
    by (event.System s) = system_valid s
