-- The commands that a report tells are valid.
use Rattle.std.proofs.Common.{List, [], ◌∷◌, ◌<◌, ◌^◌, arith}
use Rattle.std.specs.List.{AllByRecursion as Each}
use Rattle.jc_types.specs.declared.actions.Action1.{Action1}
use Rattle.jc_types.specs.declared.actions.Command.{Command}
use Rattle.jc_single.specs.ValidActions.{AreValidCommands, IsValidAction}
use Rattle.jc_audit.specs.Proper.{IsProperAction, IsProperCommand}
use Rattle.jc_ctl.proofs.laws.audited_reports_keep_the_promises.Goals as goal

valid-of : ((action : Action1) → IsProperAction action → IsValidAction action) → (commands : List Command)
    → Each IsProperCommand commands → AreValidCommands commands
valid-of valid [] h = tt
valid-of valid (command ∷ commands) h = (valid command.action h.0.action, valid-of valid commands h.1)

lanes-of : (commands : List Command) → Each IsProperCommand commands → Each (λ (command : Command). command.lane < 2 ^ 8) commands
lanes-of [] h = tt
lanes-of (command ∷ commands) h = (let few = h.0.lane in omega (arith, few), lanes-of commands h.1)

pub returns : goal.returns
returns c = λ shape input fits report.
    let told = c.reports_are_of_histories.ensures shape input report in
    record {
      reported = told;
      keeps = c.legal_histories_keep_the_promises.ensures told.script shape told.history
          (valid-of c.proper_actions_are_valid.ensures told.script.commands told.printable.proper) fits.some_controllers fits.some_workers
          fits.few_events told.printable.legal;
      events = c.orderly_histories_have_small_numbers.ensures told.script shape told.history (lanes-of told.script.commands told.printable.proper)
          (let few = fits.few_controllers in omega (arith, few)) (let few = fits.few_workers in omega (arith, few)) told.printable.legal told.printable.orderly;
    }
