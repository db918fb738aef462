use Rattle.std.proofs.Common.{◌<◌, arith}
use Rattle.jc_types.specs.declared.actions.Command.{Command}
use Rattle.jc_states.specs.ValidActions.{IsValidAction}
use Rattle.jc_script.specs.Fits.{NamesShape}
use Rattle.jc_script.proofs.FitFacts.{IsFit, each_map, script_fits}
use Rattle.jc_script.proofs.laws.scripts_fit_their_shape.Goals as goal

pub returns-clause-valid : goal.returns-clause-valid
returns-clause-valid c shape text commands said =
    each_map (IsFit shape) (λ (command : Command). IsValidAction command.action) (λ command fit. fit.fits.valid) commands
    (script_fits shape text commands said).each

pub returns-clause-within : goal.returns-clause-within
returns-clause-within c shape text commands some others said =
    each_map (IsFit shape) (λ (command : Command). NamesShape shape command.action)
    (λ command fit. fit.fits.within some others) commands (script_fits shape text commands said).each

pub returns-clause-lanes : goal.returns-clause-lanes
returns-clause-lanes c shape text commands said =
    each_map (IsFit shape) (λ (command : Command). command.lane < 16) (λ command fit. fit.lane) commands
    (script_fits shape text commands said).each

pub returns-clause-few_commands : goal.returns-clause-few_commands
returns-clause-few_commands c shape text commands said =
    let few = (script_fits shape text commands said).few in omega (arith, few)
