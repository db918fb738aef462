use Rattle.std.proofs.Common.{◌≡◌, refl}
use Rattle.jc_types.specs.declared.actions.Command.{Command}
use Rattle.jc_log.specs.Deeds.{act_of_action}
use Rattle.jc_runs.specs.ValidActions.{IsValidAction}
use Rattle.jc_runs.specs.Legal.{IsOfShape}
use Rattle.jc_reap.proofs.Fits.{of-all}
use Rattle.jc_reap.proofs.laws.reaped_commands_fit.Goals as goal

-- Nothing is asked of a mark, a clock, a delete or a settle.
pub returns-clause-valid : goal.returns-clause-valid
returns-clause-valid c = λ seen ttls. of-all (λ (command : Command). IsValidAction command.action) (λ u. tt) (λ n. tt) (λ k. tt) tt seen ttls

pub returns-clause-within : goal.returns-clause-within
returns-clause-within c = λ shape seen ttls.
    of-all (λ (command : Command). IsOfShape shape (act_of_action command.action)) (λ u. tt) (λ n. tt) (λ k. tt) tt seen ttls

pub returns-clause-lane : goal.returns-clause-lane
returns-clause-lane c = λ seen ttls. of-all (λ (command : Command). command.lane ≡ 0) (λ u. refl) (λ n. refl) (λ k. refl) refl seen ttls
