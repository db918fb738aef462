-- What a text says fits its shape.
use Rattle.jc_single.proofs.ShapeFacts.{few_commands, read_within}
use Rattle.jc_single.proofs.orders.run_answer.Goals as goal

pub script_answer-requires-clause-valid_actions : goal.script_answer-requires-clause-valid_actions
script_answer-requires-clause-valid_actions c = c.scripts_fit_their_shape.ensures.valid _ _ _ c.in_ok-script.ensures.script

pub script_answer-requires-clause-fits_shape : goal.script_answer-requires-clause-fits_shape
script_answer-requires-clause-fits_shape c =
    read_within c.args.shape _ (c.scripts_fit_their_shape.ensures.within _ _ _ c.requires.fits.some_controllers
    c.requires.fits.some_workers c.in_ok-script.ensures.script)

pub script_answer-requires-clause-fits : goal.script_answer-requires-clause-fits
script_answer-requires-clause-fits c =
    few_commands _ (c.scripts_fit_their_shape.ensures.few_commands _ _ _ c.in_ok-script.ensures.script)
