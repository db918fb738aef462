-- What a script says fits its shape.
use Rattle.jc_ctl.proofs.ShapeFacts.{read_within}
use Rattle.jobctl.proofs.tests.script_in.Goals as goal

pub returns-in-Ok-clause-fits_shape : goal.returns-in-Ok-clause-fits_shape
returns-in-Ok-clause-fits_shape c =
    read_within c.args.shape.now _ (c.scripts_fit_their_shape.ensures.within c.args.shape.now _ _ c.requires.some_controllers
    c.requires.some_workers c.in-Ok.ensures.script)
