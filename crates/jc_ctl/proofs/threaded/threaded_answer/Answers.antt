-- What a text says fits its shape.
use Rattle.jc_single.proofs.ShapeFacts.{read_lanes, read_within}
use Rattle.jc_ctl.proofs.threaded.threaded_answer.Goals as goal

pub threaded_report-requires-clause-fits_shape : goal.threaded_report-requires-clause-fits_shape
threaded_report-requires-clause-fits_shape g c κs within =
    read_within c.args.shape.now _ (c.scripts_fit_their_shape.ensures.within _ _ _ c.requires.fit_shape.some_controllers
    c.requires.fit_shape.some_workers c.in_ok-script.ensures.script)

pub threaded_report-requires-clause-lanes : goal.threaded_report-requires-clause-lanes
threaded_report-requires-clause-lanes g c κs within =
    read_lanes _ (c.scripts_fit_their_shape.ensures.lanes _ _ _ c.in_ok-script.ensures.script)
