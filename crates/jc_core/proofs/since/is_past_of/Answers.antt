use Rattle.std.proofs.Common.{ap, ◌∙◌}
use Rattle.jc_log.specs.Deeds.{act_of_event}
use Rattle.jc_core.specs.Since.{is_touch_of}
use Rattle.jc_core.proofs.SinceFacts.{touch-of}
use Rattle.jc_core.proofs.since.is_past_of.Goals as goal

pub returns : goal.returns
returns c =
    c.is_touch_of.ensures
    ∙ ap (is_touch_of c.args.controller c.args.worker) c.touch_of_event.ensures
    ∙ touch-of c.args.controller c.args.worker (act_of_event c.args.script.now.commands c.args.past.now.event)
