use Rattle.jc_play.proofs.SystemFacts.{step-coming}
use Rattle.jc_play.proofs.bringing.step_event.Goals as goal

pub returns-clause-coming : goal.returns-clause-coming
returns-clause-coming c = step-coming c.args.machine.now c.args.controller c.args.worker c.requires.of_shape c.requires.worker _ c.step_first.ensures
