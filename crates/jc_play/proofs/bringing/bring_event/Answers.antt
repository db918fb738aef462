use Rattle.jc_play.proofs.SystemFacts.{bring-coming}
use Rattle.jc_play.proofs.bringing.bring_event.Goals as goal

pub returns-clause-coming : goal.returns-clause-coming
returns-clause-coming c = bring-coming c.args.machine.now c.args.controller c.args.kind c.requires c.history-history.ensures.legal _ c.bring_first.ensures
