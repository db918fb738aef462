use Rattle.jc_play.proofs.SystemFacts.{rest-test}
use Rattle.jc_play.proofs.next.is_quiescent.Goals as goal

pub returns : goal.returns
returns c = rest-test c.args.machine.now c.next_event.result c.is_none.result c.next_event.ensures.first c.is_none.ensures
