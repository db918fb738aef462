use Rattle.jc_play.proofs.ActorFacts.{node-only}
use Rattle.jc_play.proofs.offers.node_offer.Goals as goal

pub returns : goal.returns
returns c = node-only c.args.machine.now _ c.node_event.ensures
