use Rattle.jc_seats.proofs.TurnFacts.{first-own}
use Rattle.jc_seats.proofs.kept.Kept.next_of.Goals as goal

pub returns-in-None-clause-own : goal.returns-in-None-clause-own
returns-in-None-clause-own g c = first-own c.args.player.now c.self.inside.cluster c.args.self.now c.next_event.result c.self.view_is c.next_event.ensures.first

pub returns-in-Some-next_event-clause-own : goal.returns-in-Some-next_event-clause-own
returns-in-Some-next_event-clause-own g c = first-own c.args.player.now c.self.inside.cluster c.args.self.now _ c.self.view_is c.in-Some-next_event.ensures.first
