use Rattle.std.proofs.Common.{sym, ◌∙◌}
use Rattle.jc_play.proofs.ActorFacts.{clock-only, clock-rests}
use Rattle.jc_play.proofs.offers.clock_offer.Goals as goal

pub returns-in-None : goal.returns-in-None
returns-in-None c = clock-only c.args.machine.now (sym c.but_clock_event.ensures ∙ c.in-None.is) _ c.clock_event.ensures

pub returns-in-Some : goal.returns-in-Some
returns-in-Some c = clock-rests c.args.machine.now c.in-Some.field-0 (sym c.but_clock_event.ensures ∙ c.in-Some.is)
