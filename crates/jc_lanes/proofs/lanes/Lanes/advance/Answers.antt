use Rattle.std.proofs.Common.{◌∙◌, sym, subst}
use Rattle.jc_history.specs.Legal.{ComesNext}
use Rattle.jc_lanes.specs.Places.{HasPlaces}
use Rattle.jc_lanes.proofs.LaneFacts.{advanced}
use Rattle.jc_lanes.proofs.lanes.Lanes.advance.Goals as goal

pub returns : goal.returns
returns c = λ before past has comes is.
    advanced c.args.commands.now before c.self.inside.next.items c.in-Command.lane c.in-Command.number c.next_from.result past c.self.invariant (subst (λ l. HasPlaces c.args.commands.now before l) (sym c.self.view_is) has)
    (subst (ComesNext c.args.commands.now before) c.in-Command.is comes) (is ∙ c.in-Command.is) c.next_from.ensures
