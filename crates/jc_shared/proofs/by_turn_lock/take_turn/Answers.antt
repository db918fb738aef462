use Rattle.std.proofs.Common.{List, reverse, sym, subst}
use mathlib.Core.List.{IsPrefix}
use Rattle.jc_types.specs.declared.runs.Past.{Past}
use Rattle.jc_seats.proofs.HandFacts.{taken-told}
use Rattle.jc_seats.proofs.LeaveFacts.{turn_begins}
use Rattle.jc_shared.proofs.by_turn_lock.take_turn.Goals as goal

pub give-requires-clause-longer : goal.give-requires-clause-longer
give-requires-clause-longer g c =
    let t = c.turn-next.ensures in
    subst (λ (xs : List Past). IsPrefix xs (reverse c.turn-next.new.self.seen.pasts)) (sym c.in-Value.ensures.value.1)
    (turn_begins c.in-Value.kept c.turn-next.new.self c.turn-next.result _ _ _ _ (λ w f. f.seen) (λ x. x.0) (λ x. x.0) t.plan t.went t.waits t.ends t.kept)

pub returns-clause-taken : goal.returns-clause-taken
returns-clause-taken g c =
    taken-told g.J.Naming.script g.J.Naming.shape c.in-Value.kept c.turn-next.new.self c.keeps.ensures.named c.give.new.seat.seen c.give.ensures.given.1
    c.turn-next.result _ c.turn-next.ensures.plan
