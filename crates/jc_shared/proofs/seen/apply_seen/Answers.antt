use Rattle.std.proofs.Common.{List, reverse, sym, subst, ◌∙◌}
use mathlib.Core.List.{IsPrefix}
use Rattle.jc_types.specs.declared.runs.Past.{Past}
use Rattle.jc_shared.specs.SeenReplies.{SeatIsAnswered}
use Rattle.jc_shared.proofs.SeenFacts.{answers, done_begins, lost_kept}
use Rattle.jc_shared.proofs.seen.apply_seen.Goals as goal

pub give-requires-clause-longer : goal.give-requires-clause-longer
give-requires-clause-longer g c =
    subst (λ (xs : List Past). IsPrefix xs (reverse c.done-answer.new.kept.seen.pasts)) (sym c.in-Value.ensures.value.1)
    (done_begins c.in-Value.kept.seen c.args.event c.done-answer.result c.done-answer.new.kept.seen c.done-answer.ensures)

pub returns-clause-lost : goal.returns-clause-lost
returns-clause-lost g c =
    c.give.ensures.given.2 ∙ c.in-Value.ensures.value.3
    ∙ lost_kept c.in-Value.kept.seen c.args.event c.done-answer.result c.done-answer.new.kept.seen c.done-answer.ensures c.args.seat.now.lost

pub returns-clause-answer : goal.returns-clause-answer
returns-clause-answer g c =
    subst (λ (xs : List Past). SeatIsAnswered g.J.Naming.script g.J.Naming.shape c.args.event c.done-answer.result c.args.seat.now.seen xs) (sym c.give.ensures.given.1)
    (answers g.J.Naming.script g.J.Naming.shape c.args.seat.now.seen c.in-Value.kept.seen c.args.event c.done-answer.result c.done-answer.new.kept.seen c.keeps.ensures.named c.keeps.ensures.stands
    c.in-Value.ensures.value.2 c.done-answer.ensures)
