use Rattle.std.proofs.Common.{List, reverse, sym, subst}
use mathlib.Core.List.{IsPrefix}
use Rattle.jc_types.specs.declared.runs.Past.{Past}
use Rattle.jc_seats.proofs.HandFacts.{handed}
use Rattle.jc_seats.proofs.Beginnings.{same_begins}
use Rattle.jc_shared.proofs.by_turn_lock.make_plan.Goals as goal

pub give-requires-clause-longer : goal.give-requires-clause-longer
give-requires-clause-longer g c =
    subst (λ (xs : List Past). IsPrefix xs (reverse c.hand_in-is_made.new.kept.seen.pasts)) (sym c.wait_for-kept.ensures.seen)
    (same_begins c.wait_for-kept.result.seen c.hand_in-is_made.new.kept.seen c.hand_in-is_made.ensures.hands.seen)

pub hand_in-is_made-requires : goal.hand_in-is_made-requires
hand_in-is_made-requires g c = record {
  begun =
      handed g.J.Naming.script g.J.Naming.shape c.wait_for-kept.result.seen c.keeps.ensures.named (λ plan. plan.basis) c.args.seat.now.seen
      c.args.events c.args.work.now c.plan-made.result c.wait_for-kept.ensures.begins c.requires.events c.requires.taken c.plan-made.ensures.basis;
}
