-- The next item is the one at the spot, or another, or there is none.
use Rattle.std.proofs.Common.{[], get_or, true≢false, false, refl, sym, ap, ◌∙◌, arith}
use Rattle.std.proofs.lemmas.List.{get_or_read}
use Rattle.jc_types.proofs.PieceFacts.{another, left_here, left_none, one_found, too_few}
use Rattle.jc_types.specs.declared.statuses.IndexCount.{IndexCount}
use Rattle.jc_types.proofs.pieces.spot_behind.Goals as goal

pub returns-in_default-clause-other : goal.returns-in_default-clause-other
returns-in_default-clause-other c =
    λ _ more e.
    too_few _ c.args.items.now _ c.loop-item.item-index c.loop-item.invariant.same
    (left_none c.args.pieces.now c.loop-item.spot.piece c.loop-item.spot.place (c.in_default.ensures.past refl)) c.loop-item-test.true more e

pub returns-then-not-is_same-clause-other : goal.returns-then-not-is_same-clause-other
returns-then-not-is_same-clause-other c =
    let none : IndexCount = record { index = 0; failures = 0; fail = false } in
    λ _ more e.
    another _ c.args.items.now _ _ c.loop-item.item-index (get_or c.args.items.now c.loop-item.item-index none) (get_or c.as_slice.result.now c.in-Some.found.place none) none c.loop-item.invariant.same
    (left_here c.args.pieces.now c.in-Some.found.piece c.in-Some.found.place c.loop-item.spot.piece c.loop-item.spot.place (get_or c.as_slice.result.now c.in-Some.found.place none) none
    c.in-Some.ensures.piece c.in-Some.ensures.inside c.in-Some.ensures.same
    (ap (λ p. get_or p c.in-Some.found.place none) (c.as_slice.ensures ∙ get_or_read c.args.pieces.now c.in-Some.found.piece _ c.in-Some.ensures.piece c.index-pieces-found.is [])))
    c.loop-item-test.true (λ q. true≢false (sym (c.is_same.ensures.1 q) ∙ c.if-not-is_same.true))
    refl more e

pub loop-item-preserved : goal.loop-item-preserved
loop-item-preserved c =
    let none : IndexCount = record { index = 0; failures = 0; fail = false } in
    record {
      within = omega (arith, c.in-Some.ensures.piece);
      same =
          one_found _ c.args.items.now _ _ c.loop-item.item-index (get_or c.args.items.now c.loop-item.item-index none) (get_or c.as_slice.result.now c.in-Some.found.place none) none c.loop-item.invariant.same
          (left_here c.args.pieces.now c.in-Some.found.piece c.in-Some.found.place c.loop-item.spot.piece c.loop-item.spot.place (get_or c.as_slice.result.now c.in-Some.found.place none) none
          c.in-Some.ensures.piece c.in-Some.ensures.inside c.in-Some.ensures.same
          (ap (λ p. get_or p c.in-Some.found.place none) (c.as_slice.ensures ∙ get_or_read c.args.pieces.now c.in-Some.found.piece _ c.in-Some.ensures.piece c.index-pieces-found.is [])))
          c.loop-item-test.true (c.is_same.ensures.0 c.if-not-is_same.false)
          refl;
    }
