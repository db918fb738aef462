-- The place that is found in a piece is one among all counts.
use Rattle.std.proofs.Common.{◌≡◌, ◌+◌, ◌<◌, false, List, [], length, map, get_or, sym, subst, ap, ◌∙◌, arith}
use Rattle.std.proofs.lemmas.List.{get_or_read}
use Rattle.jc_ranges.specs.Sets.{IsIncreasing}
use Rattle.jc_types.specs.declared.statuses.IndexCount.{IndexCount}
use Rattle.jc_types.specs.Pieces.{items_in}
use Rattle.jc_perindex.proofs.Placed.{below_more, here_inside, here_is, in_piece, not_in_piece, passed_few, passed_more, place, place_here, place_small}
use Rattle.jc_perindex.proofs.Sets.{piece-up}
use Rattle.jc_perindex.proofs.counts.first_from.Goals as goal

-- The counts of the pieces ascend, as those of the list do.
ascends : (pieces : List (List IndexCount)) (counts : List IndexCount) → items_in pieces ≡ counts → IsIncreasing (map (λ (count : IndexCount). count.index) counts)
    → IsIncreasing (map (λ (count : IndexCount). count.index) (items_in pieces))
ascends pieces counts are up = subst (λ (cs : List IndexCount). IsIncreasing (map (λ (count : IndexCount). count.index) cs)) (sym are) up

pub overflow_add-result : goal.overflow_add-result
overflow_add-result c =
    let ps = c.pieces-pieces.result.now in
    let i = c.loop-piece.piece-index in
    let within = c.loop-piece-test.true in
    let here = in_piece c.args.index c.as_slice-items.result.now c.in-Some.place c.in-Some.ensures in
    let at = place_here c.args.index ps i c.loop-piece.passed c.as_slice-items.result.now within
    (c.as_slice-items.ensures ∙ get_or_read ps i _ within c.piece-item.is [])
    c.loop-piece.invariant.passed c.loop-piece.invariant.below c.in-Some.place here.0 here.1 in
    omega (arith, at, place_small c.args.index (items_in ps) (ascends ps c.args.counts.now c.pieces-pieces.ensures c.requires), c.ranges.index.fits)

pub returns-in-Some-clause-place : goal.returns-in-Some-clause-place
returns-in-Some-clause-place c =
    let ps = c.pieces-pieces.result.now in
    let i = c.loop-piece.piece-index in
    let within = c.loop-piece-test.true in
    let here = in_piece c.args.index c.as_slice-items.result.now c.in-Some.place c.in-Some.ensures in
    place_here c.args.index ps i c.loop-piece.passed c.as_slice-items.result.now within
    (c.as_slice-items.ensures ∙ get_or_read ps i _ within c.piece-item.is [])
    c.loop-piece.invariant.passed c.loop-piece.invariant.below c.in-Some.place here.0 here.1
    ∙ ap (place c.args.index) c.pieces-pieces.ensures

pub returns-in-Some-clause-within : goal.returns-in-Some-clause-within
returns-in-Some-clause-within c =
    let ps = c.pieces-pieces.result.now in
    let i = c.loop-piece.piece-index in
    let within = c.loop-piece-test.true in
    let here = in_piece c.args.index c.as_slice-items.result.now c.in-Some.place c.in-Some.ensures in
    subst (λ (counts : List IndexCount). c.loop-piece.passed + c.in-Some.place < length counts) c.pieces-pieces.ensures
    (here_inside c.args.index ps i c.loop-piece.passed c.as_slice-items.result.now within
    (c.as_slice-items.ensures ∙ get_or_read ps i _ within c.piece-item.is [])
    c.loop-piece.invariant.passed c.loop-piece.invariant.below c.in-Some.place (omega (arith, here.0, here.1)))

pub returns-in-Some-clause-count : goal.returns-in-Some-clause-count
returns-in-Some-clause-count c =
    let ps = c.pieces-pieces.result.now in
    let i = c.loop-piece.piece-index in
    let within = c.loop-piece-test.true in
    let items = c.as_slice-items.result.now in
    let here = in_piece c.args.index items c.in-Some.place c.in-Some.ensures in
    let few : c.in-Some.place < length items = omega (arith, here.0, here.1) in
    here_is c.args.index ps i c.loop-piece.passed items within
    (c.as_slice-items.ensures ∙ get_or_read ps i _ within c.piece-item.is [])
    c.loop-piece.invariant.passed c.loop-piece.invariant.below c.in-Some.place (record { index = 0; failures = 0; fail = false }) c.args.counts.now c.pieces-pieces.ensures few

pub overflow_add-passed : goal.overflow_add-passed
overflow_add-passed c =
    let ps = c.pieces-pieces.result.now in
    let i = c.loop-piece.piece-index in
    let within = c.loop-piece-test.true in
    let items = c.as_slice-items.result.now in
    let few = passed_few c.args.index ps i c.loop-piece.passed items within
    (c.as_slice-items.ensures ∙ get_or_read ps i _ within c.piece-item.is [])
    c.loop-piece.invariant.passed c.loop-piece.invariant.below (not_in_piece c.args.index items (sym c.in_default.is ∙ c.place_of.ensures))
    (ascends ps c.args.counts.now c.pieces-pieces.ensures c.requires) in
    omega (arith, few, c.ranges.index.fits)

pub loop-piece-preserved : goal.loop-piece-preserved
loop-piece-preserved c =
    let ps = c.pieces-pieces.result.now in
    let i = c.loop-piece.piece-index in
    let within = c.loop-piece-test.true in
    let items = c.as_slice-items.result.now in
    let is : items ≡ get_or ps i [] = c.as_slice-items.ensures ∙ get_or_read ps i _ within c.piece-item.is [] in
    record {
      passed = passed_more c.args.index ps i c.loop-piece.passed items within is c.loop-piece.invariant.passed c.loop-piece.invariant.below;
      below = below_more c.args.index ps i c.loop-piece.passed items within is c.loop-piece.invariant.passed c.loop-piece.invariant.below
          (not_in_piece c.args.index items (sym c.in_default.is ∙ c.place_of.ensures));
    }

-- The counts of a piece ascend.
pub place_of-requires : goal.place_of-requires
place_of-requires c =
    let ps = c.pieces-pieces.result.now in
    let i = c.loop-piece.piece-index in
    let within = c.loop-piece-test.true in
    piece-up ps i c.as_slice-items.result.now (ascends ps c.args.counts.now c.pieces-pieces.ensures c.requires) within
    (c.as_slice-items.ensures ∙ get_or_read ps i _ within c.piece-item.is [])
