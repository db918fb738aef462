-- The pieces so far are followed by the next one, whose indexes are greater.
use Rattle.std.proofs.Common.{List, [], filter, map, subst, sym, ap, ◌∙◌}
use Rattle.std.proofs.lemmas.List.{get_or_read, take_all}
use Rattle.jc_ranges.specs.Sets.{IsIncreasing}
use Rattle.jc_types.specs.declared.statuses.IndexCount.{IndexCount}
use Rattle.jc_types.specs.Pieces.{items_in}
use Rattle.jc_perindex.specs.Failures.{has_failed}
use Rattle.jc_perindex.proofs.Sets.{next-piece, piece-above}
use Rattle.jc_perindex.proofs.filling.failed_of.Goals as goal

pub add_piece-requires-clause-ascending : goal.add_piece-requires-clause-ascending
add_piece-requires-clause-ascending c =
    piece-above (has_failed c.args.limit c.args.completions c.args.completed.now) c.pieces-pieces.result.now c.loop-piece.piece-index _ _
    (subst (λ counts. IsIncreasing (map (λ (count : IndexCount). count.index) counts)) (sym c.pieces-pieces.ensures) c.requires.ascending) c.loop-piece-test.true
    (get_or_read c.pieces-pieces.result.now c.loop-piece.piece-index _ c.loop-piece-test.true c.piece-item.is []) c.loop-piece.invariant

pub loop-piece-preserved : goal.loop-piece-preserved
loop-piece-preserved c =
    next-piece (has_failed c.args.limit c.args.completions c.args.completed.now) c.pieces-pieces.result.now c.loop-piece.piece-index _ _ _ c.loop-piece-test.true
    (get_or_read c.pieces-pieces.result.now c.loop-piece.piece-index _ c.loop-piece-test.true c.piece-item.is []) c.loop-piece.invariant c.in_ok-add_piece.ensures

pub returns : goal.returns
returns c =
    let kept = λ (counts : List IndexCount). map (λ (count : IndexCount). count.index) (filter (has_failed c.args.limit c.args.completions c.args.completed.now) counts) in
    c.loop-piece.invariant
    ∙ ap (λ ps. kept (items_in ps)) (take_all c.loop-piece.piece-index c.pieces-pieces.result.now c.loop-piece-test.false)
    ∙ ap kept c.pieces-pieces.ensures
