-- The values of a piece come behind those of the pieces before it.
use Rattle.std.proofs.Common.{◌≡◌, ℕ, ◌+◌, ◌<◌, List, [], ◌++◌, map, take, length, get_or, sym, ap, ◌∙◌}
use Rattle.std.proofs.lemmas.List.{get_or_read, map-append, take_all}
use Rattle.serde_json.specs.Data.{Data}
use Rattle.jc_types.specs.declared.statuses.IndexCount.{IndexCount}
use Rattle.jc_types.specs.Pieces.{items_in}
use Rattle.jc_types.proofs.PieceFacts.{items_more}
use Rattle.jc_print.specs.PrintedStatuses.{index_count_data}
use Rattle.jc_print.proofs.printed_statuses.index_count_values.Goals as goal

-- One piece more.
one_more : (f : IndexCount → Data) (ps : List (List IndexCount)) (i : ℕ) (piece : List IndexCount) (before after : List Data)
    → after ≡ before ++ map f piece → before ≡ map f (items_in (take i ps)) → i < length ps → piece ≡ get_or ps i [] → after ≡ map f (items_in (take (i + 1) ps))
one_more f ps i piece before after e g h is =
    e ∙ ap (λ vs. vs ++ map f piece) g ∙ ap (λ p. map f (items_in (take i ps)) ++ map f p) is
    ∙ sym (map-append f (items_in (take i ps)) (get_or ps i []))
    ∙ ap (map f) (sym (items_more ps i h))

pub loop-piece-preserved : goal.loop-piece-preserved
loop-piece-preserved c =
    one_more index_count_data c.pieces-pieces.result.now c.loop-piece.piece-index _ _ _ c.in_ok-put_index_counts.ensures c.loop-piece.invariant c.loop-piece-test.true
    (c.as_slice.ensures ∙ get_or_read c.pieces-pieces.result.now c.loop-piece.piece-index _ c.loop-piece-test.true c.piece-item.is [])

pub returns : goal.returns
returns c =
    c.loop-piece.invariant
    ∙ ap (λ ps. map index_count_data (items_in ps)) (take_all c.loop-piece.piece-index c.pieces-pieces.result.now c.loop-piece-test.false)
    ∙ ap (map index_count_data) c.pieces-pieces.ensures
