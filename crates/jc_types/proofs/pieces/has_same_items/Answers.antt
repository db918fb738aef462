-- Both have the same items where those of each piece are found, and none is left.
use Rattle.std.proofs.Common.{◌≡◌, ◌≤◌, ◌++◌, suc, Bool, true, false, not, [], length, take, drop, true≢false, refl, sym, ap, ◌∙◌, arith}
use Rattle.std.proofs.lemmas.List.{append-nil, append_cancel_left, get_or_read, take_all}
use Rattle.jc_types.specs.declared.pieces.Spot.{Spot}
use Rattle.jc_types.specs.Pieces.{items_in, items_left}
use Rattle.jc_types.proofs.PieceFacts.{around, left_none, no_rest, none_found}
use Rattle.jc_types.proofs.pieces.has_same_items.Goals as goal

turned : (b : Bool) → not b ≡ false → b ≡ true
turned true h = refl
turned false h = absurd (true≢false h)

pub returns-in-None : goal.returns-in-None
returns-in-None c = (
  λ t. absurd (true≢false (sym t)),
  λ e.
      absurd (c.in-None.ensures.other refl (items_in (drop (suc c.loop-piece.piece-index) c.args.left.now))
      (append_cancel_left (items_in (take c.loop-piece.piece-index c.args.left.now)) _ _ (sym c.loop-piece.invariant.same ∙ sym e ∙ around c.args.left.now c.loop-piece.piece-index c.loop-piece-test.true)
      ∙ ap (λ p. p ++ items_in (drop (suc c.loop-piece.piece-index) c.args.left.now)) (sym (c.as_slice.ensures ∙ get_or_read c.args.left.now c.loop-piece.piece-index _ c.loop-piece-test.true c.piece-item.is [])))),
)

pub returns : goal.returns
returns c =
    let same : items_in c.args.right.now ≡ items_in c.args.left.now ++ items_left c.args.right.now c.loop-piece.spot.piece c.loop-piece.spot.place =
    c.loop-piece.invariant.same
    ∙ ap (λ ps. items_in ps ++ items_left c.args.right.now c.loop-piece.spot.piece c.loop-piece.spot.place) (take_all c.loop-piece.piece-index c.args.left.now c.loop-piece-test.false) in (
      λ t.
          sym (same
          ∙ ap (λ rest. items_in c.args.left.now ++ rest) (left_none c.args.right.now c.loop-piece.spot.piece c.loop-piece.spot.place (c.spot_from.ensures.past (c.is_none.ensures ∙ ap not t)))
          ∙ append-nil (items_in c.args.left.now)),
      λ e.
          turned c.is_none.result (sym c.is_none.ensures
          ∙ none_found c.spot_from.result (λ (s : Spot). s.piece) (λ (s : Spot). s.place) c.args.right.now c.loop-piece.spot.piece c.loop-piece.spot.place c.spot_from.ensures.piece c.spot_from.ensures.inside c.spot_from.ensures.same
          (no_rest (items_in c.args.left.now) _ (items_in c.args.right.now) same e)),
    )
