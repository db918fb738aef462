use Rattle.std.proofs.Common.{◌≡◌, ◌+◌, suc, [], get_or, refl, ◌∙◌, ap, add-one}
use Rattle.std.proofs.Math.ListN.{set}
use Rattle.std.specs.List.{insert}
use Rattle.std.proofs.lemmas.List.{get_or_read}
use Rattle.std.proofs.lemmas.Result.{IfOk-weaker}
use Rattle.jc_types.specs.declared.pieces.TheConstants.{HALF}
use Rattle.jc_types.specs.Pieces.{items_in}
use Rattle.jc_types.proofs.PieceFacts.{insert_at, halves_at}
use Rattle.jc_types.proofs.pieces.with_more.Goals as goal

-- The items of the piece with one more.
pub returns-then-len-le-MOST : goal.returns-then-len-le-MOST
returns-then-len-le-MOST c =
    IfOk-weaker c.with_one.result _ _
    (λ r e.
    let own : c.in_ok-items.items.items ≡ get_or c.args.pieces.now c.args.spot.piece [] =
    c.in_ok-items.ensures ∙ c.as_slice.ensures ∙ get_or_read c.args.pieces.now c.args.spot.piece _ c.requires.piece c.index-pieces-spot.is [] in
    let items : c.insert.new.self.items ≡ insert (get_or c.args.pieces.now c.args.spot.piece []) c.args.spot.place c.args.item =
    c.in_ok-insert.ensures.items ∙ ap (λ p. insert p c.args.spot.place c.args.item) own in
    ap items_in (e ∙ ap (set c.args.pieces.now c.args.spot.piece) items)
    ∙ insert_at c.args.pieces.now c.args.spot.piece c.args.spot.place _ c.args.item c.requires.piece c.requires.place refl)
    c.with_one.ensures

pub returns-else-len-le-MOST : goal.returns-else-len-le-MOST
returns-else-len-le-MOST c =
    IfOk-weaker c.with_halves.result _ _
    (λ r e.
    let own : c.in_ok-items.items.items ≡ get_or c.args.pieces.now c.args.spot.piece [] =
    c.in_ok-items.ensures ∙ c.as_slice.ensures ∙ get_or_read c.args.pieces.now c.args.spot.piece _ c.requires.piece c.index-pieces-spot.is [] in
    let items : c.insert.new.self.items ≡ insert (get_or c.args.pieces.now c.args.spot.piece []) c.args.spot.place c.args.item =
    c.in_ok-insert.ensures.items ∙ ap (λ p. insert p c.args.spot.place c.args.item) own in
    ap items_in e
    ∙ halves_at c.args.pieces.now c.args.spot.piece (c.args.spot.piece + 1) HALF c.insert.new.self.items c.requires.piece (add-one c.args.spot.piece)
    ∙ ap (λ q. items_in (set c.args.pieces.now c.args.spot.piece q)) items
    ∙ insert_at c.args.pieces.now c.args.spot.piece c.args.spot.place _ c.args.item c.requires.piece c.requires.place refl)
    c.with_halves.ensures
