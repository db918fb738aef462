use Rattle.std.proofs.Common.{◌≡◌, [], get_or, ◌∙◌, ap, arith}
use Rattle.std.proofs.Math.ListN.{set}
use Rattle.std.proofs.lemmas.List.{get_or_read}
use Rattle.std.proofs.lemmas.Result.{IfOk-weaker}
use Rattle.jc_types.specs.Pieces.{items_in, place_in}
use Rattle.jc_types.proofs.PieceFacts.{set_at}
use Rattle.jc_types.proofs.pieces.with_item.Goals as goal

pub returns : goal.returns
returns c =
    IfOk-weaker c.with_one.result _ _
    (λ r e.
    let items : c.in_ok-items-in-Some.items.items ≡ set (get_or c.args.pieces.now c.in-Some.spot.piece []) c.in-Some.spot.place c.args.item =
    c.in_ok-items-in-Some.ensures
    ∙ ap (λ p. set p c.in-Some.spot.place c.args.item) (c.as_slice.ensures ∙ get_or_read c.args.pieces.now c.in-Some.spot.piece _ c.in-Some.ensures.piece c.index-pieces-spot.is []) in
    let at : place_in c.args.pieces.now c.in-Some.spot.piece c.in-Some.spot.place ≡ c.args.place = omega (arith, c.in-Some.ensures.same) in
    ap items_in (e ∙ ap (set c.args.pieces.now c.in-Some.spot.piece) items)
    ∙ set_at c.args.pieces.now c.in-Some.spot.piece c.in-Some.spot.place c.args.place c.args.item c.in-Some.ensures.piece c.in-Some.ensures.inside at)
    c.with_one.ensures
