use Rattle.std.proofs.Common.{◌≡◌, ◌∙◌, ap, take, drop}
use Rattle.std.proofs.lemmas.List.{take_rest}
use Rattle.std.proofs.lemmas.Result.{IfOk-weaker}
use Rattle.jc_types.specs.declared.pieces.TheConstants.{HALF}
use Rattle.jc_types.proofs.pieces.with_halves.Goals as goal

pub returns : goal.returns
returns c =
    IfOk-weaker c.with_two.result _ _
    (λ r e.
    let first : c.in_ok-first.first ≡ take HALF c.args.items.items = c.in_ok-first.ensures ∙ c.truncate.ensures.items in
    let second : c.in_ok-second.second ≡ drop HALF c.args.items.items = c.in_ok-second.ensures ∙ c.in_ok-copied_slice.ensures ∙ take_rest c.as_slice.result.now HALF ∙ ap (drop HALF) c.as_slice.ensures.value in
    cc (e, first, second))
    c.with_two.ensures
