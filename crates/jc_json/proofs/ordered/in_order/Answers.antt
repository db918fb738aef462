use Rattle.std.proofs.Common.{◌≡◌, ◌∙◌, ◌+◌, [], ◌∷◌, ◌++◌, take, sym, ap, arith}
use Rattle.std.proofs.lemmas.List.{take_more}
use Rattle.serde_json.specs.Data.{no_members, put}
use Rattle.jc_json.specs.View.{view, members_view, ordered_view}
use Rattle.jc_json.proofs.Views.{members_view-push, ordered_view-insert}
use Rattle.jc_json.proofs.ordered.in_order.Goals as goal

pub loop-member-preserved : goal.loop-member-preserved
loop-member-preserved c =
    let xs = c.args.members.now in
    let i = c.loop-member.member-index in
    let m = c.member-item.result in
    let more : take (i + 1) xs ≡ take i xs ++ m ∷ [] = take_more xs i _ c.loop-member-test.true ∙ ap (λ y. take i xs ++ y ∷ []) (sym c.member-item.is) in
    let put_in = ap ordered_view c.in_ok-insert.ensures.entries ∙ ordered_view-insert c.loop-member.ordered.entries _ _ in
    put_in ∙ ap (put m.0.now (view m.1)) c.loop-member.invariant ∙ sym (ap (λ ms. members_view ms no_members) more ∙ members_view-push (take i xs) m no_members)
