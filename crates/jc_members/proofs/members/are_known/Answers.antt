use Rattle.std.proofs.Common.{◌≡◌, ◌∙◌, ◌+◌, [], ◌∷◌, ◌++◌, false, map, take, sym, ap}
use Rattle.std.proofs.lemmas.List.{take_more}
use Rattle.serde_json.specs.Data.{no_members}
use Rattle.jc_json.specs.View.{view, members_view}
use Rattle.jc_json.proofs.Views.{members_view-push}
use Rattle.jc_members.specs.Members.{is_unknown, unknown_among}
use Rattle.jc_members.proofs.Known.{none_put}
use Rattle.jc_members.proofs.members.are_known.Goals as goal

pub loop-member-preserved : goal.loop-member-preserved
loop-member-preserved c =
    let known = map (λ k. k.now) c.args.known.now in
    let xs = c.args.members.now in
    let i = c.loop-member.member-index in
    let m = c.member-item.result in
    let more : take (i + 1) xs ≡ take i xs ++ m ∷ [] =
    take_more xs i _ c.loop-member-test.true ∙ ap (λ y. take i xs ++ y ∷ []) (sym c.member-item.is) in
    let here : is_unknown known m.0.now (view m.1) ≡ false = sym c.if-is_unknown.ensures in
    ap (unknown_among known) (ap (λ ms. members_view ms no_members) more ∙ members_view-push (take i xs) m no_members)
    ∙ none_put known m.0.now (view m.1) (members_view (take i xs) no_members) here c.loop-member.invariant
