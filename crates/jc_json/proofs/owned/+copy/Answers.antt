use Rattle.std.proofs.Common.{◌≡◌, ◌∙◌, [], ◌∷◌, ◌++◌, string_bytes, sym, ap, subst, append_assoc}
use Rattle.std.specs.List.Sorted.{IsStrictlySortedBy}
use Rattle.std.specs.Map.{keys_of}
use Rattle.std.specs.String.{string_cmp}
use Rattle.serde_json.specs.Data.{no_members}
use Rattle.serde_json.proofs.Views.{Entry, put_last}
use Rattle.jc_json.specs.View.{members_view}
use Rattle.jc_json.proofs.Views.{members_view-push}
use Rattle.jc_json.proofs.owned.+copy.Goals as goal

pub copy_members-loop-name-preserved : goal.copy_members-loop-name-preserved
copy_members-loop-name-preserved t c =
    let l = c.loop-name in
    let done = l.invariant.0 in
    let e : Entry = (c.in-Some.name.now, c.in-Some.member.now) in
    let left = c.next.new.self in
    let all : c.args.members.now.entries ≡ done ++ e ∷ left = l.invariant.1 ∙ ap (λ es. done ++ es) c.in-Some.ensures.steps in
    let last = put_last done e left (subst (λ es. IsStrictlySortedBy string_cmp (keys_of es)) all c.iter-name-items.ensures.ordered) in
    let named : c.as_str.result.now ≡ string_bytes e.0 = c.as_str.ensures.value in (
      done ++ e ∷ [],
      all ∙ sym (append_assoc done (e ∷ []) left),
      ap (λ ms. members_view ms no_members) c.in_ok-push.ensures.items
          ∙ members_view-push l.copies.items (c.as_str.result, c.in_ok-copy.field-0) no_members
          ∙ rw (named, c.in_ok-copy.ensures, l.invariant.2) last,
    )
