-- The names of two objects.
use Rattle.std.proofs.Common.{◌≡◌, ◌≤◌, ◌∙◌, ℕ, List, [], ◌∷◌, Bor, length, get_or, ap, arith, refl}
use Rattle.serde_json.specs.Data.{Data, member, no_members}
use Rattle.jc_json.specs.View.{members_view, view}
use Rattle.jc_json.specs.declared.value.Value.{Value}
use Rattle.jc_members.specs.Phases.{given_names, member_names, names_in_either, put_names}

-- they are those of members that are put one after another
pub either_named : (exits restarts : Data)
    → names_in_either exits restarts ≡ given_names (put_names (member_names restarts) (put_names (member_names exits) no_members))
unfolding member_names
either_named exits restarts = refl

-- one member is in order
pub one_member : (ms : List (Bor (List ℕ) × Value)) (m d : Bor (List ℕ) × Value) → length ms ≡ 1 → m ≡ get_or ms 0 d → given_names (member m.0.now (view m.1) no_members) ≡ given_names (members_view ms no_members)
one_member [] m d one is = absurd (omega (arith, one))
one_member (x ∷ []) m d one is = ap (λ y. given_names (member y.0.now (view y.1) no_members)) is
one_member (x ∷ (y ∷ ms)) m d one is = absurd (omega (arith, one))

-- one name is in order, beside none
pub one_named : (exits restarts : Data) → length (member_names exits) ≤ 1 → member_names restarts ≡ [] → names_in_either exits restarts ≡ member_names exits
one_named exits restarts few none =
    either_named exits restarts
    ∙ ap (λ names. given_names (put_names names (put_names (member_names exits) no_members))) none
    ∙ alone (member_names exits) few
  where
    alone : (names : List (List ℕ)) → length names ≤ 1 → given_names (put_names names no_members) ≡ names
    alone [] h = refl
    alone (name ∷ []) h = refl
    alone (name ∷ (other ∷ names)) h = absurd (omega (arith, h))
