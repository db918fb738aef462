-- A value, level by level, and the members of an object as they are found.
use Rattle.std.proofs.Common.{◌≡◌, ◌∙◌, refl, sym, ap, ℕ, List, [], ◌∷◌, ◌++◌, Bool, true, false, cond, Some, bytes_eq, Bor, Ordering, Less, Equal, Greater, nat_cmp, true≢false, rules}
use Rattle.std.proofs.lemmas.Slice.Eq.{bytes_eq-Decides}
use Rattle.std.specs.BTreeMap.{insert_entry}
use Rattle.std.specs.Cmp.Lexicographic.{slice_cmp}
use Rattle.std.specs.Ordering.{match_ordering}
use Rattle.serde_json.specs.Data.{Data, array, object, Members, no_members, put}
use Rattle.serde_json.specs.Find.{get_member}
use Rattle.serde_json.proofs.Views.{get_member-put, get_member-put_other}
use Rattle.jc_json.specs.View.{view, items_view, members_view, ordered_view}
use Rattle.jc_json.specs.declared.value.Value.{Value, Array, Object, the_lemmas}

abbrev pub Entry : Type 0
Entry = Bor (List ℕ) × Value

pub view-Array : (v : Bor (List Value)) → view (Array v) ≡ array (items_view v.now)
view-Array v = search (rules, the_lemmas)

pub view-Object : (v : Bor (List Entry)) → view (Object v) ≡ object (members_view v.now no_members)
view-Object v = search (rules, the_lemmas)

-- one more member behind the others
pub members_view-push : (ms : List Entry) (m : Entry) (found : Members)
    → members_view (ms ++ m ∷ []) found ≡ put m.0.now (view m.1) (members_view ms found)
members_view-push [] m found = refl
members_view-push (n ∷ ms) m found = members_view-push ms m (put n.0.now (view n.1) found)

-- what is found once d was put at k
found_then : (name k : List ℕ) (d : Data) (ms : Members) (b : Bool) → bytes_eq k name ≡ b
    → get_member name (put k d ms) ≡ cond b (Some d) (get_member name ms)
found_then name k d ms true same =
    ap (λ n. get_member n (put k d ms)) (sym ((bytes_eq-Decides k name).0 same)) ∙ get_member-put k d ms
found_then name k d ms false other =
    get_member-put_other name k d ms (λ same. true≢false (sym ((bytes_eq-Decides k name).1 (sym same)) ∙ other))

-- the last member of a name is the one that is found
pub found_last : (name : List ℕ) (ms : List Entry) (m : Entry)
    → get_member name (members_view (ms ++ m ∷ []) no_members)
    ≡ cond (bytes_eq m.0.now name) (Some (view m.1)) (get_member name (members_view ms no_members))
found_last name ms m =
    ap (get_member name) (members_view-push ms m no_members)
    ∙ found_then name m.0.now (view m.1) (members_view ms no_members) _ refl

-- ---- members in byte order

abbrev pub Placed : Type 0
Placed = Bor (List ℕ) × Bor Value

of_either : (o : Ordering) (a b c : List Placed)
    → ordered_view (match_ordering o a b c) ≡ match_ordering o (ordered_view a) (ordered_view b) (ordered_view c)
of_either Less a b c = refl
of_either Equal a b c = refl
of_either Greater a b c = refl

pub ordered_view-insert : (es : List Placed) (k : Bor (List ℕ)) (v : Bor Value)
    → ordered_view (insert_entry (λ a b. slice_cmp nat_cmp a.now b.now) es k v) ≡ put k.now (view v.now) (ordered_view es)
ordered_view-insert [] k v = refl
ordered_view-insert (e ∷ es) k v =
    of_either (slice_cmp nat_cmp k.now e.0.now) _ _ _ ∙ rw (ordered_view-insert es k v)
