-- Members that are all known.
use Rattle.std.proofs.Common.{◌≡◌, ◌∙◌, refl, sym, ap, ℕ, List, Bool, true, false, Option, Some, None, Ordering, Less, Equal, Greater, is_eq, nat_cmp}
use Rattle.std.proofs.lemmas.Map.Text.{is_eq-slice_cmp}
use Rattle.std.proofs.lemmas.Slice.Eq.{bytes_eq-Decides}
use Rattle.std.specs.Cmp.Lexicographic.{slice_cmp}
use Rattle.std.specs.Ordering.{match_ordering}
use Rattle.std.specs.Prelude.{if◌then◌else◌}
use Rattle.serde_json.specs.Data.{Data, Members, no_members, member, put}
use Rattle.jc_members.specs.Members.{is_unknown, unknown_among}

none_here : (b : Bool) (name : List ℕ) (rest : Option (List ℕ)) → b ≡ false → rest ≡ None
    → (if b then Some name else rest) ≡ None
none_here b name rest known none = ap (λ x. if x then Some name else rest) known ∙ none

parts_of : (b : Bool) (name : List ℕ) (rest : Option (List ℕ)) → (if b then Some name else rest) ≡ None
    → (b ≡ false) × (rest ≡ None)
parts_of true name rest none = absurd (cc)
parts_of false name rest none = (refl, none)

none_put_at : (o : Ordering) (known : List (List ℕ)) (k l : List ℕ) (d e : Data) (ms : Members)
    → slice_cmp nat_cmp k l ≡ o → is_unknown known k d ≡ false → is_unknown known l e ≡ false
    → unknown_among known ms ≡ None → unknown_among known (put k d ms) ≡ None
    → unknown_among known (match_ordering o (member k d (member l e ms)) (member l d ms) (member l e (put k d ms))) ≡ None
none_put_at Less known k l d e ms is here there none later =
    none_here (is_unknown known k d) k _ here (none_here (is_unknown known l e) l _ there none)
none_put_at Equal known k l d e ms is here there none later =
    let same : k ≡ l = (bytes_eq-Decides k l).0 (sym (is_eq-slice_cmp k l) ∙ ap is_eq is) in
    none_here (is_unknown known l d) l _ (ap (λ name. is_unknown known name d) (sym same) ∙ here) none
none_put_at Greater known k l d e ms is here there none later =
    none_here (is_unknown known l e) l _ there later

-- one more that is known
pub none_put : (known : List (List ℕ)) (k : List ℕ) (d : Data) (ms : Members) → is_unknown known k d ≡ false
    → unknown_among known ms ≡ None → unknown_among known (put k d ms) ≡ None
none_put known k d no_members here none = none_here (is_unknown known k d) k None here refl
none_put known k d (member l e ms) here none =
    let parts = parts_of (is_unknown known l e) l (unknown_among known ms) none in
    none_put_at (slice_cmp nat_cmp k l) known k l d e ms refl here parts.0 parts.1
    (none_put known k d ms here parts.1)
