-- What stands in an object that was made of its members, one after another.
use Rattle.std.proofs.Common.{◌≡◌, ℕ, List, [], ◌∷◌, Bool, true, false, cond, bytes_eq, Option, Some, None, refl, sym, ap, ◌∙◌, true≢false}
use Rattle.std.specs.Prelude.{option_and_then}
use Rattle.std.specs.Option.{option_or}
use Rattle.std.specs.Cmp.Lexicographic.{bytes_decides}
use Rattle.serde_json.specs.Data.{Data, object, Members, no_members, put}
use Rattle.serde_json.specs.Find.{get_member}
use Rattle.serde_json.proofs.Views.{get_member-put, get_member-put_other}
use Rattle.jc_json.specs.Field.{member_of, unless_null}
use Rattle.jc_print.specs.PrintedMembers.{put_given}

-- the members, the last one put first
abbrev pub puts : List (List ℕ × Option Data) → Members
puts [] = no_members
puts (row ∷ rows) = put_given row.0 row.1 (puts rows)

-- what stands at that name
abbrev pub found : List ℕ → List (List ℕ × Option Data) → Option Data
found k [] = None
found k (row ∷ rows) = cond (bytes_eq k row.0) (option_or row.1 (found k rows)) (found k rows)

here : (k l : List ℕ) (d : Data) (ms : Members) → bytes_eq k l ≡ true → get_member k (put l d ms) ≡ Some d
here k l d ms same =
    let e : k ≡ l = (bytes_decides k l).0 same in
    ap (λ n. get_member n (put l d ms)) e ∙ get_member-put l d ms

apart : (k l : List ℕ) → bytes_eq k l ≡ false → k ≡ l → ⊥
apart k l differ e = true≢false (sym ((bytes_decides k l).1 e) ∙ differ)

given : (k l : List ℕ) (o : Option Data) (ms : Members) (b : Bool) → bytes_eq k l ≡ b
    → get_member k (put_given l o ms) ≡ cond b (option_or o (get_member k ms)) (get_member k ms)
given k l None ms true e = refl
given k l None ms false e = refl
given k l (Some d) ms true e = here k l d ms e
given k l (Some d) ms false e = get_member-put_other k l d ms (apart k l e)

pub get_found : (k : List ℕ) (rows : List (List ℕ × Option Data)) → get_member k (puts rows) ≡ found k rows
get_found k [] = refl
get_found k (row ∷ rows) =
    given k row.0 row.1 (puts rows) (bytes_eq k row.0) refl
    ∙ ap (λ o. cond (bytes_eq k row.0) (option_or row.1 o) o) (get_found k rows)

pub member_found : (k : List ℕ) (rows : List (List ℕ × Option Data)) → member_of k (object (puts rows)) ≡ option_and_then unless_null (found k rows)
unfolding member_of
member_found k rows = ap (option_and_then unless_null) (get_found k rows)
