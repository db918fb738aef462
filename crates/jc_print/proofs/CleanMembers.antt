-- JSON values without floats: a member, a list, what may be given.
use Rattle.std.proofs.Common.{◌≡◌, ℕ, List, [], ◌∷◌, map, Bool, true, false, ◌||◌, cond, Option, Some, None, option_map, Ordering, Less, Equal, Greater, nat_cmp, true≢false, refl}
use Rattle.std.specs.Prelude.{IfSome}
use Rattle.std.specs.Cmp.Lexicographic.{slice_cmp}
use Rattle.std.specs.Ordering.{match_ordering}
use Rattle.serde_json.specs.Data.{Data, Members, no_members, member, put}
use Rattle.serde_json.specs.View.{items_of}
use Rattle.serde_json.specs.Written.{has_float, items_have_float, members_have_float}
use Rattle.jc_print.specs.PrintedMembers.{with_json_member}
use Rattle.std.proofs.lemmas.Bool.{or_from as both}

pub or_left : (a b : Bool) → (a || b) ≡ false → a ≡ false
or_left true b e = e
or_left false b e = refl

pub or_right : (a b : Bool) → (a || b) ≡ false → b ≡ false
or_right true b e = absurd (true≢false e)
or_right false b e = e

placed : (o : Ordering) (k l : List ℕ) (d e : Data) (ms more : Members) → has_float d ≡ false
    → (has_float e || members_have_float ms) ≡ false → members_have_float more ≡ false
    → members_have_float (match_ordering o (member k d (member l e ms)) (member l d ms) (member l e more)) ≡ false
placed Less k l d e ms more clean rest later = both _ _ clean rest
placed Equal k l d e ms more clean rest later = both _ _ clean (or_right (has_float e) _ rest)
placed Greater k l d e ms more clean rest later = both _ _ (or_left _ (members_have_float ms) rest) later

-- a member without floats among members without floats
pub put_clean : (k : List ℕ) (d : Data) (ms : Members) → has_float d ≡ false → members_have_float ms ≡ false → members_have_float (put k d ms) ≡ false
put_clean k d no_members clean rest = both _ _ clean refl
put_clean k d (member l e ms) clean rest =
    placed (slice_cmp nat_cmp k l) k l d e ms (put k d ms) clean rest
    (put_clean k d ms clean (or_right (has_float e) _ rest))

-- a value that may be given has no float
abbrev pub IsClean : Option Data → Type 0
IsClean given = IfSome given (λ d. has_float d ≡ false)

pub with_clean : (k : List ℕ) (given : Option Data) (ms : Members) → IsClean given → members_have_float ms ≡ false → members_have_float (with_json_member k given ms) ≡ false
unfolding with_json_member
with_clean k None ms clean rest = rest
with_clean k (Some d) ms clean rest = put_clean k d ms clean rest

pub given_clean : {X : Type 0} (f : X → Data) (given : Option X) → ((x : X) → has_float (f x) ≡ false) → IsClean (option_map f given)
given_clean f None clean = tt
given_clean f (Some x) clean = clean x

pub list_clean : {X : Type 0} (f : X → Data) (xs : List X) → ((x : X) → has_float (f x) ≡ false) → items_have_float (items_of (map f xs)) ≡ false
list_clean f [] clean = refl
list_clean f (x ∷ xs) clean = both _ _ (clean x) (list_clean f xs clean)

pub some_clean : (b : Bool) (d : Data) → has_float d ≡ false → IsClean (cond b None (Some d))
some_clean true d clean = tt
some_clean false d clean = clean
