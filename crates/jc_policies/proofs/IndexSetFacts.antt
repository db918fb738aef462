-- The function that reads a set of its text agrees with what a text names.
use Rattle.std.proofs.Common.{◌≡◌, ◌≢◌, refl, sym, ◌∙◌, ap, subst, ℕ, zero, suc, ◌+◌, ◌<◌, ◌≤◌, List, [], ◌∷◌, ◌++◌, map, Bool, true, false, cond, ◌&&◌, ◌⊎◌, inl, inr, Option, Some, None, option_map, bytes_eq, true≢false, arith}
use Rattle.std.specs.Prelude.{nat_le, option_and_then, if◌then◌else◌}
use Rattle.std.specs.List.{find, flat_map, range_with_len}
use Rattle.std.specs.Cmp.Lexicographic.{bytes_decides}
use Rattle.std.proofs.lemmas.Bool.{leb-true, le-leb, cases_lt, and_from as both}
use Rattle.jc_ranges.specs.declared.bounds.TheConstants.{GREATEST_INDEX}
use Rattle.jc_ranges.specs.declared.runs.Run.{Run}
use Rattle.jc_ranges.specs.Texts.{element, elements, numbers, IsRunFrom, AreRising, NamesSet, BreaksAt}
use Rattle.jc_ranges.proofs.Named.{element_names_one}
use Rattle.jc_ranges.proofs.Rising.{elements_joined}
use Rattle.jc_policies.specs.IndexSets.{numbers_to, all_indexes, all_pairs, is_spelled, run_of, runs_of, set_of}
use Rattle.jc_types.proofs.ListFacts.{find_passes as passes_found}

-- ---- what a list has, and what is found in it

abbrev IsIn : {X : Type 0} → X → List X → Type 0
IsIn x [] = ⊥
IsIn x (y ∷ ys) = (x ≡ y) ⊎ IsIn x ys

-- an element that passes is found, or one before it
found_at : {X : Type 0} (p : X → Bool) (z : X) (zs : List X) (x : X) (b : Bool) → p z ≡ b → (x ≡ z) ⊎ IsIn x zs → p x ≡ true
    → (IsIn x zs → (y : X) × (find p zs ≡ Some y) × (p y ≡ true))
    → (y : X) × (cond b (Some z) (find p zs) ≡ Some y) × (p y ≡ true)
found_at p z zs x true is here passing later = (z, refl, is)
found_at p z zs x false is (inl same) passing later = absurd (true≢false (sym passing ∙ ap p same ∙ is))
found_at p z zs x false is (inr there) passing later = later there

found : {X : Type 0} (p : X → Bool) (xs : List X) (x : X) → IsIn x xs → p x ≡ true
    → (y : X) × (find p xs ≡ Some y) × (p y ≡ true)
found p [] x here passing = absurd here
found p (z ∷ zs) x here passing = found_at p z zs x (p z) refl here passing (λ there. found p zs x there passing)

passes_at : {X : Type 0} (p : X → Bool) (z : X) (zs : List X) (y : X) (b : Bool) → p z ≡ b → cond b (Some z) (find p zs) ≡ Some y
    → (find p zs ≡ Some y → p y ≡ true) → p y ≡ true
passes_at p z zs y true is e later = let same : z ≡ y = cc in ap p (sym same) ∙ is
passes_at p z zs y false is e later = later e

in_range : (n a k : ℕ) → a ≤ k → k < a + n → IsIn k (range_with_len a n)
in_range zero a k low high = absurd (omega arith)
in_range (suc n) a k low high = elim (cases_lt a k) [
  | inl above ↦ inr (in_range n (a + 1) k (omega arith) (omega arith))
  | inr back ↦ inl (omega arith)
]

in_map : {X Y : Type 0} (f : X → Y) (xs : List X) (x : X) → IsIn x xs → IsIn (f x) (map f xs)
in_map f [] x here = here
in_map f (z ∷ zs) x (inl same) = inl (ap f same)
in_map f (z ∷ zs) x (inr there) = inr (in_map f zs x there)

in_front : {X : Type 0} (xs ys : List X) (x : X) → IsIn x xs → IsIn x (xs ++ ys)
in_front [] ys x here = absurd here
in_front (z ∷ zs) ys x (inl same) = inl same
in_front (z ∷ zs) ys x (inr there) = inr (in_front zs ys x there)

in_back : {X : Type 0} (xs ys : List X) (x : X) → IsIn x ys → IsIn x (xs ++ ys)
in_back [] ys x here = here
in_back (z ∷ zs) ys x here = inr (in_back zs ys x here)

in_flat_map : {X Y : Type 0} (f : X → List Y) (xs : List X) (x : X) (y : Y) → IsIn x xs → IsIn y (f x) → IsIn y (flat_map f xs)
in_flat_map f [] x y here within = absurd here
in_flat_map f (z ∷ zs) x y (inl same) within = in_front (f z) (flat_map f zs) y (subst (λ t. IsIn y (f t)) same within)
in_flat_map f (z ∷ zs) x y (inr there) within = in_back (f z) (flat_map f zs) y (in_flat_map f zs x y there within)

-- ---- runs

in_numbers : (greatest n : ℕ) → n ≤ greatest → IsIn n (numbers_to greatest)
unfolding numbers_to
in_numbers greatest n within = in_range (suc greatest) 0 n (omega arith) (omega arith)

in_indexes : (n : ℕ) → n ≤ GREATEST_INDEX → IsIn n all_indexes
unfolding all_indexes
in_indexes n within = in_numbers GREATEST_INDEX n within

in_pairs : (r : Run) → r.first ≤ r.last → r.last ≤ GREATEST_INDEX → IsIn r all_pairs
unfolding all_pairs
in_pairs r ordered small =
    let first : r.first ≤ GREATEST_INDEX = omega arith in
    in_flat_map _ all_indexes r.first r (in_indexes r.first first) (in_map _ all_indexes r.last (in_indexes r.last small))

pub left : (a b : Bool) → (a && b) ≡ true → a ≡ true
left true b e = refl
left false b e = e

pub right : (a b : Bool) → (a && b) ≡ true → b ≡ true
right true b e = e
right false b e = absurd (true≢false (sym e))

spelled : (r : Run) → IsRunFrom 0 r → is_spelled (element r) r ≡ true
spelled r h =
    let small : r.last ≤ GREATEST_INDEX = omega (arith, h.small) in
    both _ _ (both _ _ (le-leb r.first r.last h.ordered) (le-leb r.last GREATEST_INDEX small)) ((bytes_decides (element r) (element r)).1 refl)

spelled_run : (text : List ℕ) (r : Run) → is_spelled text r ≡ true → IsRunFrom 0 r
spelled_run text r e =
    let bounds = left (nat_le r.first r.last && nat_le r.last GREATEST_INDEX) (bytes_eq (element r) text) e in
    let small : r.last ≤ GREATEST_INDEX = leb-true r.last GREATEST_INDEX (right (nat_le r.first r.last) _ bounds) in
    record {
      above = omega arith;
      ordered = leb-true r.first r.last (left _ (nat_le r.last GREATEST_INDEX) bounds);
      small = omega (arith, small);
    }

spelled_text : (text : List ℕ) (r : Run) → is_spelled text r ≡ true → element r ≡ text
spelled_text text r e = (bytes_decides (element r) text).0 (right (nat_le r.first r.last && nat_le r.last GREATEST_INDEX) _ e)

-- the element of a run is read as that run
run_is : (r : Run) → IsRunFrom 0 r → run_of (element r) ≡ Some r
unfolding run_of
run_is r h =
    let small : r.last ≤ GREATEST_INDEX = omega (arith, h.small) in
    let one = found (is_spelled (element r)) all_pairs r (in_pairs r h.ordered small) (spelled r h) in
    let other = spelled_run (element r) one.0 one.2 in
    let same = element_names_one 0 0 r one.0 h other (sym (spelled_text (element r) one.0 one.2))
    in one.1 ∙ ap Some (sym same)

run_read : (text : List ℕ) (r : Run) → run_of text ≡ Some r → is_spelled text r ≡ true
unfolding run_of
run_read text r e = passes_found (is_spelled text) all_pairs r e

-- ---- sets

abbrev next : ℕ → List (List ℕ) → Run → Option (List Run)
next low es r = if nat_le low r.first then option_map (λ rs. r ∷ rs) (runs_of (suc r.last) es) else None

from_zero : (low : ℕ) (r : Run) → IsRunFrom low r → IsRunFrom 0 r
from_zero low r h = record { above = omega arith; ordered = h.ordered; small = h.small }

went_on : (low : ℕ) (r : Run) (es : List (List ℕ)) (rest : Option (List Run)) → low ≤ r.first → runs_of (suc r.last) es ≡ rest
    → next low es r ≡ option_map (λ rs. r ∷ rs) rest
went_on low r es rest above later =
    ap (λ b. cond b (option_map (λ rs. r ∷ rs) (runs_of (suc r.last) es)) None) (le-leb low r.first above)
    ∙ ap (option_map (λ rs. r ∷ rs)) later

runs_back : (low : ℕ) (rs : List Run) → AreRising low rs → runs_of low (map element rs) ≡ Some rs
runs_back low [] h = refl
runs_back low (r ∷ rs) h =
    ap (option_and_then (next low (map element rs))) (run_is r (from_zero low r h.0))
    ∙ went_on low r (map element rs) (Some rs) h.0.above (runs_back (suc r.last) rs h.1)

-- what a text names is the set that is read of it
pub names_set : (text xs : List ℕ) → NamesSet text xs → Some xs ≡ set_of text
unfolding set_of
names_set text xs h =
    let read : runs_of 0 (elements text) ≡ Some h.named =
    ap (λ t. runs_of 0 (elements t)) h.spelled ∙ ap (runs_of 0) (elements_joined 0 h.named h.rising) ∙ runs_back 0 h.named h.rising
    in ap Some h.members ∙ sym (ap (option_map (flat_map numbers)) read)

too_low : (low : ℕ) (broken : List ℕ) (after : List (List ℕ)) (r : Run) (b : Bool) → nat_le low r.first ≡ b
    → is_spelled broken r ≡ true → ((s : Run) → AreRising low (s ∷ []) → broken ≢ element s)
    → cond b (option_map (λ rs. r ∷ rs) (runs_of (suc r.last) after)) None ≡ None
too_low low broken after r true above read none =
    let run = spelled_run broken r read in
    let rises : IsRunFrom low r = record { above = leb-true low r.first above; ordered = run.ordered; small = run.small }
    in absurd (none r (rises, tt) (sym (spelled_text broken r read)))
too_low low broken after r false above read none = refl

none_here : (low : ℕ) (broken : List ℕ) (after : List (List ℕ)) (o : Option Run) → run_of broken ≡ o
    → ((s : Run) → AreRising low (s ∷ []) → broken ≢ element s) → option_and_then (next low after) o ≡ None
none_here low broken after None e none = refl
none_here low broken after (Some r) e none = too_low low broken after r (nat_le low r.first) refl (run_read broken r e) none

runs_none : (low : ℕ) (before : List Run) (broken : List ℕ) (after : List (List ℕ)) → AreRising low before
    → ((r : Run) → AreRising low (before ++ r ∷ []) → broken ≢ element r)
    → runs_of low (map element before ++ broken ∷ after) ≡ None
runs_none low [] broken after h none = none_here low broken after (run_of broken) refl none
runs_none low (s ∷ ss) broken after h none =
    ap (option_and_then (next low (map element ss ++ broken ∷ after))) (run_is s (from_zero low s h.0))
    ∙ went_on low s (map element ss ++ broken ∷ after) None h.0.above (runs_none (suc s.last) ss broken after h.1 (λ r rises. none r (h.0, rises)))

-- of a text that breaks the form no set is read
pub breaks_set : (text : List ℕ) (at : ℕ) → BreaksAt text at → None ≡ set_of text
unfolding set_of
breaks_set text at h =
    sym (ap (λ es. option_map (flat_map numbers) (runs_of 0 es)) h.cut
    ∙ ap (option_map (flat_map numbers)) (runs_none 0 h.before h.broken h.after h.rising h.breaks))
