-- Facts on lists that are cut at a byte.
use Rattle.std.proofs.Common.{◌≡◌, ℕ, ◌+◌, ◌<◌, true, false, cond, eqb, List, ◌∷◌, ◌++◌, length, get_or, take, drop, refl, sym, ap, ◌∙◌, subst, arith, Some, None, inl, inr}
use Rattle.std.proofs.lemmas.Bool.{eq-eqb, both_ways, eqb-true, cases_lt, lt-ltb, ltb-true}
use Rattle.std.proofs.lemmas.List.{append_cancel_left, get_or_at, get_or-take, length-append, length-take-le, drop_more, take-append-drop}
use Rattle.std.proofs.lemmas.List.Elements.{All-from_get_or}
use Rattle.std.proofs.lemmas.List.Splits.{slice_split_at}
use Rattle.std.proofs.lemmas.List.Sums.{fails_before_first, passes_at_first}
use Rattle.std.proofs.lemmas.Option.{cond_some, none-some}
use Rattle.std.specs.List.{All, position, position_or_len, slice_split}

-- The list has no such byte.
abbrev pub Lacks : ℕ → List ℕ → Type 0
Lacks c xs = All (λ b. eqb b c ≡ false) xs

-- A list cut at the first such byte.
pub record CutAt (c : ℕ) (xs : List ℕ) (i : ℕ) : Type 0 where
  pub within : i < length xs
  pub parts : xs ≡ take i xs ++ c ∷ drop (i + 1) xs
  pub before : Lacks c (take i xs)

pub cut_some : (c : ℕ) (xs : List ℕ) (i : ℕ) → position (λ b. eqb b c) xs ≡ Some i → CutAt c xs i
cut_some c xs i e =
    let found = cond_some _ (position_or_len (λ b. eqb b c) xs) i e in
    let within : position_or_len (λ b. eqb b c) xs < length xs = ltb-true _ _ found.0 in
    let first : eqb (get_or xs (position_or_len (λ b. eqb b c) xs) 0) c ≡ true = passes_at_first (λ b. eqb b c) xs 0 within in
    let here : get_or xs i 0 ≡ c = ap (λ m. get_or xs m 0) (sym found.1) ∙ eqb-true _ _ first in
    let inside : i < length xs = let same = found.1 in omega (arith, same) in
    record {
      within = inside;
      parts = sym (take-append-drop i xs) ∙ ap (λ z. take i xs ++ z) (drop_more xs i 0 inside) ∙ ap (λ m. take i xs ++ m ∷ drop (i + 1) xs) here;
      before =
          All-from_get_or (λ b. eqb b c ≡ false) (take i xs) 0
          (λ k q.
          let short = length-take-le i xs (omega arith) in
          let same = found.1 in
          ap (λ z. eqb z c) (get_or-take i xs k 0 (omega (arith, short))) ∙ fails_before_first (λ b. eqb b c) xs k 0 (omega (arith, short, same)));
    }

pub cut_none : (c : ℕ) (xs : List ℕ) → position (λ b. eqb b c) xs ≡ None → Lacks c xs
cut_none c xs e =
    All-from_get_or (λ b. eqb b c ≡ false) xs 0
    (λ k q.
    elim (cases_lt (position_or_len (λ b. eqb b c) xs) (length xs)) [
      | inl lt ↦ absurd (none-some (position_or_len (λ b. eqb b c) xs) (sym e ∙ ap (λ t. cond t (Some (position_or_len (λ b. eqb b c) xs)) None) (lt-ltb _ _ lt)))
      | inr ge ↦ fails_before_first (λ b. eqb b c) xs k 0 (omega arith)
    ])

-- What lacks the byte is not cut by it, and a cut is the only one.
pub lacks_none : (c : ℕ) (w t : List ℕ) → Lacks c (w ++ c ∷ t) → ⊥
lacks_none c w t h =
    both_ways (eqb c c) (subst (λ (z : ℕ). eqb z c ≡ false) (get_or_at w c t 0 (length w) refl) (h (length w) 0 (omega (arith, length-append w (c ∷ t))))) (eq-eqb c c refl)

pub cut_once : (c : ℕ) (w t v s : List ℕ) → Lacks c w → Lacks c v → w ++ c ∷ t ≡ v ++ c ∷ s → (w ≡ v) × (t ≡ s)
cut_once c w t v s a b e =
    let cuts : w ∷ slice_split (λ z. eqb z c) t ≡ v ∷ slice_split (λ z. eqb z c) s =
    sym (slice_split_at (λ z. eqb z c) w c t a (eq-eqb c c refl)) ∙ ap (slice_split (λ z. eqb z c)) e ∙ slice_split_at (λ z. eqb z c) v c s b (eq-eqb c c refl) in
    let front : w ≡ v = cc in
    let tails : c ∷ t ≡ c ∷ s = append_cancel_left v (c ∷ t) (c ∷ s) (ap (λ z. z ++ c ∷ t) (sym front) ∙ e) in
    (front, cc)
