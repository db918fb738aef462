-- A value that depends on the number of the first entries, and changes only at the places of a list: what it is at
-- each of them, and between them.
use Rattle.std.proofs.Common.{◌≡◌, ℕ, zero, suc, ◌+◌, ◌<◌, ◌≤◌, Bool, true, false, cond, List, [], ◌∷◌, ◌++◌, length, get_or, inl, inr, refl, sym, ap, ◌∙◌, arith}
use Rattle.std.specs.List.Sorted.{IsNonDecreasingBy}
use Rattle.std.proofs.lemmas.Bool.{cases_lt}
use Rattle.jc_verdicts.specs.LogPlaces.{IsCut}

module _ {X : Type 0} (g : ℕ → X) (P : ℕ → Type 0) where
  -- It is the same from one number on to another.
  abbrev pub IsSteady : ℕ → ℕ → Type 0
  IsSteady a b = (a ≤ b) × ((m : ℕ) → a ≤ m → m ≤ b → g m ≡ g a)

  -- From one number on to another it changes only at the places, and each of them is such a one.
  abbrev pub Changes : ℕ → ℕ → List ℕ → Type 0
  Changes a n [] = IsSteady a n
  Changes a n (p ∷ ps) = IsSteady a p × (p < n) × P p × Changes (p + 1) n ps

  -- One more number, at which it changes or not.
  pub changes-more : (b : Bool) (a n : ℕ) (ps : List ℕ) → (b ≡ true → P n) → (b ≡ false → g (n + 1) ≡ g n) → Changes a n ps → Changes a (n + 1) (cond b (ps ++ n ∷ []) ps)
  changes-more true a n [] there same h = (h, omega arith, there refl, (omega arith, λ m low high. let e : m ≡ n + 1 = omega (arith, low, high) in ap g e))
  changes-more false a n [] there same h = (omega (arith, h.0), steady)
    where
      steady : (m : ℕ) → a ≤ m → m ≤ n + 1 → g m ≡ g a
      steady m low high = elim (cases_lt n m) [
        | inl lt ↦ (let e : m ≡ n + 1 = omega (arith, lt, high) in ap g e ∙ same refl ∙ h.1 n h.0 (omega arith))
        | inr le ↦ h.1 m low le
      ]
  changes-more true a n (p ∷ ps) there same h = (h.0, omega (arith, h.1), h.2, changes-more true (p + 1) n ps there same h.3)
  changes-more false a n (p ∷ ps) there same h = (h.0, omega (arith, h.1), h.2, changes-more false (p + 1) n ps there same h.3)

  -- The first place is not below where it begins.
  changes_above : (a n : ℕ) (ps : List ℕ) (d : ℕ) (i : ℕ) → Changes a n ps → i < length ps → a ≤ get_or ps i d
  changes_above a n [] d i h within = absurd (omega (arith, within))
  changes_above a n (p ∷ ps) d zero h within = h.0.0
  changes_above a n (p ∷ ps) d (suc i) h within =
      let rest = changes_above (p + 1) n ps d i h.3 (omega (arith, within)) in
      let first = h.0.0 in
      omega (arith, rest, first)

  -- The places do not fall.
  pub changes-rise : (a n : ℕ) (ps : List ℕ) → Changes a n ps → IsNonDecreasingBy (λ place. place) ps
  changes-rise a n [] h i j d le within = absurd (omega (arith, within))
  changes-rise a n (p ∷ ps) h zero zero d le within = omega arith
  changes-rise a n (p ∷ ps) h zero (suc j) d le within =
      let rest = changes_above (p + 1) n ps d j h.3 (omega (arith, within)) in
      omega (arith, rest)
  changes-rise a n (p ∷ ps) h (suc i) zero d le within = absurd (omega (arith, le))
  changes-rise a n (p ∷ ps) h (suc i) (suc j) d le within = changes-rise (p + 1) n ps h.3 i j d (omega (arith, le)) (omega (arith, within))

  -- Before the first place it is as it began.
  changes_begin : (a n : ℕ) (ps : List ℕ) → Changes a n ps → g (get_or ps 0 n) ≡ g a
  changes_begin a n [] h = h.1 n h.0 (omega arith)
  changes_begin a n (p ∷ ps) h = h.0.1 p h.0.0 (omega arith)

  -- Each place is below the end, and such a one.
  pub changes-place : (a n : ℕ) (ps : List ℕ) (i : ℕ) → Changes a n ps → i < length ps → (get_or ps i 0 < n) × P (get_or ps i 0)
  changes-place a n [] i h within = absurd (omega (arith, within))
  changes-place a n (p ∷ ps) zero h within = (h.1, h.2)
  changes-place a n (p ∷ ps) (suc i) h within = changes-place (p + 1) n ps i h.3 (omega (arith, within))

  -- After a place it is as before the next.
  changes_next : (a n : ℕ) (ps : List ℕ) (i : ℕ) → Changes a n ps → i < length ps → g (get_or ps (suc i) n) ≡ g (get_or ps i 0 + 1)
  changes_next a n [] i h within = absurd (omega (arith, within))
  changes_next a n (p ∷ ps) zero h within = changes_begin (p + 1) n ps h.3
  changes_next a n (p ∷ ps) (suc i) h within = changes_next (p + 1) n ps i h.3 (omega (arith, within))

  pub changes-next : (n : ℕ) (ps : List ℕ) (i : ℕ) → Changes 0 n ps → i < length ps → g (get_or ps (i + 1) n) ≡ g (get_or ps i 0 + 1)
  changes-next n ps i h within =
      let next : i + 1 ≡ suc i = omega arith in
      ap (λ k. g (get_or ps k n)) next ∙ changes_next 0 n ps i h within

  -- Among the first entries it is as before the first place that is not among them.
  changes_cut : (a n s : ℕ) (ps : List ℕ) (k : ℕ) → Changes a n ps → a ≤ s → s ≤ n → k ≤ length ps → ((i : ℕ) → i < k → get_or ps i 0 < s) → ((i : ℕ) → k ≤ i → i < length ps → s ≤ get_or ps i 0) → g (get_or ps k n) ≡ g s
  changes_cut a n s [] zero h low high short below above = h.1 n h.0 (omega arith) ∙ sym (h.1 s low high)
  changes_cut a n s [] (suc k) h low high short below above = absurd (omega (arith, short))
  changes_cut a n s (p ∷ ps) zero h low high short below above = h.0.1 p h.0.0 (omega arith) ∙ sym (h.0.1 s low (above 0 (omega arith) (omega arith)))
  changes_cut a n s (p ∷ ps) (suc k) h low high short below above =
      let first = below 0 (omega arith) in
      changes_cut (p + 1) n s ps k h.3 (omega (arith, first)) high (omega (arith, short))
      (λ i lt. below (suc i) (omega (arith, lt))) (λ i le lt. above (suc i) (omega (arith, le)) (omega (arith, lt)))

  pub changes-cut : (n s : ℕ) (ps : List ℕ) (k : ℕ) → Changes 0 n ps → s ≤ n → IsCut s ps k → g (get_or ps k n) ≡ g s
  changes-cut n s ps k h high cut = changes_cut 0 n s ps k h (omega arith) high cut.within cut.below cut.above

  -- Before the first place of all it is as at the beginning.
  pub changes-first : (n : ℕ) (ps : List ℕ) → Changes 0 n ps → g (get_or ps 0 n) ≡ g 0
  changes-first n ps h = changes_begin 0 n ps h
