-- How many members a set has gained that has lost none: as many as it is longer.
use Rattle.std.proofs.Common.{◌≡◌, ℕ, suc, ◌+◌, ◌<◌, Bool, true, false, not, cond, eqb, ◌||◌, inl, inr, List, [], ◌∷◌, filter, length, refl, ap, sym, ◌∙◌, subst, arith, true≢false}
use Rattle.std.specs.List.{AllByRecursion as Each}
use Rattle.std.proofs.lemmas.Bool.{eq-eqb, eqb-true, ne_eqb, or_cases}
use Rattle.std.proofs.lemmas.List.Sums.{length-filter}
use Rattle.jc_ranges.specs.Sets.{IsIncreasing, has}
use Rattle.jc_types.proofs.ListFacts.{Each-both, Each-weaker, filter_all, filter_same}
use Rattle.jc_account.specs.Modes.{gained}
use Rattle.jc_account.proofs.ListedFacts.{each}

-- The members that the set before has not.
abbrev new_members : List ℕ → List ℕ → List ℕ
new_members before after = filter (λ n. not (has n before)) after

-- A number below all is not among them.
pub has-below_all : (n : ℕ) (xs : List ℕ) → Each (λ x. n < x) xs → has n xs ≡ false
has-below_all n [] all = refl
has-below_all n (x ∷ xs) all =
    let first : n < x = all.0 in
    ap (λ b. b || has n xs) (ne_eqb x n (λ e. omega (arith, e, first))) ∙ has-below_all n xs all.1

-- What holds of each holds of a member.
each-has : (P : ℕ → Type 0) (n : ℕ) (xs : List ℕ) → Each P xs → has n xs ≡ true → P n
each-has P n [] all h = absurd (true≢false (sym h))
each-has P n (x ∷ xs) all h =
    elim (or_cases (eqb x n) (has n xs) h) [
      | inl e ↦ subst P (eqb-true x n e) all.0
      | inr e ↦ each-has P n xs all.1 e
    ]

-- A number below all of a set makes no difference to what it gains.
new-above : (x : ℕ) (xs ys : List ℕ) → Each (λ y. x < y) ys → new_members (x ∷ xs) ys ≡ new_members xs ys
new-above x xs ys above =
    filter_same (λ n. not (has n (x ∷ xs))) (λ n. not (has n xs)) ys
    (Each-weaker (λ y. x < y) (λ y. not (has y (x ∷ xs)) ≡ not (has y xs))
    (λ y lt. ap (λ b. not (b || has y xs)) (ne_eqb x y (λ e. omega (arith, e, lt)))) ys above)

-- Numbers above the first member of a set are among the others.
held-above : (y : ℕ) (xs ys : List ℕ) → Each (λ x. y < x) xs → Each (λ x. has x (y ∷ ys) ≡ true) xs → Each (λ x. has x ys ≡ true) xs
held-above y xs ys above held =
    Each-weaker (λ x. (y < x) × (has x (y ∷ ys) ≡ true)) (λ x. has x ys ≡ true)
    (λ x p. let lt : y < x = p.0 in sym (ap (λ b. b || has x ys) (ne_eqb y x (λ e. omega (arith, e, lt)))) ∙ p.1) xs
    (Each-both (λ x. y < x) (λ x. has x (y ∷ ys) ≡ true) xs above held)

new-length : (xs ys : List ℕ) → IsIncreasing xs → IsIncreasing ys → Each (λ x. has x ys ≡ true) xs → length (new_members xs ys) + length xs ≡ length ys
new-length [] ys s t held =
    omega (arith, ap length (filter_all (λ n. not (has n [])) ys (each (λ n. not (has n []) ≡ true) (λ n. refl) ys)))
new-length (x ∷ xs) [] s t held = absurd (true≢false (sym held.0))
new-length (x ∷ xs) (y ∷ ys) s t held = by (eqb y x) refl (new-length xs ys s.1 t.1) (new-length (x ∷ xs) ys s t.1)
  where
    by : (b : Bool) → eqb y x ≡ b
        → (Each (λ n. has n ys ≡ true) xs → length (new_members xs ys) + length xs ≡ length ys)
        → (Each (λ n. has n ys ≡ true) (x ∷ xs) → length (new_members (x ∷ xs) ys) + suc (length xs) ≡ length ys)
        → length (new_members (x ∷ xs) (y ∷ ys)) + suc (length xs) ≡ suc (length ys)
    by true e both after =
        let is : y ≡ x = eqb-true y x e in
        let known : has y (x ∷ xs) ≡ true = ap (λ b. b || has y xs) (eq-eqb x y (sym is)) in
        let same : new_members (x ∷ xs) (y ∷ ys) ≡ new_members xs ys =
        ap (λ b. cond (not b) (y ∷ new_members (x ∷ xs) ys) (new_members (x ∷ xs) ys)) known
        ∙ new-above x xs ys (subst (λ k. Each (λ n. k < n) ys) is t.0) in
        let rest = both (held-above y xs ys (subst (λ k. Each (λ n. k < n) xs) (sym is) s.0) held.1) in
        omega (arith, ap length same, rest)
    by false e both after =
        let first : has x ys ≡ true = sym (ap (λ b. b || has x ys) e) ∙ held.0 in
        let lt : y < x = each-has (λ n. y < n) x ys t.0 first in
        let above : Each (λ n. y < n) xs = Each-weaker (λ n. x < n) (λ n. y < n) (λ n l. omega (arith, l, lt)) xs s.0 in
        let new : new_members (x ∷ xs) (y ∷ ys) ≡ y ∷ new_members (x ∷ xs) ys =
        ap (λ b. cond (not b) (y ∷ new_members (x ∷ xs) ys) (new_members (x ∷ xs) ys)) (has-below_all y (x ∷ xs) (lt, above)) in
        let longer : length (new_members (x ∷ xs) (y ∷ ys)) ≡ suc (length (new_members (x ∷ xs) ys)) = ap length new in
        omega (arith, longer, after (first, held-above y xs ys above held.1))

-- A set that has all members of the set before is longer by what it gained.
pub gained-length : (before after : List ℕ) → IsIncreasing before → IsIncreasing after → Each (λ n. has n after ≡ true) before → gained before after + length before ≡ length after
gained-length before after s t held =
    ap (λ k. k + length before) (sym (length-filter (λ n. not (has n before)) after)) ∙ new-length before after s t held
