-- Among the first n to go: how many are greater than x, against the n-th greatest of the list in order.
use Rattle.std.proofs.Common.{◌≡◌, ℕ, ◌+◌, ◌-◌, ◌<◌, ◌≤◌, zero, suc, Bool, true, false, cond, not, List, [], ◌∷◌, length, take, drop, get_or, slice_get, nat_lt, Some, None, refl, sym, ap, subst, ◌∙◌, arith, lt-ltb, ⊎_elim, true≢false}
use Rattle.std.specs.Cmp.{IsStrictWeakOrder}
use Rattle.std.specs.List.{All, count_by}
use Rattle.std.specs.List.Sorted.{IsPermutation, IsSortedBy}
use Rattle.std.specs.Option.{option_map_or}
use Rattle.std.proofs.lemmas.Bool.{cases_lt, le-ltb}
use Rattle.std.proofs.lemmas.List.{get_or-drop, get_or-take, length-drop, length-take}
use Rattle.std.proofs.lemmas.List.Elements.{All-head, All-tail}
use Rattle.std.proofs.lemmas.List.Sorted.{sorted_far, sum_by-IsPermutation, length_permutation}
use Rattle.std.proofs.lemmas.List.Sums.{count_by-le-length, sum_by-cons, sum_by-take-drop}

module _ {X : Type 0} (test : X → Bool) where
  -- All pass.
  count_all : (xs : List X) → All (λ x. test x ≡ true) xs → count_by test xs ≡ length xs
  count_all [] h = refl
  count_all (x ∷ xs) h =
      let rest = count_all xs (All-tail (λ x. test x ≡ true) x xs h) in
      let first = ap {B = ℕ} (λ (b : Bool). cond b 1 0) (All-head (λ x. test x ≡ true) x xs h) in
      omega (arith, sum_by-cons (λ y. cond (test y) 1 0) x xs, rest, first)

  -- None passes.
  count_none : (xs : List X) → All (λ x. test x ≡ false) xs → count_by test xs ≡ 0
  count_none [] h = refl
  count_none (x ∷ xs) h =
      let rest = count_none xs (All-tail (λ x. test x ≡ false) x xs h) in
      let first = ap {B = ℕ} (λ (b : Bool). cond b 1 0) (All-head (λ x. test x ≡ false) x xs h) in
      omega (arith, sum_by-cons (λ y. cond (test y) 1 0) x xs, rest, first)

  -- As many pass as among the first and behind them.
  pub count_parts : (n : ℕ) (xs : List X) → count_by test (take n xs) + count_by test (drop n xs) ≡ count_by test xs
  count_parts n xs = sum_by-take-drop (λ y. cond (test y) 1 0) xs n

module _ {X : Type 0} where
  get_or_same : (xs : List X) (i : ℕ) (d e : X) → i < length xs → get_or xs i d ≡ get_or xs i e
  get_or_same [] i d e l = absurd (omega (arith, l))
  get_or_same (a ∷ xs) zero d e l = refl
  get_or_same (a ∷ xs) (suc i) d e l = get_or_same xs i d e (omega (arith, l))

module _ {X : Type 0} (lt : X → X → Bool) (order : IsStrictWeakOrder lt) where
  -- Past a greater one.
  above : (x t y : X) → lt x t ≡ true → lt y t ≡ false → lt x y ≡ true
  above x t y h k = by (lt x y) refl
    where
      by : (b : Bool) → lt x y ≡ b → b ≡ true
      by true e = refl
      by false e = absurd (true≢false (sym h ∙ order.chain x y t e k))

  module _ (ys : List X) (sorted : IsSortedBy lt ys) (w : ℕ) (within : w < length ys) (x : X) where
    -- From the place on all are greater.
    many : lt x (get_or ys w x) ≡ true → length ys - w ≤ count_by (lt x) ys
    many h =
        let t = get_or ys w x in
        let later : All (λ y. lt x y ≡ true) (drop w ys) = λ k d l.
        let far : w + k < length ys = omega (arith, length-drop w ys, l) in
        subst (λ y. lt x y ≡ true) (sym (get_or-drop w ys k d))
        (above x t (get_or ys (w + k) d) h
        (subst (λ s. lt (get_or ys (w + k) d) s ≡ false) (get_or_same ys w d x within) (sorted_far lt order ys sorted w (w + k) d (omega arith) far)))
        in
        omega (arith, count_all (lt x) (drop w ys) later, length-drop w ys, count_parts (lt x) w ys)

    -- Up to the place none is greater.
    few : lt x (get_or ys w x) ≡ false → count_by (lt x) ys < length ys - w
    few h =
        let t = get_or ys w x in
        let first : All (λ y. lt x y ≡ false) (take (w + 1) ys) = λ k d l.
        let near : k < w + 1 = omega (arith, length-take (w + 1) ys, l) in
        subst (λ y. lt x y ≡ false) (sym (get_or-take (w + 1) ys k d near))
        (order.chain x t (get_or ys k d) h
        (subst (λ s. lt s (get_or ys k d) ≡ false) (get_or_same ys w d x within) (sorted_far lt order ys sorted k w d (omega arith) within)))
        in
        omega (arith, count_none (lt x) (take (w + 1) ys) first, count_by-le-length (lt x) (drop (w + 1) ys), length-drop (w + 1) ys, count_parts (lt x) (w + 1) ys)

  -- Fewer than so many are greater than x just where the one at the place is not.
  pub going-is : (xs ys : List X) (sorted : IsSortedBy lt ys) (moved : IsPermutation xs ys) (w : ℕ) (x : X)
      → nat_lt (count_by (lt x) xs) (length xs - w) ≡ option_map_or (λ least. not (lt x least)) (slice_get ys w) false
  going-is xs ys sorted moved w x = ⊎_elim inside past (cases_lt w (length ys))
    where
      same_count : count_by (lt x) ys ≡ count_by (lt x) xs
      same_count = sum_by-IsPermutation (λ y. cond (lt x y) 1 0) xs ys moved

      same_length : length ys ≡ length xs
      same_length = length_permutation xs ys moved

      there : (zs : List X) (k : ℕ) → k < length zs → slice_get zs k ≡ Some (get_or zs k x)
      there [] k l = absurd (omega (arith, l))
      there (z ∷ zs) zero l = refl
      there (z ∷ zs) (suc k) l = there zs k (omega (arith, l))

      none : (zs : List X) (k : ℕ) → length zs ≤ k → slice_get zs k ≡ None
      none [] zero l = refl
      none [] (suc k) l = refl
      none (z ∷ zs) zero l = absurd (omega (arith, l))
      none (z ∷ zs) (suc k) l = none zs k (omega (arith, l))

      inside : w < length ys → nat_lt (count_by (lt x) xs) (length xs - w) ≡ option_map_or (λ least. not (lt x least)) (slice_get ys w) false
      inside l = by (lt x (get_or ys w x)) refl ∙ ap (λ o. option_map_or (λ least. not (lt x least)) o false) (sym (there ys w l))
        where
          by : (b : Bool) → lt x (get_or ys w x) ≡ b → nat_lt (count_by (lt x) xs) (length xs - w) ≡ not (lt x (get_or ys w x))
          by true e = le-ltb (count_by (lt x) xs) (length xs - w) (omega (arith, many ys sorted w l x e, same_count, same_length)) ∙ ap not (sym e)
          by false e = lt-ltb (count_by (lt x) xs) (length xs - w) (omega (arith, few ys sorted w l x e, same_count, same_length)) ∙ ap not (sym e)

      past : length ys ≤ w → nat_lt (count_by (lt x) xs) (length xs - w) ≡ option_map_or (λ least. not (lt x least)) (slice_get ys w) false
      past l =
          le-ltb (count_by (lt x) xs) (length xs - w) (omega (arith, same_length, l))
          ∙ ap (λ o. option_map_or (λ least. not (lt x least)) o false) (sym (none ys w l))
