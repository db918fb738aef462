-- How many numbers of a range a list has, or pods have as their index; so how many are free.
use Rattle.std.proofs.Common.{◌≡◌, ℕ, zero, suc, ◌+◌, ◌<◌, ◌≤◌, ◌==◌, Bool, true, false, cond, not, ◌&&◌, ◌||◌, List, [], ◌∷◌, filter, length, Option, Some, None, refl, sym, ap, ◌∙◌, arith, true≢false, eqb-true}
use Rattle.std.specs.List.{range_with_len}
use Rattle.std.specs.Option.{option_map_or}
use Rattle.jc_ranges.specs.Sets.{has}
use Rattle.jc_types.specs.declared.objects.Pod.{Pod}
use Rattle.jc_types.specs.declared.syncs.CountIn.{CountIn}
use Rattle.jc_states.specs.Indexes.{has_index}
use Rattle.jc_manage.specs.Creations.{free, holds, is_free, is_done_index}

above-none : (x a n : ℕ) → x < a → length (filter (λ m. x == m) (range_with_len a n)) ≡ 0
above-none x a zero lt = refl
above-none x a (suc n) lt = by (x == a) refl (above-none x (a + 1) n (omega (arith, lt)))
  where
    by : (b : Bool) → (x == a) ≡ b → length (filter (λ m. x == m) (range_with_len (a + 1) n)) ≡ 0 → length (cond b (a ∷ filter (λ m. x == m) (range_with_len (a + 1) n)) (filter (λ m. x == m) (range_with_len (a + 1) n))) ≡ 0
    by true e ih = let same = eqb-true x a e in absurd (omega (arith, same, lt))
    by false e ih = ih

one-at-most : (x a n : ℕ) → length (filter (λ m. x == m) (range_with_len a n)) ≤ 1
one-at-most x a zero = omega arith
one-at-most x a (suc n) = by (x == a) refl (one-at-most x (a + 1) n)
  where
    by : (b : Bool) → (x == a) ≡ b → length (filter (λ m. x == m) (range_with_len (a + 1) n)) ≤ 1 → length (cond b (a ∷ filter (λ m. x == m) (range_with_len (a + 1) n)) (filter (λ m. x == m) (range_with_len (a + 1) n))) ≤ 1
    by true e ih = let same = eqb-true x a e in let none = above-none x (a + 1) n (omega (arith, same)) in omega (arith, none)
    by false e ih = ih

either-few : (f g : ℕ → Bool) (xs : List ℕ) → length (filter (λ m. f m || g m) xs) ≤ length (filter f xs) + length (filter g xs)
either-few f g [] = omega arith
either-few f g (x ∷ xs) = by (f x) (g x) (either-few f g xs)
  where
    by : (p q : Bool) → length (filter (λ m. f m || g m) xs) ≤ length (filter f xs) + length (filter g xs)
        → length (cond (p || q) (x ∷ filter (λ m. f m || g m) xs) (filter (λ m. f m || g m) xs)) ≤ length (cond p (x ∷ filter f xs) (filter f xs)) + length (cond q (x ∷ filter g xs) (filter g xs))
    by true true ih = omega (arith, ih)
    by true false ih = omega (arith, ih)
    by false true ih = omega (arith, ih)
    by false false ih = ih

none-few : (xs : List ℕ) → length (filter (λ m. false) xs) ≡ 0
none-few [] = refl
none-few (x ∷ xs) = none-few xs

-- Of the numbers of a range no more are in a list than it has members.
members-few : (set : List ℕ) (a n : ℕ) → length (filter (λ m. has m set) (range_with_len a n)) ≤ length set
members-few [] a n = let none = none-few (range_with_len a n) in omega (arith, none)
members-few (x ∷ set) a n =
    let both = either-few (λ m. x == m) (λ m. has m set) (range_with_len a n) in
    let one = one-at-most x a n in
    let ih = members-few set a n in
    omega (arith, both, one, ih)

-- So where none of n numbers passes a test that those outside of a set pass, all are in the set.
all-in : (test within : ℕ → Bool) → ((m : ℕ) → test m ≡ not (within m)) → (a n : ℕ) → filter test (range_with_len a n) ≡ [] → length (filter within (range_with_len a n)) ≡ n
all-in test within is a zero e = refl
all-in test within is a (suc n) e = by (within a) refl (test a) refl e (all-in test within is (a + 1) n)
  where
    by : (p : Bool) → within a ≡ p → (q : Bool) → test a ≡ q → cond q (a ∷ filter test (range_with_len (a + 1) n)) (filter test (range_with_len (a + 1) n)) ≡ []
        → (filter test (range_with_len (a + 1) n) ≡ [] → length (filter within (range_with_len (a + 1) n)) ≡ n)
        → length (cond p (a ∷ filter within (range_with_len (a + 1) n)) (filter within (range_with_len (a + 1) n))) ≡ suc n
    by p i true j e ih = absurd (true≢false (ap (λ (l : List ℕ). elim l [ [] ↦ false | y ∷ ys ↦ true ]) e))
    by true i false j e ih = ap suc (ih e)
    by false i false j e ih = absurd (true≢false (sym (ap not i) ∙ sym (is a) ∙ j))

-- Of the numbers of a range no more are indexes of pods than there are pods.
index-few : (p : Pod) (a n : ℕ) → length (filter (λ m. has_index m p) (range_with_len a n)) ≤ 1
index-few p a n = by p.index
  where
    by : (o : Option ℕ) → length (filter (λ m. option_map_or (λ index. index == m) o false) (range_with_len a n)) ≤ 1
    by None = let none = none-few (range_with_len a n) in omega (arith, none)
    by (Some index) = one-at-most index a n

held-few : (pods : List Pod) (a n : ℕ) → length (filter (λ m. holds pods m) (range_with_len a n)) ≤ length pods
held-few [] a n = let none = none-few (range_with_len a n) in omega (arith, none)
held-few (p ∷ pods) a n =
    let both = either-few (λ m. has_index m p) (λ m. holds pods m) (range_with_len a n) in
    let one = index-few p a n in
    let ih = held-few pods a n in
    omega (arith, both, one, ih)

-- Where no index is free, there are as many completed and failed ones and pods that keep one as completions.
pub none-free : (completions : ℕ) (counted : CountIn) (kept : List Pod) → free completions counted kept ≡ []
    → completions ≤ length counted.completed + length counted.failed_indexes + length kept
none-free n counted kept e =
    let all = all-in (is_free counted kept) (λ m. is_done_index counted m || holds kept m) (λ m. nor (is_done_index counted m) (holds kept m)) 0 n e in
    let both = either-few (is_done_index counted) (holds kept) (range_with_len 0 n) in
    let settled = either-few (λ m. has m counted.completed) (λ m. has m counted.failed_indexes) (range_with_len 0 n) in
    let completed = members-few counted.completed 0 n in
    let failed = members-few counted.failed_indexes 0 n in
    let held = held-few kept 0 n in
    omega (arith, all, both, settled, completed, failed, held)
  where
    nor : (a b : Bool) → (not a && not b) ≡ not (a || b)
    nor true b = refl
    nor false b = refl
