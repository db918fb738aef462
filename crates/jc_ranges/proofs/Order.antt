-- Facts on increasing lists, and on what stands below, at and above a number in them.
use Rattle.std.proofs.Common.{◌≡◌, ℕ, zero, suc, ◌+◌, ◌<◌, ◌≤◌, Bool, true, false, ◌||◌, ◌&&◌, eqb, ltb, List, [], ◌∷◌, ◌++◌, length, get_or, take, drop, refl, sym, ap, ◌∙◌, inl, inr, arith, take-append-drop}
use Rattle.std.proofs.lemmas.Bool.{lt-ltb, le-ltb, eq-eqb, ne_eqb, or_right, cases_lt, cases_order, eqb-true}
use Rattle.std.proofs.lemmas.List.{length-take-le, drop_more}
use Rattle.std.proofs.lemmas.List.Elements.{All-from_recursion}
use Rattle.std.proofs.lemmas.List.Folds.{list_any-append}
use Rattle.std.proofs.lemmas.Map.Views.{any-filter_same}
use Rattle.std.proofs.lemmas.List.Sums.{length-filter}
use Rattle.std.specs.List.{AllByRecursion, filter, insert}
use Rattle.jc_ranges.specs.Sets.{IsIncreasing, IsSet, has, with_member, count_below}
use Rattle.jc_ranges.specs.declared.bounds.TheConstants.{GREATEST_INDEX}

-- What holds of each element.
pub each_weaker : (P Q : ℕ → Type 0) → ((y : ℕ) → P y → Q y) → (xs : List ℕ) → AllByRecursion P xs → AllByRecursion Q xs
each_weaker P Q f [] a = tt
each_weaker P Q f (x ∷ xs) a = (f x a.0, each_weaker P Q f xs a.1)

pub each_append : (P : ℕ → Type 0) (xs ys : List ℕ) → AllByRecursion P xs → AllByRecursion P ys → AllByRecursion P (xs ++ ys)
each_append P [] ys a b = b
each_append P (x ∷ xs) ys a b = (a.0, each_append P xs ys a.1 b)

pub increasing_append : (xs ys : List ℕ) (m : ℕ) → IsIncreasing xs → IsIncreasing ys → AllByRecursion (λ x. x < m) xs → AllByRecursion (λ y. m ≤ y) ys → IsIncreasing (xs ++ ys)
increasing_append [] ys m s t a b = t
increasing_append (x ∷ xs) ys m s t a b =
    let lt : x < m = a.0 in (
      each_append (λ y. x < y) xs ys s.0 (each_weaker (λ y. m ≤ y) (λ y. x < y) (λ y h. omega arith) ys b),
      increasing_append xs ys m s.1 t a.1 b,
    )

pub increasing_at : (xs : List ℕ) (i j d : ℕ) → IsIncreasing xs → i < j → j < length xs → get_or xs i d < get_or xs j d
increasing_at [] i j d s h k = absurd (omega arith)
increasing_at (x ∷ xs) i zero d s h k = absurd (omega arith)
increasing_at (x ∷ xs) zero (suc j) d s h k = All-from_recursion (λ y. x < y) xs s.0 j d (omega arith)
increasing_at (x ∷ xs) (suc i) (suc j) d s h k = increasing_at xs i j d s.1 (omega arith) (omega arith)

pub non_decreasing : (xs : List ℕ) → IsIncreasing xs → (i j d : ℕ) → i ≤ j → j < length xs → get_or xs i d ≤ get_or xs j d
non_decreasing xs s i j d h k =
    elim (cases_lt i j) [
      | inl lt ↦ let e = increasing_at xs i j d s lt k in omega (arith, e)
      | inr ge ↦ let e : i ≡ j = omega arith in rw e (omega arith)
    ]

-- There are at most as many members as numbers from the least that they can be.
pub length_between : (xs : List ℕ) (low high : ℕ) → IsIncreasing xs → AllByRecursion (λ x. low ≤ x) xs → AllByRecursion (λ x. x < high) xs → low ≤ high → length xs + low ≤ high
length_between [] low high s a b h = omega arith
length_between (x ∷ xs) low high s a b h =
    let at : low ≤ x = a.0 in
    let lt : x < high = b.0 in
    let more = length_between xs (suc x) high s.1 s.0 b.1 (omega arith) in
    omega (arith, more)

pub each_from_zero : (xs : List ℕ) → AllByRecursion (λ x. 0 ≤ x) xs
each_from_zero [] = tt
each_from_zero (x ∷ xs) = (omega arith, each_from_zero xs)

pub length_small : (xs : List ℕ) → IsSet xs → length xs ≤ suc GREATEST_INDEX
length_small xs s = let le = length_between xs 0 (suc GREATEST_INDEX) s.increasing (each_from_zero xs) (each_weaker (λ x. x ≤ GREATEST_INDEX) (λ x. x < suc GREATEST_INDEX) (λ x h. omega arith) xs s.small) (omega arith) in omega (arith, le)

-- A filter whose test passes before a place and fails from there on, and one the other way round.
pub filter_front : (p : ℕ → Bool) (xs : List ℕ) (i : ℕ) → i ≤ length xs → ((k : ℕ) → k < i → p (get_or xs k 0) ≡ true) → ((k : ℕ) → i ≤ k → k < length xs → p (get_or xs k 0) ≡ false) → filter p xs ≡ take i xs
filter_front p [] zero h a b = refl
filter_front p [] (suc i) h a b = refl
filter_front p (x ∷ xs) zero h a b =
    let e : p x ≡ false = b 0 (omega arith) (omega arith) in
    rw e (filter_front p xs zero (omega arith) (λ k q. absurd (omega arith)) (λ k q r. b (suc k) (omega arith) (omega arith)))
filter_front p (x ∷ xs) (suc i) h a b =
    let e : p x ≡ true = a 0 (omega arith) in
    rw e (ap (λ z. x ∷ z) (filter_front p xs i (omega arith) (λ k q. a (suc k) (omega arith)) (λ k q r. b (suc k) (omega arith) (omega arith))))

pub filter_back : (p : ℕ → Bool) (xs : List ℕ) (i : ℕ) → ((k : ℕ) → k < i → p (get_or xs k 0) ≡ false) → ((k : ℕ) → i ≤ k → k < length xs → p (get_or xs k 0) ≡ true) → filter p xs ≡ drop i xs
filter_back p [] zero a b = refl
filter_back p [] (suc i) a b = refl
filter_back p (x ∷ xs) zero a b =
    let e : p x ≡ true = b 0 (omega arith) (omega arith) in
    rw e (ap (λ z. x ∷ z) (filter_back p xs zero (λ k q. absurd (omega arith)) (λ k q r. b (suc k) (omega arith) (omega arith))))
filter_back p (x ∷ xs) (suc i) a b =
    let e : p x ≡ false = a 0 (omega arith) in
    rw e (filter_back p xs i (λ k q. a (suc k) (omega arith)) (λ k q r. b (suc k) (omega arith) (omega arith)))

-- Membership.
pub has_at : (n : ℕ) (xs : List ℕ) (i : ℕ) → i < length xs → get_or xs i 0 ≡ n → has n xs ≡ true
has_at n [] i h e = absurd (omega arith)
has_at n (x ∷ xs) zero h e = rw (eq-eqb x n e)
has_at n (x ∷ xs) (suc i) h e = or_right _ _ (has_at n xs i (omega arith) e)

pub has_none_at : (n : ℕ) (xs : List ℕ) → ((k : ℕ) → k < length xs → get_or xs k 0 ≡ n → ⊥) → has n xs ≡ false
has_none_at n [] a = refl
has_none_at n (x ∷ xs) a = rw (ne_eqb x n (a 0 (omega arith))) (has_none_at n xs (λ k q. a (suc k) (omega arith)))

-- A number that stands at place i.
pub present : (n : ℕ) (xs : List ℕ) (i : ℕ) → IsIncreasing xs → i < length xs → get_or xs i 0 ≡ n → xs ≡ with_member n xs
present n xs i s h e =
    let front = filter_front (λ x. ltb x n) xs i (omega arith)
    (λ k q. let lt = increasing_at xs k i 0 s q h in lt-ltb _ _ (omega (arith, lt)))
    (λ k q r. let le = non_decreasing xs s i k 0 q r in le-ltb _ _ (omega (arith, le))) in
    let back = filter_back (λ x. ltb n x) xs (i + 1)
    (λ k q. let le = non_decreasing xs s k i 0 (omega arith) h in le-ltb _ _ (omega (arith, le)))
    (λ k q r. let lt = increasing_at xs i k 0 s (omega arith) r in lt-ltb _ _ (omega (arith, lt))) in
    rw (front, back) (sym (ap (λ z. take i xs ++ z ∷ drop (i + 1) xs) (sym e) ∙ ap (λ z. take i xs ++ z) (sym (drop_more xs i 0 h)) ∙ take-append-drop i xs))

-- A number that would stand at place i, and does not.
pub absent : (n : ℕ) (xs : List ℕ) (i : ℕ) → i ≤ length xs → ((k : ℕ) → k < i → get_or xs k 0 < n) → ((k : ℕ) → i ≤ k → k < length xs → n < get_or xs k 0) → (has n xs ≡ false) × (insert xs i n ≡ with_member n xs)
absent n xs i h a b = (
  has_none_at n xs
      (λ k q e.
      elim (cases_lt k i) [
        | inl lt ↦ let below = a k lt in omega (arith, below)
        | inr ge ↦ let above = b k ge q in omega (arith, above)
      ]),
  let front = filter_front (λ x. ltb x n) xs i h (λ k q. lt-ltb _ _ (a k q)) (λ k q r. let lt = b k q r in le-ltb _ _ (omega (arith, lt))) in
      let back = filter_back (λ x. ltb n x) xs i (λ k q. let lt = a k q in le-ltb _ _ (omega (arith, lt))) (λ k q r. lt-ltb _ _ (b k q r)) in
      rw (front, back),
)

-- How many are below n, where a place parts those that are from those that are not.
pub count_at : (n : ℕ) (xs : List ℕ) (i : ℕ) → i ≤ length xs → ((k : ℕ) → k < i → ltb (get_or xs k 0) n ≡ true) → ((k : ℕ) → i ≤ k → k < length xs → ltb (get_or xs k 0) n ≡ false) → i ≡ count_below n xs
count_at n xs i h a b =
    sym (sym (length-filter (λ x. ltb x n) xs) ∙ ap length (filter_front (λ x. ltb x n) xs i h a b) ∙ length-take-le i xs h)

-- What a set with a member more has.
pub has-with_member : (m n : ℕ) (xs : List ℕ) → has m (with_member n xs) ≡ (eqb m n || has m xs)
has-with_member m n xs =
    let is = λ (x : ℕ). eqb x m in
    let front = any-filter_same is (λ x. ltb x n) (ltb m n) (λ k e. ap (λ z. ltb z n) (eqb-true k m e)) xs in
    let back = any-filter_same is (λ x. ltb n x) (ltb n m) (λ k e. ap (ltb n) (eqb-true k m e)) xs in
    list_any-append is (filter (λ x. ltb x n) xs) (n ∷ filter (λ x. ltb n x) xs) ∙ rw (front, back) (by (has m xs))
  where
    by : (h : Bool) → ((ltb m n && h) || (eqb n m || (ltb n m && h))) ≡ (eqb m n || h)
    by h =
        elim (cases_order m n) [
          | inl same ↦ rw (eq-eqb m n same, eq-eqb n m (sym same)) (or_right (ltb m n && h) true refl)
          | inr (inl less) ↦ rw (ne_eqb m n (omega arith), ne_eqb n m (omega arith), lt-ltb m n less, le-ltb n m (omega arith)) (or_false h)
          | inr (inr more) ↦ rw (ne_eqb m n (omega arith), ne_eqb n m (omega arith), le-ltb m n (omega arith), lt-ltb n m more)
        ]
      where
        or_false : (h : Bool) → (h || false) ≡ h
        or_false true = refl
        or_false false = refl
