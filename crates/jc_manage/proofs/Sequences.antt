-- Small facts on lists: the numbers from 0 on, the first few of what passes a test, and tests over filters.
use Rattle.std.proofs.Common.{◌≡◌, ℕ, zero, suc, ◌+◌, ◌-◌, ◌<◌, ◌≤◌, Bool, true, false, cond, ◌||◌, List, [], ◌∷◌, ◌++◌, map, filter, length, take, Option, Some, refl, sym, ap, ◌∙◌, arith, nat_lt, ltb-true}
use Rattle.std.specs.List.{range_with_len, list_any}
use Rattle.std.proofs.lemmas.Bool.{ltb-false}
use Rattle.std.proofs.lemmas.List.{append-nil, length-map, map-append}
use Rattle.std.proofs.lemmas.List.Elements.{filter-append}
use Rattle.std.proofs.lemmas.List.Folds.{list_any-append}

-- One more number at the end.
pub range_more : (a n : ℕ) → range_with_len a (n + 1) ≡ range_with_len a n ++ (a + n) ∷ []
range_more a zero = let same : a ≡ a + 0 = omega arith in ap (λ m. m ∷ []) same
range_more a (suc n) =
    let one : suc n + 1 ≡ suc (n + 1) = omega arith in
    let last : a + 1 + n ≡ a + suc n = omega arith in
    ap (range_with_len a) one ∙ ap (λ rest. a ∷ rest) (range_more (a + 1) n) ∙ ap (λ m. a ∷ (range_with_len (a + 1) n ++ m ∷ [])) last

-- Of the numbers below n + 1, those that pass.
pub filter-range_more : (test : ℕ → Bool) (n : ℕ) → filter test (range_with_len 0 (n + 1)) ≡ filter test (range_with_len 0 n) ++ cond (test n) (n ∷ []) []
filter-range_more test n =
    let last : 0 + n ≡ n = omega arith in
    ap (filter test) (range_more 0 n) ∙ filter-append test (range_with_len 0 n) ((0 + n) ∷ [])
    ∙ ap (λ m. filter test (range_with_len 0 n) ++ cond (test m) (m ∷ []) []) last

module _ {X : Type 0} where
  take_none : (k : ℕ) → take {A = X} k [] ≡ []
  take_none zero = refl
  take_none (suc k) = refl

  -- Among the first k there is room for one more.
  pub take_push : (k : ℕ) (xs : List X) (x : X) → length (take k xs) < k → take k (xs ++ x ∷ []) ≡ take k xs ++ x ∷ []
  take_push zero xs x h = absurd (omega (arith, h))
  take_push (suc k) [] x h = ap (λ rest. x ∷ rest) (take_none k)
  take_push (suc k) (y ∷ xs) x h = ap (λ rest. y ∷ rest) (take_push k xs x (omega (arith, h)))

  -- Among the first k there is no room.
  pub take_full : (k : ℕ) (xs : List X) (x : X) → k ≤ length (take k xs) → take k (xs ++ x ∷ []) ≡ take k xs
  take_full zero [] x h = refl
  take_full zero (y ∷ xs) x h = refl
  take_full (suc k) [] x h = absurd (omega (arith, h))
  take_full (suc k) (y ∷ xs) x h = ap (λ rest. y ∷ rest) (take_full k xs x (omega (arith, h)))

-- The first free indexes below n + 1, from those below n: n is added where it passes and there is room.
pub free-next : (test : ℕ → Bool) (most n : ℕ) (old new : List (Option ℕ)) → old ≡ map (λ m. Some m) (take most (filter test (range_with_len 0 n)))
    → new ≡ cond (test n) (cond (nat_lt (length old) most) (old ++ Some n ∷ []) old) old → new ≡ map (λ m. Some m) (take most (filter test (range_with_len 0 (n + 1))))
free-next test most n old new is step =
    step ∙ by (test n) (nat_lt (length old) most) refl ∙ ap (λ ms. map (λ m. Some m) (take most ms)) (sym (filter-range_more test n))
  where
    before : List ℕ
    before = filter test (range_with_len 0 n)

    long : length old ≡ length (take most before)
    long = ap length is ∙ length-map (take most before) (λ m. Some m)

    by : (b less : Bool) → nat_lt (length old) most ≡ less → cond b (cond less (old ++ Some n ∷ []) old) old ≡ map (λ m. Some m) (take most (before ++ cond b (n ∷ []) []))
    by true true h =
        ap (λ ms. ms ++ Some n ∷ []) is ∙ sym (map-append (λ m. Some m) (take most before) (n ∷ []))
        ∙ ap (map (λ m. Some m)) (sym (take_push most before n (omega (arith, long, ltb-true (length old) most h))))
    by true false h = is ∙ ap (map (λ m. Some m)) (sym (take_full most before n (omega (arith, long, ltb-false (length old) most h))))
    by false less h = is ∙ ap (λ ms. map (λ m. Some m) (take most ms)) (sym (append-nil before))

-- Whether one of the first passes, once the next is looked at.
pub any-next : {X : Type 0} (test : X → Bool) (xs : List X) (i : ℕ) (x : X) (old new : Bool) → take (i + 1) xs ≡ take i xs ++ x ∷ []
    → old ≡ list_any test (take i xs) → new ≡ (test x || old) → new ≡ list_any test (take (i + 1) xs)
any-next test xs i x old new more is step =
    step ∙ ap (λ b. test x || b) is ∙ turned (test x) (list_any test (take i xs)) ∙ sym (ap (list_any test) more ∙ list_any-append test (take i xs) (x ∷ []))
  where
    turned : (a b : Bool) → (a || b) ≡ (b || (a || false))
    turned true true = refl
    turned true false = refl
    turned false true = refl
    turned false false = refl

-- Tests that agree on the numbers below a bound pass the same of them.
pub filter-range_agree : (f g : ℕ → Bool) (a n : ℕ) → ((m : ℕ) → m < a + n → f m ≡ g m) → filter f (range_with_len a n) ≡ filter g (range_with_len a n)
filter-range_agree f g a zero same = refl
filter-range_agree f g a (suc n) same =
    let rest : filter f (range_with_len (a + 1) n) ≡ filter g (range_with_len (a + 1) n) = filter-range_agree f g (a + 1) n (λ m h. same m (omega (arith, h))) in
    let first : f a ≡ g a = same a (omega arith) in
    λ i. cond (first i) (a ∷ rest i) (rest i)

-- Where there are enough of what passes below i, what comes after changes nothing.
pub free-enough : (test : ℕ → Bool) (most i n : ℕ) (found : List (Option ℕ)) → i ≤ n → found ≡ map (λ m. Some m) (take most (filter test (range_with_len 0 i)))
    → length found ≡ most → found ≡ map (λ m. Some m) (take most (filter test (range_with_len 0 n)))
free-enough test most i n found within is enough =
    let whole : i + (n - i) ≡ n = omega (arith, within) in
    is ∙ ap (map (λ m. Some m)) (sym (past (n - i)) ∙ ap (λ k. take most (filter test (range_with_len 0 k))) whole)
  where
    below : ℕ → List ℕ
    below k = filter test (range_with_len 0 k)

    long : length (take most (below i)) ≡ most
    long = sym (ap length is ∙ length-map (take most (below i)) (λ m. Some m)) ∙ enough

    past : (k : ℕ) → take most (below (i + k)) ≡ take most (below i)
    past zero = let same : i + 0 ≡ i = omega arith in ap (λ k. take most (below k)) same
    past (suc k) =
        let more : i + suc k ≡ i + k + 1 = omega arith in
        let full : most ≤ length (take most (below (i + k))) = omega (arith, ap length (past k), long) in
        ap (λ m. take most (below m)) more ∙ ap (take most) (filter-range_more test (i + k)) ∙ by full (test (i + k)) ∙ past k
      where
        by : most ≤ length (take most (below (i + k))) → (b : Bool) → take most (below (i + k) ++ cond b ((i + k) ∷ []) []) ≡ take most (below (i + k))
        by full true = take_full most (below (i + k)) (i + k) full
        by full false = ap (take most) (append-nil (below (i + k)))
