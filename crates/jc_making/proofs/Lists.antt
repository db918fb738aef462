-- Counts over lists, of which one is put in or taken out; and over the numbers of a range.
use Rattle.std.proofs.Common.{◌≡◌, ℕ, zero, suc, ◌+◌, ◌<◌, ◌≤◌, ◌==◌, Bool, true, false, cond, not, ◌&&◌, ◌||◌, List, [], ◌∷◌, ◌++◌, filter, length, Option, Some, None, refl, sym, ap, ◌∙◌, arith, true≢false}
use Rattle.std.specs.List.{AllByRecursion as Each, list_any, range_with_len}
use Rattle.std.specs.Option.{option_map_or}
use Rattle.std.proofs.lemmas.Bool.{and_right, eq-eqb, eqb-false, eqb-true, ne_eqb, or_right}
use Rattle.jc_ranges.specs.Sets.{has}
use Rattle.jc_types.specs.declared.numbers.Uid.{Uid}
use Rattle.jc_types.specs.declared.objects.Pod.{Pod}
use Rattle.jc_types.specs.Keys.{same_uid}
use Rattle.jc_types.proofs.ListFacts.{Each-both, Each-filter, Each-passes, Each-weaker, filter_filter, filter_swap}
use Rattle.jc_states.specs.Indexes.{has_index}
use Rattle.jc_states.specs.PodLists.{RisesFrom}
use Rattle.jc_states.specs.UidLists.{is_in, uids_of}
use Rattle.jc_states.proofs.PodListFacts.{rises-each}
use Rattle.jc_account.proofs.ListedFacts.{among_passing}
use Rattle.jc_account.proofs.Owned.{filter-least}

-- 1 where it holds.
abbrev pub one_if : Bool → ℕ
one_if b = cond b 1 0

module _ {X : Type 0} where
  pub length-with : (f : X → Bool) (x : X) (xs : List X) → one_if (f x) + length (filter f xs) ≡ length (filter f (x ∷ xs))
  length-with f x xs = by (f x)
    where
      by : (b : Bool) → one_if b + length (filter f xs) ≡ length (cond b (x ∷ filter f xs) (filter f xs))
      by true = omega arith
      by false = omega arith

  -- Fewer pass a stronger test.
  pub fewer : (f g : X → Bool) (xs : List X) → Each (λ x. f x ≡ true → g x ≡ true) xs → length (filter f xs) ≤ length (filter g xs)
  fewer f g [] h = omega arith
  fewer f g (x ∷ xs) h = by (f x) (g x) h.0 (sym (length-with f x xs)) (sym (length-with g x xs)) (fewer f g xs h.1)
    where
      by : (a b : Bool) → (a ≡ true → b ≡ true) → length (filter f (x ∷ xs)) ≡ one_if a + length (filter f xs) → length (filter g (x ∷ xs)) ≡ one_if b + length (filter g xs)
          → length (filter f xs) ≤ length (filter g xs) → length (filter f (x ∷ xs)) ≤ length (filter g (x ∷ xs))
      by true true k p q ih = omega (arith, p, q, ih)
      by true false k p q ih = absurd (true≢false (sym (k refl)))
      by false true k p q ih = omega (arith, p, q, ih)
      by false false k p q ih = omega (arith, p, q, ih)

  -- Those that pass and those that do not are all.
  pub halves : (f : X → Bool) (xs : List X) → length (filter f xs) + length (filter (λ x. not (f x)) xs) ≡ length xs
  halves f [] = refl
  halves f (x ∷ xs) = by (f x) (sym (length-with f x xs)) (sym (length-with (λ y. not (f y)) x xs)) (halves f xs)
    where
      by : (b : Bool) → length (filter f (x ∷ xs)) ≡ one_if b + length (filter f xs) → length (filter (λ y. not (f y)) (x ∷ xs)) ≡ one_if (not b) + length (filter (λ y. not (f y)) xs)
          → length (filter f xs) + length (filter (λ y. not (f y)) xs) ≡ length xs → length (filter f (x ∷ xs)) + length (filter (λ y. not (f y)) (x ∷ xs)) ≡ suc (length xs)
      by true p q ih = omega (arith, p, q, ih)
      by false p q ih = omega (arith, p, q, ih)

  -- One in the middle of a list.
  pub length-mid : (f : X → Bool) (front back : List X) (x : X) → length (filter f (front ++ x ∷ back)) ≡ one_if (f x) + length (filter f (front ++ back))
  length-mid f [] back x = sym (length-with f x back)
  length-mid f (y ∷ front) back x =
      omega (arith, length-with f y (front ++ x ∷ back), length-with f y (front ++ back), length-mid f front back x)

  -- The same of those that pass two tests.
  pub passing-mid : (chosen test : X → Bool) (front back : List X) (x : X) → length (filter test (filter chosen (front ++ x ∷ back))) ≡ one_if (chosen x && test x) + length (filter test (filter chosen (front ++ back)))
  passing-mid chosen test front back x =
      ap length (filter_filter test chosen (front ++ x ∷ back))
      ∙ length-mid (λ y. chosen y && test y) front back x
      ∙ ap (λ ys. one_if (chosen x && test x) + length ys) (sym (filter_filter test chosen (front ++ back)))

  pub any-mid : (f : X → Bool) (front back : List X) (x : X) → list_any f (front ++ x ∷ back) ≡ (f x || list_any f (front ++ back))
  any-mid f [] back x = refl
  any-mid f (y ∷ front) back x = ap (λ b. f y || b) (any-mid f front back x) ∙ by (f y) (f x)
    where
      by : (a b : Bool) → (a || (b || list_any f (front ++ back))) ≡ (b || (a || list_any f (front ++ back)))
      by true true = refl
      by true false = refl
      by false b = refl

-- ---- numbers

pub has-filter : (test : ℕ → Bool) (n : ℕ) (xs : List ℕ) → has n (filter test xs) ≡ (test n && has n xs)
has-filter test n [] = by (test n)
  where
    by : (b : Bool) → false ≡ (b && false)
    by true = refl
    by false = refl
has-filter test n (x ∷ xs) = by (x == n) refl (test x) refl (has-filter test n xs)
  where
    by : (e : Bool) → (x == n) ≡ e → (t : Bool) → test x ≡ t → has n (filter test xs) ≡ (test n && has n xs) → has n (cond t (x ∷ filter test xs) (filter test xs)) ≡ (test n && ((x == n) || has n xs))
    by true e true t ih = ap (λ b. b || has n (filter test xs)) e ∙ sym (ap (λ b. b && ((x == n) || has n xs)) (ap test (sym (eqb-true x n e)) ∙ t) ∙ ap (λ b. b || has n xs) e)
    by true e false t ih = ih ∙ ap (λ b. b && has n xs) other ∙ sym (ap (λ b. b && ((x == n) || has n xs)) other)
      where
        other : test n ≡ false
        other = ap test (sym (eqb-true x n e)) ∙ t
    by false e true t ih = ap (λ b. b || has n (filter test xs)) e ∙ ih ∙ ap (λ b. test n && (b || has n xs)) (sym e)
    by false e false t ih = ih ∙ ap (λ b. test n && (b || has n xs)) (sym e)

pub has-range : (n a k : ℕ) → a ≤ n → n < a + k → has n (range_with_len a k) ≡ true
has-range n a zero low high = absurd (omega (arith, low, high))
has-range n a (suc k) low high = by (a == n) refl (λ l. has-range n (a + 1) k l (omega (arith, high)))
  where
    by : (b : Bool) → (a == n) ≡ b → (a + 1 ≤ n → has n (range_with_len (a + 1) k) ≡ true) → ((a == n) || has n (range_with_len (a + 1) k)) ≡ true
    by true e more = ap (λ b. b || has n (range_with_len (a + 1) k)) e
    by false e more = let ne = eqb-false a n e in or_right (a == n) (has n (range_with_len (a + 1) k)) (more (omega (arith, low, ne)))

-- ---- pods with an index of a set

abbrev pub has_one_of : List ℕ → Pod → Bool
has_one_of set pod = option_map_or (λ n. has n set) pod.index false

-- Where each has one of these indexes, and no two have the same, they are no more than these.
pub held-few : (set : List ℕ) (pods : List Pod) → Each (λ pod. has_one_of set pod ≡ true) pods → ((n : ℕ) → length (filter (has_index n) pods) ≤ 1) → length pods ≤ length set
held-few [] [] h few = omega arith
held-few [] (pod ∷ pods) h few = absurd (none pod.index h.0)
  where
    none : (o : Option ℕ) → option_map_or (λ n. false) o false ≡ true → ⊥
    none None e = true≢false (sym e)
    none (Some n) e = true≢false (sym e)
held-few (n ∷ set) pods h few =
    omega (
      arith,
      halves (has_index n) pods,
      few n,
      held-few set (filter (λ pod. not (has_index n pod)) pods) others
          (λ m. omega (arith, ap length (filter_swap (has_index m) (λ pod. not (has_index n pod)) pods), filter-least (λ pod. not (has_index n pod)) (filter (has_index m) pods), few m)),
    )
  where
    other : (o : Option ℕ) → option_map_or (λ m. has m (n ∷ set)) o false ≡ true → not (option_map_or (λ m. m == n) o false) ≡ true → option_map_or (λ m. has m set) o false ≡ true
    other None a b = a
    other (Some m) a b = by (n == m) refl a
      where
        by : (e : Bool) → (n == m) ≡ e → (e || has m set) ≡ true → has m set ≡ true
        by true e g = absurd (true≢false (sym b ∙ ap not (eq-eqb m n (sym (eqb-true n m e)))))
        by false e g = g

    others : Each (λ pod. has_one_of set pod ≡ true) (filter (λ pod. not (has_index n pod)) pods)
    others =
        Each-weaker (λ pod. (has_one_of (n ∷ set) pod ≡ true) × (not (has_index n pod) ≡ true)) (λ pod. has_one_of set pod ≡ true) (λ pod g. other pod.index g.0 g.1) (filter (λ pod. not (has_index n pod)) pods)
        (Each-both (λ pod. has_one_of (n ∷ set) pod ≡ true) (λ pod. not (has_index n pod) ≡ true) (filter (λ pod. not (has_index n pod)) pods)
        (Each-filter (λ pod. has_one_of (n ∷ set) pod ≡ true) (λ pod. not (has_index n pod)) pods h)
        (Each-passes (λ pod. not (has_index n pod)) pods))

-- ---- UIDs of pods that pass

module _ (test : Pod → Bool) where
  -- Of pods in ascending UID one with the UID of another passes just where that does.
  only-itself : (low : ℕ) (pods : List Pod) → RisesFrom low pods → Each (λ p. list_any (λ q. test q && same_uid q.uid p.uid) pods ≡ test p) pods
  only-itself low [] up = tt
  only-itself low (p ∷ pods) up = (
    (λ i. (test p && eq-eqb p.uid.0 p.uid.0 refl i) || none pods behind i) ∙ by (test p),
    Each-weaker (λ q. (p.uid.0 + 1 ≤ q.uid.0) × (list_any (λ r. test r && same_uid r.uid q.uid) pods ≡ test q)) (λ q. list_any (λ r. test r && same_uid r.uid q.uid) (p ∷ pods) ≡ test q)
        (λ q h. ap (λ b. b || list_any (λ r. test r && same_uid r.uid q.uid) pods) (and_right (test p) (same_uid p.uid q.uid) (ne_eqb p.uid.0 q.uid.0 (λ e. let l = h.0 in omega (arith, l, e)))) ∙ h.1) pods
        (Each-both (λ q. p.uid.0 + 1 ≤ q.uid.0) (λ q. list_any (λ r. test r && same_uid r.uid q.uid) pods ≡ test q) pods behind (only-itself (p.uid.0 + 1) pods up.1)),
  )
    where
      behind : Each (λ q. p.uid.0 + 1 ≤ q.uid.0) pods
      behind = rises-each (p.uid.0 + 1) pods up.1

      none : (qs : List Pod) → Each (λ q. p.uid.0 + 1 ≤ q.uid.0) qs → list_any (λ q. test q && same_uid q.uid p.uid) qs ≡ false
      none [] h = refl
      none (q ∷ qs) h =
          let l : p.uid.0 + 1 ≤ q.uid.0 = h.0 in
          ap (λ b. b || list_any (λ q. test q && same_uid q.uid p.uid) qs) (and_right (test q) (same_uid q.uid p.uid) (ne_eqb q.uid.0 p.uid.0 (λ e. omega (arith, l, e)))) ∙ none qs h.1

      by : (b : Bool) → ((b && true) || false) ≡ b
      by true = refl
      by false = refl

  -- Where UIDs are those of the pods that pass, that of a pod is among them where it passes.
  pub passes-in : (uids : List Uid) (pods : List Pod) → RisesFrom 0 pods → uids ≡ uids_of (filter test pods) → Each (λ p. is_in p.uid uids ≡ test p) pods
  passes-in uids pods up are =
      Each-weaker (λ p. list_any (λ q. test q && same_uid q.uid p.uid) pods ≡ test p) (λ p. is_in p.uid uids ≡ test p)
      (λ p h. ap (is_in p.uid) are ∙ among_passing p.uid test pods ∙ h) pods (only-itself 0 pods up)
