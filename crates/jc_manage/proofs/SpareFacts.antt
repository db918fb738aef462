-- Where no index is shared and none is of no use, no pod is spare; and where they are not too many, none goes.
use Rattle.std.proofs.Common.{◌≡◌, ℕ, zero, suc, ◌+◌, ◌-◌, ◌<◌, ◌≤◌, ◌==◌, nat_le, nat_lt, Bool, true, false, cond, not, ◌&&◌, ◌||◌, ◌⊎◌, inl, inr, List, [], ◌∷◌, ◌++◌, filter, length, Option, Some, None, refl, sym, ap, ◌∙◌, arith, ltb-true}
use Rattle.std.specs.List.{All, AllByRecursion as Each, count_by, flat_map, list_any, range_with_len}
use Rattle.std.specs.Option.{option_map_or}
use Rattle.std.proofs.lemmas.Bool.{and_from, eq-eqb, false_from_ne_true, le-ltb, leb-false, leb-true, ne_eqb, or_from, or_left, or_right}
use Rattle.std.proofs.lemmas.List.Elements.{All-from_recursion, recursion_from_All}
use Rattle.std.proofs.lemmas.List.Folds.{list_any-append}
use Rattle.std.proofs.lemmas.List.FromFn.{get_or-range_with_len, length-range_with_len}
use Rattle.jc_ranges.specs.declared.runs.Run.{Run}
use Rattle.jc_ranges.specs.Sets.{has}
use Rattle.jc_ranges.specs.Texts.{numbers}
use Rattle.jc_ranges.proofs.Order.{has_at}
use Rattle.jc_types.specs.declared.objects.Pod.{Pod}
use Rattle.jc_types.specs.declared.specifications.Mode.{Mode}
use Rattle.jc_types.specs.declared.specifications.Mode.TheVariants.{NonIndexed, Indexed}
use Rattle.jc_states.specs.Holders.{has_index_in}
use Rattle.jc_states.specs.Indexes.{has_index}
use Rattle.jc_states.proofs.PodListFacts.{each-fails}
use Rattle.jc_states.proofs.TallyFacts.{some-pass}
use Rattle.jc_types.proofs.ListFacts.{Each-both, Each-weaker, filter_all, filter_none}
use Rattle.jc_manage.specs.LetGoes.{goes_before, is_doubled, is_earlier, is_let_go, is_one_of, is_spare, remaining, surplus}

-- ---- tests over lists

module _ {X : Type 0} where
  -- What an element passes is passed by one of them.
  each-found : (xs : List X) → Each (λ x. (test : X → Bool) → test x ≡ true → list_any test xs ≡ true) xs
  each-found [] = tt
  each-found (x ∷ xs) = (
    (λ test h. or_left (test x) (list_any test xs) h),
    Each-weaker (λ y. (test : X → Bool) → test y ≡ true → list_any test xs ≡ true) (λ y. (test : X → Bool) → test y ≡ true → (test x || list_any test xs) ≡ true)
        (λ y found test h. or_right (test x) (list_any test xs) (found test h)) xs (each-found xs),
  )

  -- One passes one of two tests where one passes the first or one the second.
  any-either : (f g : X → Bool) (xs : List X) → list_any (λ x. f x || g x) xs ≡ (list_any f xs || list_any g xs)
  any-either f g [] = refl
  any-either f g (x ∷ xs) = ap (λ b. (f x || g x) || b) (any-either f g xs) ∙ by (f x) (g x) (list_any f xs)
    where
      by : (a b c : Bool) → ((a || b) || (c || list_any g xs)) ≡ ((a || c) || (b || list_any g xs))
      by true b c = refl
      by false true true = refl
      by false true false = refl
      by false false c = refl

  -- None passes a test that always fails.
  any-never : (xs : List X) → false ≡ list_any (λ (x : X). false) xs
  any-never [] = refl
  any-never (x ∷ xs) = any-never xs

  -- Those that pass are those that pass another test, too, and those that do not.
  pub length-split : (f g : X → Bool) (xs : List X) → length (filter f xs) ≡ length (filter (λ x. f x && g x) xs) + length (filter (λ x. f x && not (g x)) xs)
  length-split f g [] = refl
  length-split f g (x ∷ xs) = by (f x) (g x) (length-split f g xs)
    where
      both : List X
      both = filter (λ y. f y && g y) xs

      one : List X
      one = filter (λ y. f y && not (g y)) xs

      by : (a b : Bool) → length (filter f xs) ≡ length both + length one → length (cond a (x ∷ filter f xs) (filter f xs)) ≡ length (cond (a && b) (x ∷ both) both) + length (cond (a && not b) (x ∷ one) one)
      by true true ih = omega (arith, ih)
      by true false ih = omega (arith, ih)
      by false b ih = ih

-- ---- indexes in runs

-- A number is not among consecutive ones where it is below or behind them.
outside : (n a k : ℕ) → (n < a) ⊎ (a + k ≤ n) → has n (range_with_len a k) ≡ false
outside n a zero h = refl
outside n a (suc k) (inl h) = or_from (a == n) (has n (range_with_len (a + 1) k)) (ne_eqb a n (λ e. omega (arith, h, e))) (outside n (a + 1) k (inl (omega (arith, h))))
outside n a (suc k) (inr h) = or_from (a == n) (has n (range_with_len (a + 1) k)) (ne_eqb a n (λ e. omega (arith, h, e))) (outside n (a + 1) k (inr (omega (arith, h))))

-- The numbers of a run are those from its first up to its last.
has-run : (n : ℕ) (run : Run) → (nat_le run.first n && nat_le n run.last) ≡ has n (numbers run)
has-run n run = by (nat_le run.first n) refl (nat_le n run.last) refl
  where
    by : (b : Bool) → nat_le run.first n ≡ b → (d : Bool) → nat_le n run.last ≡ d → (b && d) ≡ has n (numbers run)
    by true l true g =
        let low = leb-true run.first n l in
        let high = leb-true n run.last g in
        let long = suc run.last - run.first in
        sym (has_at n (numbers run) (n - run.first) (omega (arith, length-range_with_len run.first long, low, high))
        (get_or-range_with_len run.first long (n - run.first) 0 (omega (arith, low, high)) ∙ omega (arith, low)))
    by true l false g =
        let low = leb-true run.first n l in
        let high = leb-false n run.last g in
        sym (outside n run.first (suc run.last - run.first) (inr (omega (arith, low, high))))
    by false l d g = sym (outside n run.first (suc run.last - run.first) (inl (leb-false run.first n l)))

-- A pod that has one of the indexes.
abbrev has_one_of : List ℕ → Pod → Bool
has_one_of set pod = option_map_or (λ index. has index set) pod.index false

-- A pod has an index of the numbers of runs where it has one of a run.
pub any-run : (runs : List Run) (pods : List Pod) → list_any (λ (run : Run). list_any (has_index_in run.first run.last) pods) runs ≡ list_any (has_one_of (flat_map numbers runs)) pods
any-run [] pods = any-never pods ∙ (λ i. list_any (λ pod. none pod.index i) pods)
  where
    none : (index : Option ℕ) → false ≡ option_map_or (λ n. false) index false
    none None = refl
    none (Some n) = refl
any-run (run ∷ runs) pods =
    ap (λ b. list_any (has_index_in run.first run.last) pods || b) (any-run runs pods)
    ∙ sym (any-either (has_index_in run.first run.last) (has_one_of (flat_map numbers runs)) pods) ∙ (λ i. list_any (λ pod. at pod.index i) pods)
  where
    at : (index : Option ℕ) → (option_map_or (λ n. nat_le run.first n && nat_le n run.last) index false || option_map_or (λ n. has n (flat_map numbers runs)) index false) ≡ option_map_or (λ n. has n (numbers run ++ flat_map numbers runs)) index false
    at None = refl
    at (Some n) = ap (λ b. b || has n (flat_map numbers runs)) (has-run n run) ∙ sym (list_any-append (λ x. x == n) (numbers run) (flat_map numbers runs))

-- A pod has an index of one of two kinds where one has an index of the first or one has an index of the second.
any-index : (f g : ℕ → Bool) (pods : List Pod) → (list_any (λ (pod : Pod). option_map_or f pod.index false) pods || list_any (λ (pod : Pod). option_map_or g pod.index false) pods)
    ≡ list_any (λ (pod : Pod). option_map_or (λ n. f n || g n) pod.index false) pods
any-index f g pods =
    sym (any-either (λ (pod : Pod). option_map_or f pod.index false) (λ (pod : Pod). option_map_or g pod.index false) pods) ∙ (λ i. list_any (λ (pod : Pod). at pod.index i) pods)
  where
    at : (index : Option ℕ) → (option_map_or f index false || option_map_or g index false) ≡ option_map_or (λ n. f n || g n) index false
    at None = refl
    at (Some n) = refl

-- Where one has an index of the first kind, nothing is asked of the second.
pub any-first : (f g : ℕ → Bool) (pods : List Pod) (first : Bool) → first ≡ true → first ≡ list_any (λ (pod : Pod). option_map_or f pod.index false) pods
    → first ≡ list_any (λ (pod : Pod). option_map_or (λ n. f n || g n) pod.index false) pods
any-first f g pods first one is =
    one
    ∙ sym (or_left (list_any (λ (pod : Pod). option_map_or f pod.index false) pods) (list_any (λ (pod : Pod). option_map_or g pod.index false) pods) (sym is ∙ one))
    ∙ any-index f g pods

-- Where none has, the second decides.
pub any-second : (f g : ℕ → Bool) (pods : List Pod) (first second : Bool) → first ≡ false → first ≡ list_any (λ (pod : Pod). option_map_or f pod.index false) pods
    → second ≡ list_any (λ (pod : Pod). option_map_or g pod.index false) pods → second ≡ list_any (λ (pod : Pod). option_map_or (λ n. f n || g n) pod.index false) pods
any-second f g pods first second none is more =
    more ∙ ap (λ b. b || list_any (λ (pod : Pod). option_map_or g pod.index false) pods) (sym none ∙ is) ∙ any-index f g pods

-- ---- spare pods

-- A pod of this UID or a greater one beside an older one: two have the index.
two-hold : (n uid : ℕ) (pods : List Pod) → list_any (is_earlier n uid) pods ≡ true → list_any (λ pod. has_index n pod && not (nat_lt pod.uid.0 uid)) pods ≡ true
    → 2 ≤ length (filter (has_index n) pods)
two-hold n uid pods older other =
    omega (
      arith,
      length-split (has_index n) (λ pod. nat_lt pod.uid.0 uid) pods,
      ltb-true 0 (length (filter (is_earlier n uid) pods)) (some-pass (is_earlier n uid) pods ∙ older),
      ltb-true 0 (length (filter (λ pod. has_index n pod && not (nat_lt pod.uid.0 uid)) pods)) (some-pass (λ pod. has_index n pod && not (nat_lt pod.uid.0 uid)) pods ∙ other),
    )

-- Where no two have the same index, none is doubled.
none-doubled : (pods : List Pod) → ((n : ℕ) → length (filter (has_index n) pods) ≤ 1) → Each (λ pod. is_doubled pods pod ≡ false) pods
none-doubled pods few =
    Each-weaker (λ (pod : Pod). (test : Pod → Bool) → test pod ≡ true → list_any test pods ≡ true) (λ pod. is_doubled pods pod ≡ false) (λ pod found. by pod found pod.index refl) pods (each-found pods)
  where
    itself : (pod : Pod) (n : ℕ) → pod.index ≡ Some n → (has_index n pod && not (nat_lt pod.uid.0 pod.uid.0)) ≡ true
    itself pod n is =
        and_from (has_index n pod) (not (nat_lt pod.uid.0 pod.uid.0)) (ap (λ index. option_map_or (λ m. m == n) index false) is ∙ eq-eqb n n refl)
        (ap not (le-ltb pod.uid.0 pod.uid.0 (omega arith)))

    by : (pod : Pod) → ((test : Pod → Bool) → test pod ≡ true → list_any test pods ≡ true) → (index : Option ℕ) → pod.index ≡ index
        → option_map_or (λ n. list_any (is_earlier n pod.uid.0) pods) index false ≡ false
    by pod found None is = refl
    by pod found (Some n) is =
        false_from_ne_true (list_any (is_earlier n pod.uid.0) pods)
        (λ older. omega (arith, few n, two-hold n pod.uid.0 pods older (found (λ q. has_index n q && not (nat_lt q.uid.0 pod.uid.0)) (itself pod n is))))

-- None is spare where no two have the same index, and none has one of no use.
pub none-spare : (mode : Mode) (needless : ℕ → Bool) (pods : List Pod) → ((n : ℕ) → length (filter (has_index n) pods) ≤ 1)
    → list_any (λ pod. option_map_or needless pod.index false) pods ≡ false → All (λ pod. is_spare mode needless pods pod ≡ false) pods
none-spare mode needless pods few none =
    All-from_recursion (λ pod. is_spare mode needless pods pod ≡ false) pods
    (Each-weaker (λ pod. (option_map_or needless pod.index false ≡ false) × (is_doubled pods pod ≡ false)) (λ pod. is_spare mode needless pods pod ≡ false) (λ pod h. by mode pod h.0 h.1) pods
    (Each-both (λ pod. option_map_or needless pod.index false ≡ false) (λ pod. is_doubled pods pod ≡ false) pods (each-fails (λ pod. option_map_or needless pod.index false) pods none) (none-doubled pods few)))
  where
    by : (m : Mode) (pod : Pod) → option_map_or needless pod.index false ≡ false → is_doubled pods pod ≡ false → is_spare m needless pods pod ≡ false
    by NonIndexed pod h g = refl
    by Indexed pod h g = or_from (option_map_or needless pod.index false) (is_doubled pods pod) h g

-- Where none is spare and they are no more than wanted, none goes.
pub none-goes : (mode : Mode) (needless : ℕ → Bool) (wanted : ℕ) (pods : List Pod) → All (λ pod. is_spare mode needless pods pod ≡ false) pods → length pods ≤ wanted
    → surplus mode needless wanted pods ≡ []
none-goes mode needless wanted pods none few =
    filter_none (is_let_go mode needless wanted pods) pods
    (Each-weaker (λ pod. is_spare mode needless pods pod ≡ false) (λ pod. is_let_go mode needless wanted pods pod ≡ false) stays pods each)
  where
    each : Each (λ pod. is_spare mode needless pods pod ≡ false) pods
    each = recursion_from_All (λ pod. is_spare mode needless pods pod ≡ false) pods none

    all : remaining mode needless pods ≡ pods
    all =
        filter_all (λ pod. not (is_spare mode needless pods pod)) pods
        (Each-weaker (λ pod. is_spare mode needless pods pod ≡ false) (λ pod. not (is_spare mode needless pods pod) ≡ true) (λ pod h. ap not h) pods each)

    stays : (pod : Pod) → is_spare mode needless pods pod ≡ false → is_let_go mode needless wanted pods pod ≡ false
    stays pod h =
        or_from (is_spare mode needless pods pod) (is_one_of (length (remaining mode needless pods) - wanted) mode (remaining mode needless pods) pod) h
        (le-ltb (count_by (λ q. goes_before mode q pod) (remaining mode needless pods)) (length (remaining mode needless pods) - wanted) (omega (arith, ap length all, few)))
