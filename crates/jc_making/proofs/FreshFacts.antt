-- The new pods of an Indexed Job are all of use, beside those that were; and how many indexes are open.
use Rattle.std.proofs.Common.{◌≡◌, ℕ, zero, suc, ◌+◌, ◌<◌, ◌≤◌, ◌==◌, nat_lt, nat_le, Bool, true, false, not, ◌&&◌, ◌||◌, List, [], ◌∷◌, ◌++◌, map, filter, length, take, Option, Some, None, IsSome, refl, sym, ap, ◌∙◌, subst, arith, true≢false}
use Rattle.std.specs.List.{AllByRecursion as Each, list_any, range_with_len}
use Rattle.std.specs.Option.{option_map_or}
use Rattle.std.proofs.lemmas.Bool.{and_from, and_right, le-ltb, lt-leb, ne_eqb}
use Rattle.std.proofs.lemmas.List.{length-append}
use Rattle.std.proofs.lemmas.List.Elements.{All-from_recursion}
use Rattle.std.proofs.lemmas.List.Folds.{list_any-append, list_any_none}
use Rattle.std.proofs.lemmas.Option.{same_Some}
use Rattle.std.proofs.lemmas.List.FromFn.{length-range_with_len}
use Rattle.std.proofs.lemmas.List.Sums.{length-filter}
use Rattle.jc_ranges.specs.Sets.{IsIncreasing, has}
use Rattle.jc_ranges.proofs.Back.{range_set}
use Rattle.jc_types.specs.declared.objects.Pod.{Pod}
use Rattle.jc_types.specs.declared.specifications.Mode.TheVariants.{Indexed}
use Rattle.jc_types.proofs.ListFacts.{Each-append, Each-both, Each-take, Each-weaker, filter_all, filter_filter, filter_same}
use Rattle.jc_states.specs.Indexes.{has_index}
use Rattle.jc_states.specs.PodLists.{RisesFrom}
use Rattle.jc_states.proofs.PodListFacts.{rises-each}
use Rattle.jc_account.proofs.GainFacts.{gained-length}
use Rattle.jc_perindex.proofs.Sets.{increasing-filter}
use Rattle.jc_manage.specs.LetGoes.{is_earlier, remaining}
use Rattle.jc_making.specs.Grants.{AreNew}
use Rattle.jc_making.proofs.Lists.{has-filter, has-range}
use Rattle.jc_making.proofs.UseFacts.{is_of_use, open_in, use-from, use-parts}

-- ---- how many indexes are open

-- As many as there are, without those that are completed and those that have failed.
pub open-size : (completions : ℕ) (completed failed : List ℕ) → IsIncreasing completed → Each (λ n. n < completions) completed → IsIncreasing failed → Each (λ n. (n < completions) × (has n completed ≡ false)) failed
    → length (open_in (λ n. (has n completed || has n failed) || nat_le completions n) completions) + length completed + length failed ≡ completions
open-size completions completed failed up below rise apart =
    let range = range_set 0 completions in
    let all = gained-length completed (range_with_len 0 completions) up range.0
    (Each-weaker (λ n. n < completions) (λ n. has n (range_with_len 0 completions) ≡ true)
    (λ n l. has-range n 0 completions (omega arith) (omega (arith, l))) completed below) in
    let size = length-range_with_len 0 completions in
    let one = length-filter (λ n. not (has n completed)) (range_with_len 0 completions) in
    let others = gained-length failed (filter (λ n. not (has n completed)) (range_with_len 0 completions)) rise (increasing-filter (λ n. not (has n completed)) (range_with_len 0 completions) range.0)
    (Each-weaker (λ n. (n < completions) × (has n completed ≡ false)) (λ n. has n (filter (λ m. not (has m completed)) (range_with_len 0 completions)) ≡ true)
    (λ n h. has-filter (λ m. not (has m completed)) n (range_with_len 0 completions)
    ∙ and_from (not (has n completed)) (has n (range_with_len 0 completions)) (ap not h.1)
    (has-range n 0 completions (omega arith) (let l = h.0 in omega (arith, l)))) failed apart) in
    let two = length-filter (λ n. not (has n failed)) (filter (λ n. not (has n completed)) (range_with_len 0 completions)) in
    let both = ap length (filter_filter (λ n. not (has n failed)) (λ n. not (has n completed)) (range_with_len 0 completions)) in
    let same = ap length (filter_same (λ n. not ((has n completed || has n failed) || nat_le completions n)) (λ n. not (has n completed) && not (has n failed)) (range_with_len 0 completions)
    (Each-weaker (λ n. n < 0 + completions) (λ n. not ((has n completed || has n failed) || nat_le completions n) ≡ (not (has n completed) && not (has n failed)))
    (λ n l. ap (λ b. not ((has n completed || has n failed) || b)) (lt-leb completions n (omega (arith, l))) ∙ nor (has n completed) (has n failed)) (range_with_len 0 completions) range.2)) in
    omega (arith, all, size, one, others, two, both, same)
  where
    nor : (a b : Bool) → not ((a || b) || false) ≡ (not a && not b)
    nor true b = refl
    nor false true = refl
    nor false false = refl

pub increasing-take : (n : ℕ) (xs : List ℕ) → IsIncreasing xs → IsIncreasing (take n xs)
increasing-take zero xs up = tt
increasing-take (suc n) [] up = tt
increasing-take (suc n) (x ∷ xs) up = (Each-take (λ y. x < y) n xs up.0, increasing-take n xs up.1)

-- ---- pods in front of others

-- Pods that stand in front have smaller UIDs.
pub rises-apart : (low : ℕ) (front back : List Pod) → RisesFrom low (front ++ back) → Each (λ p. Each (λ q. p.uid.0 < q.uid.0) back) front × RisesFrom 0 back
rises-apart low [] back up = (tt, Rattle.jc_states.proofs.PodListFacts.rises_weaker 0 low back (omega arith) up)
rises-apart low (p ∷ front) back up =
    let rest = rises-apart (p.uid.0 + 1) front back up.1 in
    ((behind front (rises-each (p.uid.0 + 1) (front ++ back) up.1), rest.0), rest.1)
  where
    behind : (pods : List Pod) → Each (λ q. p.uid.0 + 1 ≤ q.uid.0) (pods ++ back) → Each (λ q. p.uid.0 < q.uid.0) back
    behind [] h = Each-weaker (λ q. p.uid.0 + 1 ≤ q.uid.0) (λ q. p.uid.0 < q.uid.0) (λ q l. omega (arith, l)) back h
    behind (q ∷ pods) h = behind pods h.1

-- No pod behind is an older one.
younger : (n u : ℕ) (pods : List Pod) → Each (λ q. u < q.uid.0) pods → list_any (is_earlier n u) pods ≡ false
younger n u pods h = list_any_none (is_earlier n u) pods
    (All-from_recursion (λ q. is_earlier n u q ≡ false) pods
    (Each-weaker (λ q. u < q.uid.0) (λ q. is_earlier n u q ≡ false)
    (λ q l. ap (λ b. has_index n q && b) (le-ltb q.uid.0 u (omega (arith, l))) ∙ and_right (has_index n q) false refl)
    pods h))

-- ---- new pods

-- Their indexes are these.
abbrev pub HasOne : List ℕ → Pod → Type 0
HasOne set q = (n : ℕ) → q.index ≡ Some n → has n set ≡ true

-- What is known of each of the indexes is known of that of each pod.
pub index-each : (P : ℕ → Type 0) (made : ℕ) (set : List ℕ) (pods : List Pod) → AreNew made (map (λ n. Some n) set) pods → Each P set → Each (λ q. (IsSome q.index) × ((n : ℕ) → q.index ≡ Some n → P n)) pods
index-each P made [] [] new h = tt
index-each P made [] (p ∷ pods) new h = absurd new
index-each P made (m ∷ set) [] new h = absurd new
index-each P made (m ∷ set) (p ∷ pods) new h =
    ((ap Rattle.std.specs.Prelude.is_some new.0.index_is, λ n e. subst P (same_Some m n (sym new.0.index_is ∙ e)) h.0), index-each P (suc made) set pods new.1 h.1)

-- No older one among them has the index.
pub first-new : (made : ℕ) (set : List ℕ) (pods : List Pod) → AreNew made (map (λ n. Some n) set) pods → IsIncreasing set → (low : ℕ) → RisesFrom low pods
    → Each (λ q. (n : ℕ) → q.index ≡ Some n → list_any (is_earlier n q.uid.0) pods ≡ false) pods
first-new made [] [] new up low rises = tt
first-new made [] (p ∷ pods) new up low rises = absurd new
first-new made (m ∷ set) [] new up low rises = absurd new
first-new made (m ∷ set) (p ∷ pods) new up low rises = (
  λ n e. (λ i. (has_index n p && itself i) || younger n p.uid.0 pods later i) ∙ ap (λ b. b || false) (and_right (has_index n p) false refl),
  Each-weaker (λ q. ((IsSome q.index) × ((n : ℕ) → q.index ≡ Some n → m < n)) × ((n : ℕ) → q.index ≡ Some n → list_any (is_earlier n q.uid.0) pods ≡ false))
      (λ q. (n : ℕ) → q.index ≡ Some n → list_any (is_earlier n q.uid.0) (p ∷ pods) ≡ false)
      (λ q h n e. ap (λ b. (b && nat_lt p.uid.0 q.uid.0) || list_any (is_earlier n q.uid.0) pods) (other n (h.0.1 n e)) ∙ h.1 n e) pods
      (Each-both (λ q. (IsSome q.index) × ((n : ℕ) → q.index ≡ Some n → m < n)) (λ q. (n : ℕ) → q.index ≡ Some n → list_any (is_earlier n q.uid.0) pods ≡ false) pods
      (index-each (λ n. m < n) (suc made) set pods new.1 up.0)
      (first-new (suc made) set pods new.1 up.1 (p.uid.0 + 1) rises.1)),
)
  where
    itself : nat_lt p.uid.0 p.uid.0 ≡ false
    itself = le-ltb p.uid.0 p.uid.0 (omega arith)

    later : Each (λ q. p.uid.0 < q.uid.0) pods
    later = Each-weaker (λ q. p.uid.0 + 1 ≤ q.uid.0) (λ q. p.uid.0 < q.uid.0) (λ q l. omega (arith, l)) pods (rises-each (p.uid.0 + 1) pods rises.1)

    other : (n : ℕ) → m < n → has_index n p ≡ false
    other n l = ap (λ o. option_map_or (λ k. k == n) o false) new.0.index_is ∙ ne_eqb m n (λ e. omega (arith, e, l))

-- ---- all are of use

-- Pods that are of use among these are so beside new ones, and so are the new ones, where their indexes are open and none
-- of the others has one.
module _ (closed : ℕ → Bool) (old kept fresh : List Pod) (made : ℕ) (set : List ℕ)
    (new : AreNew made (map (λ n. Some n) set) fresh) (up : IsIncreasing set) (rises : RisesFrom 0 (kept ++ fresh))
    (opened : Each (λ n. (closed n ≡ false) × Each (λ p. has_index n p ≡ false) kept) set)
    (were : Each (λ p. (IsSome p.index) × (is_of_use closed old p ≡ true)) kept)
    (fewer_older : (n u : ℕ) → list_any (is_earlier n u) old ≡ false → list_any (is_earlier n u) kept ≡ false) where
  apart : Each (λ p. Each (λ q. p.uid.0 < q.uid.0) fresh) kept × RisesFrom 0 fresh
  apart = rises-apart 0 kept fresh rises

  both-none : (f : Pod → Bool) → list_any f kept ≡ false → list_any f fresh ≡ false → list_any f (kept ++ fresh) ≡ false
  both-none f a b = list_any-append f kept fresh ∙ (λ i. a i || b i)

  old-used : Each (λ p. is_of_use closed (kept ++ fresh) p ≡ true) kept
  old-used =
      Each-weaker (λ p. ((IsSome p.index) × (is_of_use closed old p ≡ true)) × Each (λ q. p.uid.0 < q.uid.0) fresh) (λ p. is_of_use closed (kept ++ fresh) p ≡ true)
      (λ p h. by p p.index refl h.0.0 h.0.1 h.1) kept (Each-both (λ p. (IsSome p.index) × (is_of_use closed old p ≡ true)) (λ p. Each (λ q. p.uid.0 < q.uid.0) fresh) kept were apart.0)
    where
      by : (p : Pod) (o : Option ℕ) → p.index ≡ o → IsSome o → is_of_use closed old p ≡ true → Each (λ q. p.uid.0 < q.uid.0) fresh → is_of_use closed (kept ++ fresh) p ≡ true
      by p None at some used later = absurd (true≢false (sym some))
      by p (Some n) at some used later =
          let parts = use-parts closed old p n at used in
          use-from closed (kept ++ fresh) p n at parts.0 (both-none (is_earlier n p.uid.0) (fewer_older n p.uid.0 parts.1) (younger n p.uid.0 fresh later))

  new-used : Each (λ p. is_of_use closed (kept ++ fresh) p ≡ true) fresh
  new-used =
      Each-weaker (λ q. ((IsSome q.index) × ((n : ℕ) → q.index ≡ Some n → (closed n ≡ false) × Each (λ p. has_index n p ≡ false) kept)) × ((n : ℕ) → q.index ≡ Some n → list_any (is_earlier n q.uid.0) fresh ≡ false))
      (λ p. is_of_use closed (kept ++ fresh) p ≡ true) (λ q h. by q q.index refl h.0.0 h.0.1 h.1) fresh
      (Each-both (λ q. (IsSome q.index) × ((n : ℕ) → q.index ≡ Some n → (closed n ≡ false) × Each (λ p. has_index n p ≡ false) kept)) (λ q. (n : ℕ) → q.index ≡ Some n → list_any (is_earlier n q.uid.0) fresh ≡ false) fresh
      (index-each (λ n. (closed n ≡ false) × Each (λ p. has_index n p ≡ false) kept) made set fresh new opened)
      (first-new made set fresh new up 0 apart.1))
    where
      by : (q : Pod) (o : Option ℕ) → q.index ≡ o → IsSome o → ((n : ℕ) → q.index ≡ Some n → (closed n ≡ false) × Each (λ p. has_index n p ≡ false) kept) → ((n : ℕ) → q.index ≡ Some n → list_any (is_earlier n q.uid.0) fresh ≡ false)
          → is_of_use closed (kept ++ fresh) q ≡ true
      by q None at some free first = absurd (true≢false (sym some))
      by q (Some n) at some free first =
          use-from closed (kept ++ fresh) q n at (free n at).0
          (both-none (is_earlier n q.uid.0) (list_any_none (is_earlier n q.uid.0) kept
          (All-from_recursion (λ p. is_earlier n q.uid.0 p ≡ false) kept
          (Each-weaker (λ p. has_index n p ≡ false) (λ p. is_earlier n q.uid.0 p ≡ false)
          (λ p h. ap (λ b. b && nat_lt p.uid.0 q.uid.0) h) kept (free n at).1))) (first n at))

  pub all-of-use : length (remaining Indexed closed (kept ++ fresh)) ≡ length kept + length fresh
  all-of-use =
      ap length (filter_all (is_of_use closed (kept ++ fresh)) (kept ++ fresh) (Each-append (λ p. is_of_use closed (kept ++ fresh) p ≡ true) kept fresh old-used new-used))
      ∙ length-append kept fresh
