-- Of each open index at most one pod is of use, so that where an index is closed no more than one pod less is.
use Rattle.std.proofs.Common.{◌≡◌, ℕ, ◌+◌, ◌<◌, ◌≤◌, ◌==◌, nat_lt, nat_le, Bool, true, false, not, ◌&&◌, ◌||◌, List, [], ◌∷◌, filter, length, Option, Some, None, IsSome, refl, sym, ap, ◌∙◌, arith, true≢false}
use Rattle.std.specs.List.{AllByRecursion as Each, list_any, range_with_len}
use Rattle.std.specs.Option.{option_map_or}
use Rattle.std.proofs.lemmas.Bool.{and_from, and_parts, eqb-true, leb-false, leb-true, lt-ltb}
use Rattle.std.proofs.lemmas.List.Elements.{filter_agree}
use Rattle.jc_ranges.specs.Sets.{has}
use Rattle.jc_types.specs.declared.objects.Pod.{Pod}
use Rattle.jc_types.specs.declared.specifications.Mode.TheVariants.{Indexed}
use Rattle.jc_types.proofs.ListFacts.{Each-both, Each-filter, Each-passes, Each-weaker, filter_filter, filter_swap}
use Rattle.jc_states.specs.Indexes.{has_index}
use Rattle.jc_states.specs.PodLists.{RisesFrom}
use Rattle.jc_states.proofs.PodListFacts.{each-fails, rises_filter}
use Rattle.jc_account.proofs.ListedFacts.{each}
use Rattle.jc_account.proofs.Owned.{filter-least}
use Rattle.jc_manage.specs.LetGoes.{is_earlier, is_spare}
use Rattle.jc_manage.proofs.SpareFacts.{length-split}
use Rattle.jc_making.proofs.Lists.{fewer, has-filter, has-range, has_one_of, held-few}

-- The pod is not spare.
abbrev pub is_of_use : (ℕ → Bool) → List Pod → Pod → Bool
is_of_use closed tracked pod = not (is_spare Indexed closed tracked pod)

-- The open indexes below a number.
abbrev pub open_in : (ℕ → Bool) → ℕ → List ℕ
open_in closed completions = filter (λ n. not (closed n)) (range_with_len 0 completions)

-- What is known of a pod that is of use: its index is open, and no older one has it.
pub use-parts : (closed : ℕ → Bool) (tracked : List Pod) (pod : Pod) (n : ℕ) → pod.index ≡ Some n → is_of_use closed tracked pod ≡ true
    → (closed n ≡ false) × (list_any (is_earlier n pod.uid.0) tracked ≡ false)
use-parts closed tracked pod n is h =
    parts (closed n) (list_any (is_earlier n pod.uid.0) tracked)
    (sym (ap (λ o. not (option_map_or closed o false || option_map_or (λ index. list_any (is_earlier index pod.uid.0) tracked) o false)) is) ∙ h)
  where
    parts : (a b : Bool) → not (a || b) ≡ true → (a ≡ false) × (b ≡ false)
    parts true b e = absurd (true≢false (sym e))
    parts false true e = absurd (true≢false (sym e))
    parts false false e = (refl, refl)

pub use-from : (closed : ℕ → Bool) (tracked : List Pod) (pod : Pod) (n : ℕ) → pod.index ≡ Some n → closed n ≡ false → list_any (is_earlier n pod.uid.0) tracked ≡ false
    → is_of_use closed tracked pod ≡ true
use-from closed tracked pod n is opened oldest =
    ap (λ o. not (option_map_or closed o false || option_map_or (λ index. list_any (is_earlier index pod.uid.0) tracked) o false)) is
    ∙ ap (λ b. not (b || list_any (is_earlier n pod.uid.0) tracked)) opened ∙ ap not oldest

index-is : (n : ℕ) (o : Option ℕ) → option_map_or (λ m. m == n) o false ≡ true → o ≡ Some n
index-is n None e = absurd (true≢false (sym e))
index-is n (Some m) e = ap (λ k. Some k) (eqb-true m n e)

-- Of each index at most one pod is of use.
module _ (closed : ℕ → Bool) (tracked : List Pod) (up : RisesFrom 0 tracked) (n : ℕ) where
  abbrev used : List Pod
  used = filter (is_of_use closed tracked) tracked

  abbrev found : List Pod
  found = filter (has_index n) used

  among : (u : ℕ) → list_any (is_earlier n u) tracked ≡ false → Each (λ p. is_earlier n u p ≡ false) found
  among u h =
      Each-filter (λ p. is_earlier n u p ≡ false) (has_index n) used
      (Each-filter (λ p. is_earlier n u p ≡ false) (is_of_use closed tracked) tracked (each-fails (is_earlier n u) tracked h))

  oldest : Each (λ q. Each (λ p. is_earlier n q.uid.0 p ≡ false) found) found
  oldest =
      Each-weaker (λ q. (is_of_use closed tracked q ≡ true) × (has_index n q ≡ true)) (λ q. Each (λ p. is_earlier n q.uid.0 p ≡ false) found)
      (λ q h. among q.uid.0 (use-parts closed tracked q n (index-is n q.index h.1) h.0).1) found
      (Each-both (λ q. is_of_use closed tracked q ≡ true) (λ q. has_index n q ≡ true) found
      (Each-filter (λ q. is_of_use closed tracked q ≡ true) (has_index n) used (Each-passes (is_of_use closed tracked) tracked))
      (Each-passes (has_index n) used))

  at-most : (pods : List Pod) → RisesFrom 0 pods → Each (λ q. Each (λ p. is_earlier n q.uid.0 p ≡ false) pods) pods → Each (λ p. has_index n p ≡ true) pods → length pods ≤ 1
  at-most [] rises none has = omega arith
  at-most (p ∷ []) rises none has = omega arith
  at-most (p ∷ q ∷ pods) rises none has =
      let later : p.uid.0 + 1 ≤ q.uid.0 = rises.1.0 in
      absurd (true≢false (sym (and_from (has_index n p) (nat_lt p.uid.0 q.uid.0) has.0 (lt-ltb p.uid.0 q.uid.0 (omega (arith, later)))) ∙ none.1.0.0))

  pub one-of-use : length (filter (has_index n) (filter (is_of_use closed tracked) tracked)) ≤ 1
  one-of-use = at-most found (rises_filter 0 (has_index n) used (rises_filter 0 (is_of_use closed tracked) tracked up)) oldest (Each-passes (has_index n) used)

-- Where indexes are closed, and pods go of which e were of use, no more than so many pods less are of use.
module _ (closed after : ℕ → Bool) (tracked later : List Pod) (completions e : ℕ)
    (closes : (n : ℕ) → closed n ≡ true → after n ≡ true)
    (past : (n : ℕ) → completions ≤ n → closed n ≡ true)
    (up : RisesFrom 0 tracked)
    (numbered : Each (λ pod. IsSome pod.index) tracked)
    (fewer_older : (n u : ℕ) → list_any (is_earlier n u) tracked ≡ false → list_any (is_earlier n u) later ≡ false)
    (stay : length (filter (is_of_use after later) tracked) ≤ length (filter (is_of_use after later) later) + e) where
  abbrev was : Pod → Bool
  was = is_of_use closed tracked

  abbrev is : Pod → Bool
  is = is_of_use after later

  -- The indexes that are closed.
  abbrev new : List ℕ
  new = filter (λ n. not (closed n) && after n) (range_with_len 0 completions)

  opens : length (open_in closed completions) ≡ length new + length (open_in after completions)
  opens =
      let parts = length-split (λ n. not (closed n)) after (range_with_len 0 completions) in
      let same = ap length (filter_agree (λ n. not (closed n) && not (after n)) (λ n. not (after n)) (λ n. both (closed n) (after n) (closes n)) (range_with_len 0 completions)) in
      omega (arith, parts, same)
    where
      both : (a b : Bool) → (a ≡ true → b ≡ true) → (not a && not b) ≡ not b
      both true true h = refl
      both true false h = absurd (true≢false (sym (h refl)))
      both false b h = refl

  -- The pods that were of use, and are not.
  abbrev lost : List Pod
  lost = filter (λ pod. not (is pod)) (filter was tracked)

  has-new : (pod : Pod) → IsSome pod.index → was pod ≡ true → not (is pod) ≡ true → has_one_of new pod ≡ true
  has-new pod some w l = by pod.index refl some
    where
      by : (o : Option ℕ) → pod.index ≡ o → IsSome o → option_map_or (λ n. has n new) o false ≡ true
      by None at h = absurd (true≢false (sym h))
      by (Some n) at h = closing (after n) refl
        where
          parts : (closed n ≡ false) × (list_any (is_earlier n pod.uid.0) tracked ≡ false)
          parts = use-parts closed tracked pod n at w

          below : (b : Bool) → nat_le completions n ≡ b → n < completions
          below true e = absurd (true≢false (sym (past n (leb-true completions n e)) ∙ parts.0))
          below false e = leb-false completions n e

          closing : (b : Bool) → after n ≡ b → has n new ≡ true
          closing true e =
              has-filter (λ m. not (closed m) && after m) n (range_with_len 0 completions)
              ∙ and_from (not (closed n) && after n) (has n (range_with_len 0 completions)) (and_from (not (closed n)) (after n) (ap not parts.0) e)
              (has-range n 0 completions (omega arith) (omega (arith, below (nat_le completions n) refl)))
          closing false e = absurd (true≢false (sym l ∙ ap not (use-from after later pod n at e (fewer_older n pod.uid.0 parts.1))))

  few-lost : length lost ≤ length new
  few-lost =
      held-few new lost
      (Each-weaker (λ pod. (IsSome pod.index) × ((was pod ≡ true) × (not (is pod) ≡ true))) (λ pod. has_one_of new pod ≡ true) (λ pod h. has-new pod h.0 h.1.0 h.1.1) lost
      (Each-both (λ pod. IsSome pod.index) (λ pod. (was pod ≡ true) × (not (is pod) ≡ true)) lost
      (Each-filter (λ pod. IsSome pod.index) (λ pod. not (is pod)) (filter was tracked) (Each-filter (λ pod. IsSome pod.index) was tracked numbered))
      (Each-both (λ pod. was pod ≡ true) (λ pod. not (is pod) ≡ true) lost
      (Each-filter (λ pod. was pod ≡ true) (λ pod. not (is pod)) (filter was tracked) (Each-passes was tracked))
      (Each-passes (λ pod. not (is pod)) (filter was tracked)))))
      (λ n. let one = one-of-use closed tracked up n in
      omega (arith, one, ap length (filter_swap (has_index n) (λ pod. not (is pod)) (filter was tracked)), filter-least (λ pod. not (is pod)) (filter (has_index n) (filter was tracked))))

  pub use-kept : length (filter was tracked) + length (open_in after completions) ≤ length (filter is later) + length (open_in closed completions) + e
  use-kept =
      let parts = length-split was is tracked in
      let first = fewer (λ pod. was pod && is pod) is tracked both in
      let second : length (filter (λ pod. was pod && not (is pod)) tracked) ≡ length lost = ap length (sym (filter_filter (λ pod. not (is pod)) was tracked)) in
      omega (arith, parts, first, second, few-lost, opens, stay)
    where
      both : Each (λ pod. (was pod && is pod) ≡ true → is pod ≡ true) tracked
      both = each (λ pod. (was pod && is pod) ≡ true → is pod ≡ true) (λ pod h. (and_parts (was pod) (is pod) h).1) tracked
