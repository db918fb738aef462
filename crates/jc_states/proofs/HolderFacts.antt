-- Which pods hold an index, as the rows count them.
use Rattle.std.proofs.Common.{◌≡◌, ℕ, ◌+◌, ◌-◌, ◌<◌, ◌≤◌, nat_le, nat_lt, ◌==◌, Bool, true, false, cond, ◌&&◌, ◌||◌, List, [], ◌∷◌, filter, length, Option, Some, None, is_some, unwrap_or, refl, sym, ap, subst, ◌∙◌, arith, true≢false}
use Rattle.std.proofs.Common.{ltb-false, eq-eqb, eqb-true}
use Rattle.std.specs.Map.{lookup}
use Rattle.std.specs.List.{list_any}
use Rattle.std.specs.Option.{option_map_or}
use Rattle.jc_types.specs.declared.numbers.Uid.{Uid}
use Rattle.jc_types.specs.declared.objects.Pod.{Pod}
use Rattle.jc_types.specs.Keys.{same_uid}
use Rattle.jc_types.proofs.KeyFacts.{same_uid-eq}
use Rattle.jc_states.specs.Held.{is_between, repeats, times}
use Rattle.jc_states.specs.Holders.{AreHeld, has_index_in, held_by, held_in, holders_of, holds_index}
use Rattle.jc_states.specs.Indexes.{has_index}
use Rattle.jc_states.specs.PodLists.{put_pod, drop_pod, IsRising}
use Rattle.jc_states.specs.Pods.{is_tracked_active, tracked_active_pods}
use Rattle.jc_states.specs.Tallies.{pods_for}
use Rattle.jc_states.proofs.HeldFacts.{repeats-none, repeats-some}
use Rattle.jc_states.proofs.PodListFacts.{pod_among, drop-absent}
use Rattle.jc_states.proofs.TallyFacts.{count-put, count-found, length-filter-cons}

-- ---- the row of an owner

-- Each row is as before but that of the owner.
abbrev WritesRow : Uid → List ℕ → List (Uid × List ℕ) → List (Uid × List ℕ) → Type 0
WritesRow owner held rows new = (q : Uid) → lookup (same_uid q) new ≡ cond (same_uid owner q) (Some held) (lookup (same_uid q) rows)

written-row : (owner other : Uid) (held : List ℕ) (rows new : List (Uid × List ℕ)) → WritesRow owner held rows new → held_by other new ≡ cond (same_uid owner other) held (held_by other rows)
written-row owner other held rows new writes = ap (λ found. unwrap_or found []) (writes other) ∙ by (same_uid owner other)
  where
    by : (b : Bool) → unwrap_or (cond b (Some held) (lookup (same_uid other) rows)) [] ≡ cond b held (held_by other rows)
    by true = refl
    by false = refl

-- What is written for an index in the row of the owner is seen for it among all rows.
module _ (change : ℕ → ℕ → ℕ) (none : (k : ℕ) → change k 0 ≡ k) (owner : Uid) (index : ℕ) (was held : List ℕ) (rows new : List (Uid × List ℕ)) where
  pub written-held : was ≡ held_by owner rows → ((m : ℕ) → times m held ≡ change (times m was) (cond (index == m) 1 0)) → WritesRow owner held rows new
      → (other : Uid) → (n : ℕ) → held_in other n new ≡ change (held_in other n rows) (cond (same_uid owner other && (index == n)) 1 0)
  written-held are counts writes other n = ap (times n) (written-row owner other held rows new writes) ∙ by (same_uid owner other) refl
    where
      by : (b : Bool) → same_uid owner other ≡ b → times n (cond b held (held_by other rows)) ≡ change (held_in other n rows) (cond (b && (index == n)) 1 0)
      by true e = counts n ∙ ap (λ all. change (times n all) (cond (index == n) 1 0)) (are ∙ ap (λ u. held_by u rows) (same_uid-eq owner other e))
      by false e = sym (none (held_in other n rows))

-- Where the owner has no row it holds no index.
pub none-held : (owner : Uid) (rows : List (Uid × List ℕ)) → lookup (same_uid owner) rows ≡ None → held_by owner rows ≡ []
none-held owner rows e = ap (λ found. unwrap_or found []) e

-- The row that stands there is that of the owner.
pub some-held : (owner : Uid) (held : List ℕ) (rows : List (Uid × List ℕ)) → lookup (same_uid owner) rows ≡ Some held → held ≡ held_by owner rows
some-held owner held rows e = sym (ap (λ found. unwrap_or found []) e)

-- ---- the index that a pod holds

-- It is that of an active pod with the finalizer.
pub holds-index : (owner : Uid) (n index : ℕ) (pod : Pod) → cond (is_tracked_active pod) pod.index None ≡ Some index → holds_index owner n pod ≡ (same_uid pod.owner_uid owner && (index == n))
holds-index owner n index pod h = ap (λ b. same_uid pod.owner_uid owner && b) (by (is_tracked_active pod) pod.index h)
  where
    by : (t : Bool) (i : Option ℕ) → cond t i None ≡ Some index → (t && option_map_or (λ k. k == n) i false) ≡ (index == n)
    by true (Some k) e = ap (λ j. j == n) (same k e)
      where
        same : (k : ℕ) → Some k ≡ Some index → k ≡ index
        same k e = cc
    by true None e = absurd (true≢false (sym (ap is_some e)))
    by false i e = absurd (true≢false (sym (ap is_some e)))

-- Another pod holds none.
holds-none : (owner : Uid) (n : ℕ) (pod : Pod) → cond (is_tracked_active pod) pod.index None ≡ None → holds_index owner n pod ≡ false
holds-none owner n pod h = by (same_uid pod.owner_uid owner) (is_tracked_active pod) pod.index h
  where
    by : (a t : Bool) (i : Option ℕ) → cond t i None ≡ None → (a && (t && option_map_or (λ k. k == n) i false)) ≡ false
    by false t i e = refl
    by true false i e = refl
    by true true None e = refl
    by true true (Some k) e = absurd (true≢false (ap is_some e))

-- Where it holds none the counts stay.
pub none-entered : (owner : Uid) (n k : ℕ) (pod : Pod) → cond (is_tracked_active pod) pod.index None ≡ None → k ≡ k + cond (holds_index owner n pod) 1 0
none-entered owner n k pod h = let none = ap {B = ℕ} (λ b. cond b 1 0) (holds-none owner n pod h) in omega (arith, none)

pub none-left : (owner : Uid) (n k : ℕ) (pod : Pod) → cond (is_tracked_active pod) pod.index None ≡ None → k ≡ k - cond (holds_index owner n pod) 1 0
none-left owner n k pod h = let none = ap {B = ℕ} (λ b. cond b 1 0) (holds-none owner n pod h) in omega (arith, none)

-- ---- how many pods hold an index

-- One more pod counts where it holds the index.
holders-cons : (owner : Uid) (n : ℕ) (pod : Pod) (pods : List Pod) → length (holders_of owner n (pod ∷ pods)) ≡ length (holders_of owner n pods) + cond (holds_index owner n pod) 1 0
holders-cons owner n pod pods = of_owner (same_uid pod.owner_uid owner)
  where
    active : (b : Bool) → length (filter (has_index n) (cond b (pod ∷ tracked_active_pods (pods_for owner pods)) (tracked_active_pods (pods_for owner pods)))) ≡ length (holders_of owner n pods) + cond (b && has_index n pod) 1 0
    active true = length-filter-cons (has_index n) pod (tracked_active_pods (pods_for owner pods))
    active false = omega arith

    of_owner : (b : Bool) → length (filter (has_index n) (tracked_active_pods (cond b (pod ∷ pods_for owner pods) (pods_for owner pods)))) ≡ length (holders_of owner n pods) + cond (b && (is_tracked_active pod && has_index n pod)) 1 0
    of_owner true = active (is_tracked_active pod)
    of_owner false = omega arith

-- What a pod adds to their number.
abbrev adds : Uid → ℕ → Pod → ℕ → ℕ
adds owner n pod k = k + cond (holds_index owner n pod) 1 0

adds-swap : (owner : Uid) (n : ℕ) (p q : Pod) (k : ℕ) → adds owner n p (adds owner n q k) ≡ adds owner n q (adds owner n p k)
adds-swap owner n p q k = omega arith

holders-put : (owner : Uid) (n : ℕ) (pod : Pod) (pods : List Pod) → IsRising pods → length (holders_of owner n (put_pod pod pods)) ≡ adds owner n pod (length (holders_of owner n (drop_pod pod.uid pods)))
holders-put owner n pod pods rising = count-put (λ all. length (holders_of owner n all)) (adds owner n) (holders-cons owner n) (adds-swap owner n) 0 pod pods rising

holders-found : (owner : Uid) (n : ℕ) (u : Uid) (pod : Pod) (pods : List Pod) → IsRising pods → pod_among u pods ≡ Some pod → length (holders_of owner n pods) ≡ adds owner n pod (length (holders_of owner n (drop_pod u pods)))
holders-found owner n u pod pods rising found = count-found (λ all. length (holders_of owner n all)) (adds owner n) (holders-cons owner n) (adds-swap owner n) 0 u pod pods rising found

-- ---- rows of indexes

-- No pods and no rows.
pub held-none : (pods : List Pod) (rows : List (Uid × List ℕ)) → pods ≡ [] → rows ≡ [] → AreHeld pods rows
held-none pods rows no_pods no_rows = subst (λ all. AreHeld all rows) (sym no_pods) (subst (AreHeld []) (sym no_rows) (λ owner n. refl))

-- Once a pod of a new UID is entered into the rows.
pub held-inserted : (pod : Pod) (pods : List Pod) (rows new : List (Uid × List ℕ)) → IsRising pods → AreHeld pods rows → pod_among pod.uid pods ≡ None
    → ((owner : Uid) → (n : ℕ) → held_in owner n new ≡ held_in owner n rows + cond (holds_index owner n pod) 1 0) → AreHeld (put_pod pod pods) new
held-inserted pod pods rows new rising held absent is owner n =
    let put = holders-put owner n pod pods rising in
    let same = ap (λ all. length (holders_of owner n all)) (drop-absent pod.uid pods absent) in
    let now = is owner n in
    let before = held owner n in
    omega (arith, put, same, now, before)

-- Once the pod of a UID has left, the rows are those of the others.
pub held-left : (u : Uid) (pod : Pod) (pods : List Pod) (rows new : List (Uid × List ℕ)) → IsRising pods → AreHeld pods rows → pod_among u pods ≡ Some pod
    → ((owner : Uid) → (n : ℕ) → held_in owner n new ≡ held_in owner n rows - cond (holds_index owner n pod) 1 0) → AreHeld (drop_pod u pods) new
held-left u pod pods rows new rising held found is owner n =
    let whole = holders-found owner n u pod pods rising found in
    let now = is owner n in
    let before = held owner n in
    omega (arith, whole, now, before)

-- Once a pod is entered and the one of its UID has left.
pub held-replaced : (pod old : Pod) (pods : List Pod) (rows more new : List (Uid × List ℕ)) → IsRising pods → AreHeld pods rows → pod_among pod.uid pods ≡ Some old
    → ((owner : Uid) → (n : ℕ) → held_in owner n more ≡ held_in owner n rows + cond (holds_index owner n pod) 1 0)
    → ((owner : Uid) → (n : ℕ) → held_in owner n new ≡ held_in owner n more - cond (holds_index owner n old) 1 0) → AreHeld (put_pod pod pods) new
held-replaced pod old pods rows more new rising held found enters leaves owner n =
    let put = holders-put owner n pod pods rising in
    let whole = holders-found owner n pod.uid old pods rising found in
    let mid = enters owner n in
    let now = leaves owner n in
    let before = held owner n in
    omega (arith, put, whole, mid, now, before)

-- ---- what the rows tell

-- Where no index of the owner is there once more no two pods hold the same.
pub held-apart : (owner : Uid) (pods : List Pod) (rows : List (Uid × List ℕ)) → AreHeld pods rows → nat_lt 0 (repeats (held_by owner rows)) ≡ false → (n : ℕ) → length (holders_of owner n pods) ≤ 1
held-apart owner pods rows held none n =
    let zero_more = ltb-false 0 (repeats (held_by owner rows)) none in
    let most = repeats-none (held_by owner rows) (omega (arith, zero_more)) n in
    let is = held owner n in
    omega (arith, most, is)

-- A test of elements that have numbers: the number of an element tells.
module _ {X : Type 0} (range : ℕ → Bool) (test : X → Bool) (at : ℕ → X → Bool) where
  any-some : ((x : X) → test x ≡ true → (n : ℕ) × (range n ≡ true) × (at n x ≡ true)) → (xs : List X) → list_any test xs ≡ true → (n : ℕ) × (range n ≡ true) × (0 < length (filter (at n) xs))
  any-some has [] h = absurd (true≢false (sym h))
  any-some has (x ∷ xs) h = by (test x) refl h (any-some has xs)
    where
      first : (n : ℕ) → at n x ≡ true → 0 < length (filter (at n) (x ∷ xs))
      first n e = more (at n x) e
        where
          more : (b : Bool) → b ≡ true → 0 < length (cond b (x ∷ filter (at n) xs) (filter (at n) xs))
          more true g = omega arith
          more false g = absurd (true≢false (sym g))

      behind : (n : ℕ) → 0 < length (filter (at n) xs) → 0 < length (filter (at n) (x ∷ xs))
      behind n g = more (at n x)
        where
          more : (b : Bool) → 0 < length (cond b (x ∷ filter (at n) xs) (filter (at n) xs))
          more true = omega arith
          more false = g

      by : (b : Bool) → test x ≡ b → (b || list_any test xs) ≡ true → (list_any test xs ≡ true → (n : ℕ) × (range n ≡ true) × (0 < length (filter (at n) xs))) → (n : ℕ) × (range n ≡ true) × (0 < length (filter (at n) (x ∷ xs)))
      by true e g ih = let one = has x e in (one.0, one.1, first one.0 one.2)
      by false e g ih = let one = ih g in (one.0, one.1, behind one.0 one.2)

  some-any : ((n : ℕ) (x : X) → range n ≡ true → at n x ≡ true → test x ≡ true) → (n : ℕ) (xs : List X) → range n ≡ true → 0 < length (filter (at n) xs) → list_any test xs ≡ true
  some-any passes n [] r h = absurd (omega (arith, h))
  some-any passes n (x ∷ xs) r h = by (at n x) refl h (some-any passes n xs r)
    where
      front : (b : Bool) → b ≡ true → (b || list_any test xs) ≡ true
      front true e = refl
      front false e = absurd (true≢false (sym e))

      rest : (b : Bool) → list_any test xs ≡ true → (b || list_any test xs) ≡ true
      rest true e = refl
      rest false e = e

      by : (b : Bool) → at n x ≡ b → 0 < length (cond b (x ∷ filter (at n) xs) (filter (at n) xs)) → (0 < length (filter (at n) xs) → list_any test xs ≡ true) → list_any test (x ∷ xs) ≡ true
      by true e g ih = front (test x) (passes n x r e)
      by false e g ih = rest (test x) (ih g)

-- Where an index is there twice, two pods hold it.
pub held-twice : (owner : Uid) (pods : List Pod) (rows : List (Uid × List ℕ)) → AreHeld pods rows → nat_lt 0 (repeats (held_by owner rows)) ≡ true → (n : ℕ) × (2 ≤ length (holders_of owner n pods))
held-twice owner pods rows held more = let found = repeats-some (held_by owner rows) more in (found.0, subst (λ k. 2 ≤ k) (held owner found.0) found.1)

-- Two tests are equal where each passes when the other does.
both_or_none : (a b : Bool) → (a ≡ true → b ≡ true) → (b ≡ true → a ≡ true) → a ≡ b
both_or_none true b f g = sym (f refl)
both_or_none false true f g = g refl
both_or_none false false f g = refl

-- An index in a range is among those of the owner where a pod holds one.
module _ (range : ℕ → Bool) where
  number_has : (m : ℕ) → range m ≡ true → (n : ℕ) × (range n ≡ true) × ((m == n) ≡ true)
  number_has m e = (m, e, eq-eqb m m refl)

  number_passes : (n m : ℕ) → range n ≡ true → (m == n) ≡ true → range m ≡ true
  number_passes n m r e = ap range (eqb-true m n e) ∙ r

  abbrev ranges : Pod → Bool
  ranges pod = option_map_or range pod.index false

  pod_has : (pod : Pod) → ranges pod ≡ true → (n : ℕ) × (range n ≡ true) × (has_index n pod ≡ true)
  pod_has pod e = by pod.index e
    where
      by : (i : Option ℕ) → option_map_or range i false ≡ true → (n : ℕ) × (range n ≡ true) × (option_map_or (λ k. k == n) i false ≡ true)
      by (Some k) e = (k, e, eq-eqb k k refl)
      by None e = absurd (true≢false (sym e))

  pod_passes : (n : ℕ) (pod : Pod) → range n ≡ true → has_index n pod ≡ true → ranges pod ≡ true
  pod_passes n pod r e = by pod.index e
    where
      by : (i : Option ℕ) → option_map_or (λ k. k == n) i false ≡ true → option_map_or range i false ≡ true
      by (Some k) e = ap range (eqb-true k n e) ∙ r
      by None e = absurd (true≢false (sym e))

  -- Numbers and pods with as many of each index.
  between-both : (ns : List ℕ) (own : List Pod) → ((n : ℕ) → times n ns ≡ length (filter (has_index n) own)) → list_any range ns ≡ list_any ranges own
  between-both ns own held =
      both_or_none (list_any range ns) (list_any ranges own)
      (λ h.
      let one = any-some range range (λ n m. m == n) number_has ns h in
      let is = held one.0 in
      let some_are = one.2 in
      some-any range ranges has_index pod_passes one.0 own one.1 (omega (arith, is, some_are)))
      (λ h.
      let one = any-some range ranges has_index pod_has own h in
      let is = held one.0 in
      let some_are = one.2 in
      some-any range range (λ n m. m == n) number_passes one.0 ns one.1 (omega (arith, is, some_are)))

pub held-between : (owner : Uid) (first last : ℕ) (pods : List Pod) (rows : List (Uid × List ℕ)) → AreHeld pods rows
    → list_any (is_between first last) (held_by owner rows) ≡ list_any (has_index_in first last) (tracked_active_pods (pods_for owner pods))
held-between owner first last pods rows held = between-both (is_between first last) (held_by owner rows) (tracked_active_pods (pods_for owner pods)) (held owner)

pub held-from : (owner : Uid) (first : ℕ) (pods : List Pod) (rows : List (Uid × List ℕ)) → AreHeld pods rows
    → list_any (λ n. nat_le first n) (held_by owner rows) ≡ list_any (λ pod. option_map_or (λ n. nat_le first n) pod.index false) (tracked_active_pods (pods_for owner pods))
held-from owner first pods rows held = between-both (λ n. nat_le first n) (held_by owner rows) (tracked_active_pods (pods_for owner pods)) (held owner)
