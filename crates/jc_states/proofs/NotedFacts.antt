-- Where all pods are the owner's, and no listed one is calm, the pods at odds are those at which a sync looks;
-- and pods that are found by their UIDs, one after another.
use Rattle.std.proofs.Common.{◌≡◌, ℕ, ◌+◌, ◌<◌, Bool, true, false, cond, not, ◌||◌, List, [], ◌∷◌, ◌++◌, filter, length, drop, get_or, map, Option, Some, None, is_some, refl, sym, ap, subst, ◌∙◌, arith, true≢false}
use Rattle.std.specs.List.{AllByRecursion as Each, list_any}
use Rattle.std.specs.Option.{option_map_or}
use Rattle.std.proofs.lemmas.Bool.{or_parts}
use Rattle.jc_types.specs.declared.numbers.Uid.{Uid}
use Rattle.jc_types.specs.declared.objects.Pod.{Pod}
use Rattle.jc_types.specs.Keys.{same_uid}
use Rattle.jc_types.proofs.KeyFacts.{same_uid-eq}
use Rattle.jc_types.proofs.ListFacts.{Each-both, Each-filter, Each-weaker, filter_same}
use Rattle.jc_states.specs.Noted.{is_at_odds, is_calm, needs_look, odd_numbers}
use Rattle.jc_states.specs.PodLists.{RisesFrom}
use Rattle.jc_states.specs.Tallies.{pods_for}
use Rattle.jc_states.specs.UidLists.{is_in}
use Rattle.jc_states.proofs.PodListFacts.{pod_among, length-filter-le, rises-found}

-- ---- the pods at which a sync looks

-- Where a filter keeps as many as there are, each passes.
each-kept : (test : Pod → Bool) (pods : List Pod) → length (filter test pods) ≡ length pods → Each (λ pod. test pod ≡ true) pods
each-kept test [] h = tt
each-kept test (pod ∷ pods) h = by (test pod) refl h (each-kept test pods)
  where
    by : (b : Bool) → test pod ≡ b → length (cond b (pod ∷ filter test pods) (filter test pods)) ≡ length (pod ∷ pods)
        → (length (filter test pods) ≡ length pods → Each (λ other. test other ≡ true) pods) → Each (λ other. test other ≡ true) (pod ∷ pods)
    by true t g ih = (t, ih (omega (arith, g)))
    by false t g ih = let less = length-filter-le test pods in absurd (omega (arith, g, less))

-- A pod of a listed UID is at odds where no listed one is calm.
listed_odd : (pods : List Pod) (pod : Pod) (uids : List Uid) → pod_among pod.uid pods ≡ Some pod → list_any (is_calm pods) uids ≡ false
    → is_in pod.uid uids ≡ true → is_at_odds pod ≡ true
listed_odd pods pod [] found calm h = absurd (true≢false (sym h))
listed_odd pods pod (v ∷ uids) found calm h =
    by (same_uid v pod.uid) refl h (or_parts (is_calm pods v) (list_any (is_calm pods) uids) calm) (listed_odd pods pod uids found)
  where
    odd : (b : Bool) → not b ≡ false → b ≡ true
    odd true e = refl
    odd false e = absurd (true≢false e)

    shown : Option Pod → Bool
    shown o = option_map_or (λ other. not (is_at_odds other)) o false

    by : (s : Bool) → same_uid v pod.uid ≡ s → (s || is_in pod.uid uids) ≡ true → (is_calm pods v ≡ false) × (list_any (is_calm pods) uids ≡ false)
        → (list_any (is_calm pods) uids ≡ false → is_in pod.uid uids ≡ true → is_at_odds pod ≡ true) → is_at_odds pod ≡ true
    by true s g both ih = odd (is_at_odds pod) (sym (ap shown (ap (λ u. pod_among u pods) (same_uid-eq v pod.uid s) ∙ found)) ∙ both.0)
    by false s g both ih = ih both.1 g

-- Where all pods are the owner's and no listed one is calm, a sync looks at those at odds.
pub noted-odd : (owner : Uid) (uids more : List Uid) (pods : List Pod) → RisesFrom 0 pods → length (pods_for owner pods) ≡ length pods
    → list_any (is_calm pods) uids ≡ false → list_any (is_calm pods) more ≡ false
    → filter is_at_odds pods ≡ filter (needs_look owner uids more) pods
noted-odd owner uids more pods rising all calm calm_more =
    let own = each-kept (λ pod. same_uid pod.owner_uid owner) pods all in
    let P : Pod → Type 0 = λ pod. same_uid pod.owner_uid owner ≡ true in
    let Q : Pod → Type 0 = λ pod. pod_among pod.uid pods ≡ Some pod in
    sym
    (filter_same (needs_look owner uids more) is_at_odds pods
    (Each-weaker (λ pod. P pod × Q pod) (λ pod. needs_look owner uids more pod ≡ is_at_odds pod) (λ pod h. one pod h.0 h.1) pods (Each-both P Q pods own (rises-found 0 pods rising))))
  where
    one : (pod : Pod) → same_uid pod.owner_uid owner ≡ true → pod_among pod.uid pods ≡ Some pod → needs_look owner uids more pod ≡ is_at_odds pod
    one pod own found =
        by (is_at_odds pod) (same_uid pod.owner_uid owner) own (is_in pod.uid uids) (listed_odd pods pod uids found calm) (is_in pod.uid more) (listed_odd pods pod more found calm_more)
      where
        by : (odd mine : Bool) → mine ≡ true → (a : Bool) → (a ≡ true → odd ≡ true) → (b : Bool) → (b ≡ true → odd ≡ true) → (odd || (not mine || (a || b))) ≡ odd
        by true mine m a f b g = refl
        by false false m a f b g = absurd (true≢false (sym m))
        by false true m true f b g = sym (f refl)
        by false true m false f true g = sym (g refl)
        by false true m false f false g = refl

-- ---- pods that are found by their UIDs

-- Each of some pods is the one that is found under its UID.
module _ (pods : List Pod) where
  abbrev AreFound : List Pod → Type 0
  AreFound some = Each (λ pod. pod_among pod.uid pods ≡ Some pod) some

  -- So is each that passes a test, among pods in ascending UID.
  pub passing-found : (test : Pod → Bool) → RisesFrom 0 pods → AreFound (filter test pods)
  passing-found test rising = Each-filter (λ pod. pod_among pod.uid pods ≡ Some pod) test pods (rises-found 0 pods rising)

-- ---- the pods at odds, gone through by their numbers

-- Of the pods at odds some are found, and the numbers are those of the others.
abbrev pub AreLeft : List Pod → List Pod → List ℕ → Type 0
AreLeft pods copies numbers = (rest : List Pod) × (filter is_at_odds pods ≡ copies ++ rest) × (numbers ≡ map (λ pod. pod.uid.0) rest)

module _ (pods : List Pod) (rising : RisesFrom 0 pods) where
  -- At first all are left.
  pub all-left : (numbers : List ℕ) → numbers ≡ odd_numbers pods → AreLeft pods [] numbers
  all-left numbers are = (filter is_at_odds pods, refl, are)

  -- Each is the one that is found under its UID.
  found_behind : (front rest : List Pod) (pod : Pod) → AreFound pods (front ++ pod ∷ rest) → pod_among pod.uid pods ≡ Some pod
  found_behind [] rest pod found = found.0
  found_behind (q ∷ front) rest pod found = found_behind front rest pod found.1

  moved : (front rest : List Pod) (pod : Pod) → front ++ pod ∷ rest ≡ (front ++ pod ∷ []) ++ rest
  moved [] rest pod = refl
  moved (q ∷ front) rest pod = ap (λ all. q ∷ all) (moved front rest pod)

  -- The pod of the next number is the next of them.
  pub next-left : (copies : List Pod) (numbers more : List ℕ) (n : ℕ) → AreLeft pods copies numbers → numbers ≡ n ∷ more
      → (pod : Pod) × (pod_among (record { 0 = n }) pods ≡ Some pod) × AreLeft pods (copies ++ pod ∷ []) more
  next-left copies numbers more n left is = by left.0 left.1 (sym is ∙ left.2)
    where
      by : (rest : List Pod) → filter is_at_odds pods ≡ copies ++ rest → n ∷ more ≡ map (λ pod. pod.uid.0) rest
          → (pod : Pod) × (pod_among (record { 0 = n }) pods ≡ Some pod) × AreLeft pods (copies ++ pod ∷ []) more
      by [] all are = absurd (omega (arith, ap length are))
      by (pod ∷ rest) all are =
          let head : n ≡ pod.uid.0 = ap (λ ns. get_or ns 0 0) are in
          let tail : more ≡ map (λ (other : Pod). other.uid.0) rest = ap (λ ns. drop 1 ns) are in
          let found = found_behind copies rest pod (subst (AreFound pods) all (passing-found pods is_at_odds rising)) in
          (pod, ap (λ m. pod_among (record { 0 = m }) pods) head ∙ found, (rest, all ∙ moved copies rest pod, tail))

  -- There is a pod of the next number.
  pub next-there : (copies : List Pod) (numbers more : List ℕ) (n : ℕ) → AreLeft pods copies numbers → numbers ≡ n ∷ more → None ≡ pod_among (record { 0 = n }) pods → ⊥
  next-there copies numbers more n left is none =
      let next = next-left copies numbers more n left is in
      true≢false (ap is_some (sym next.1 ∙ sym none))

  -- It is copied.
  pub copied-left : (copies new : List Pod) (numbers more : List ℕ) (n : ℕ) (pod copy : Pod) → AreLeft pods copies numbers → numbers ≡ n ∷ more → Some pod ≡ pod_among (record { 0 = n }) pods
      → copy ≡ pod → new ≡ copies ++ copy ∷ [] → AreLeft pods new more
  copied-left copies new numbers more n pod copy left is found same put =
      let next = next-left copies numbers more n left is in
      subst (λ all. AreLeft pods all more) (sym (put ∙ ap (λ p. copies ++ p ∷ []) (same ∙ same_pod next.0 (found ∙ next.1)))) next.2
    where
      same_pod : (other : Pod) → Some pod ≡ Some other → pod ≡ other
      same_pod other e = cc

  -- Where no number is left all are copied.
  pub none-left : (copies : List Pod) (numbers : List ℕ) → AreLeft pods copies numbers → numbers ≡ [] → copies ≡ filter is_at_odds pods
  none-left copies numbers left is = by left.0 left.1 (sym is ∙ left.2)
    where
      last : (front : List Pod) → front ++ [] ≡ front
      last [] = refl
      last (q ∷ front) = ap (λ all. q ∷ all) (last front)

      by : (rest : List Pod) → filter is_at_odds pods ≡ copies ++ rest → [] ≡ map (λ pod. pod.uid.0) rest → copies ≡ filter is_at_odds pods
      by [] all are = sym (all ∙ last copies)
      by (pod ∷ rest) all are = absurd (omega (arith, ap length are))
