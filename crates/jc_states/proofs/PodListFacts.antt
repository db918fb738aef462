-- Facts on lists of pods in ascending UID: what a put and a drop do to their order, to what is
-- found in them and to how many they are.
use Rattle.std.proofs.Common.{◌≡◌, ℕ, suc, ◌+◌, ◌<◌, ◌≤◌, ◌==◌, nat_lt, Bool, true, false, cond, not, ◌||◌, List, [], ◌∷◌, filter, find, length, Option, Some, None, is_some, refl, sym, ap, ◌∙◌, arith, lt-ltb, ltb-true, ltb-false, eqb-true}
use Rattle.std.proofs.Common.{ne_eqb, true≢false}
use Rattle.std.specs.List.{AllByRecursion as Each, list_any}
use Rattle.std.proofs.lemmas.Bool.{cond-true, cond-false, eqb-false}
use Rattle.std.proofs.lemmas.List.Filters.{length-filter_both}
use Rattle.jc_types.specs.declared.numbers.Uid.{Uid}
use Rattle.jc_types.specs.declared.objects.Pod.{Pod}
use Rattle.jc_types.specs.Keys.{same_uid}
use Rattle.jc_states.specs.PodLists.{put_pod, drop_pod, RisesFrom}
use Rattle.jc_types.proofs.KeyFacts.{same_uid-eq, same_uid-itself}
use Rattle.jc_types.proofs.ListFacts.{Each-weaker}

-- A pod of the UID among the pods.
abbrev pub pod_among : Uid → List Pod → Option Pod
pod_among u pods = find (λ pod. same_uid pod.uid u) pods

-- A lower bound may be lowered.
pub rises_weaker : (low high : ℕ) (pods : List Pod) → low ≤ high → RisesFrom high pods → RisesFrom low pods
rises_weaker low high [] h r = tt
rises_weaker low high (pod ∷ pods) h r = (omega (arith, h, r.0), r.1)

-- A put keeps the order.
pub rises_put : (low : ℕ) (pod : Pod) (pods : List Pod) → low ≤ pod.uid.0 → RisesFrom low pods → RisesFrom low (put_pod pod pods)
rises_put low pod [] h r = (h, tt)
rises_put low pod (q ∷ pods) h r =
    by (λ le. rises_put (q.uid.0 + 1) pod pods le r.1) (nat_lt pod.uid.0 q.uid.0) refl (pod.uid.0 == q.uid.0) refl
  where
    by : (q.uid.0 + 1 ≤ pod.uid.0 → RisesFrom (q.uid.0 + 1) (put_pod pod pods)) → (lt : Bool) → nat_lt pod.uid.0 q.uid.0 ≡ lt → (eq : Bool) → (pod.uid.0 == q.uid.0) ≡ eq → RisesFrom low
        (cond lt (pod ∷ q ∷ pods) (cond eq (pod ∷ pods) (q ∷ put_pod pod pods)))
    by ih true l eq e = let below = ltb-true pod.uid.0 q.uid.0 l in (h, (omega (arith, below), r.1))
    by ih false l true e =
        let is = eqb-true pod.uid.0 q.uid.0 e in
        (h, rises_weaker (pod.uid.0 + 1) (q.uid.0 + 1) pods (omega (arith, is)) r.1)
    by ih false l false e =
        let above = ltb-false pod.uid.0 q.uid.0 l in
        let ne = eqb-false pod.uid.0 q.uid.0 e in
        (r.0, ih (omega (arith, above, ne)))

-- A filter keeps the order.
pub rises_filter : (low : ℕ) (test : Pod → Bool) (pods : List Pod) → RisesFrom low pods → RisesFrom low (filter test pods)
rises_filter low test [] r = tt
rises_filter low test (pod ∷ pods) r = by (test pod) (rises_filter (pod.uid.0 + 1) test pods r.1)
  where
    by : (b : Bool) → RisesFrom (pod.uid.0 + 1) (filter test pods) → RisesFrom low (cond b (pod ∷ filter test pods) (filter test pods))
    by true ih = (r.0, ih)
    by false ih = rises_weaker low (pod.uid.0 + 1) (filter test pods) (omega (arith, r.0)) ih

-- Each has a UID from the bound on.
pub rises-each : (low : ℕ) (pods : List Pod) → RisesFrom low pods → Each (λ pod. low ≤ pod.uid.0) pods
rises-each low [] r = tt
rises-each low (pod ∷ pods) r =
    (r.0, Each-weaker (λ other. pod.uid.0 + 1 ≤ other.uid.0) (λ other. low ≤ other.uid.0) (λ other h. omega (arith, h, r.0)) pods (rises-each (pod.uid.0 + 1) pods r.1))

-- Below the bound none is found.
pub among_none : (low : ℕ) (u : Uid) (pods : List Pod) → u.0 < low → RisesFrom low pods → pod_among u pods ≡ None
among_none low u [] h r = refl
among_none low u (pod ∷ pods) h r =
    cond-false (same_uid pod.uid u) (Some pod) (pod_among u pods) (ne_eqb pod.uid.0 u.0 (λ e. omega (arith, e, h, r.0)))
    ∙ among_none (pod.uid.0 + 1) u pods (omega (arith, h, r.0)) r.1

-- A pod that is put is found under its UID, and every other is found as before.
pub among_put : (u : Uid) (pod : Pod) (pods : List Pod) → pod_among u (put_pod pod pods) ≡ cond (same_uid pod.uid u) (Some pod) (pod_among u pods)
among_put u pod [] = refl
among_put u pod (q ∷ pods) = by (among_put u pod pods) (nat_lt pod.uid.0 q.uid.0) (pod.uid.0 == q.uid.0) refl
  where
    by : pod_among u (put_pod pod pods) ≡ cond (same_uid pod.uid u) (Some pod) (pod_among u pods) → (lt eq : Bool) → (pod.uid.0 == q.uid.0) ≡ eq → pod_among u
        (cond lt (pod ∷ q ∷ pods) (cond eq (pod ∷ pods) (q ∷ put_pod pod pods))) ≡ cond (same_uid pod.uid u) (Some pod) (cond (same_uid q.uid u) (Some q) (pod_among u pods))
    by ih true eq e = refl
    by ih false true e = replaced (same_uid pod.uid u) (same_uid q.uid u) (ap (λ v. same_uid v u) (same_uid-eq pod.uid q.uid e))
      where
        replaced : (a b : Bool) → a ≡ b → cond a (Some pod) (pod_among u pods) ≡ cond a (Some pod) (cond b (Some q) (pod_among u pods))
        replaced true b s = refl
        replaced false false s = refl
        replaced false true s = absurd (true≢false (sym s))
    by ih false false e = ap (cond (same_uid q.uid u) (Some q)) ih ∙ swapped (same_uid pod.uid u) refl (same_uid q.uid u) refl
      where
        swapped : (a : Bool) → same_uid pod.uid u ≡ a → (b : Bool) → same_uid q.uid u ≡ b → cond b (Some q) (cond a (Some pod) (pod_among u pods)) ≡ cond a (Some pod) (cond b (Some q) (pod_among u pods))
        swapped true s true t = absurd (eqb-false pod.uid.0 q.uid.0 e (eqb-true pod.uid.0 u.0 s ∙ sym (eqb-true q.uid.0 u.0 t)))
        swapped true s false t = refl
        swapped false s true t = refl
        swapped false s false t = refl

-- A pod that is dropped is not found, and every other is found as before.
pub among_drop : (u v : Uid) (pods : List Pod) → pod_among u (drop_pod v pods) ≡ cond (same_uid v u) None (pod_among u pods)
among_drop u v [] = by (same_uid v u)
  where
    by : (b : Bool) → pod_among u [] ≡ cond b None (pod_among u [])
    by true = refl
    by false = refl
among_drop u v (q ∷ pods) = by (among_drop u v pods) (same_uid q.uid v) refl (same_uid q.uid u) refl (same_uid v u) refl
  where
    by : pod_among u (drop_pod v pods) ≡ cond (same_uid v u) None (pod_among u pods) → (a : Bool) → same_uid q.uid v ≡ a → (b : Bool) → same_uid q.uid u ≡ b → (c : Bool) → same_uid v u ≡ c →
        pod_among u (cond (not a) (q ∷ drop_pod v pods) (drop_pod v pods)) ≡ cond c None (cond b (Some q) (pod_among u pods))
    by ih true s b t true w = ih ∙ cond-true (same_uid v u) None (pod_among u pods) w
    by ih true s true t false w = absurd (eqb-false v.0 u.0 w (sym (eqb-true q.uid.0 v.0 s) ∙ eqb-true q.uid.0 u.0 t))
    by ih true s false t false w = ih ∙ cond-false (same_uid v u) None (pod_among u pods) w
    by ih false s true t true w = absurd (eqb-false q.uid.0 v.0 s (eqb-true q.uid.0 u.0 t ∙ sym (eqb-true v.0 u.0 w)))
    by ih false s true t false w = cond-true (same_uid q.uid u) (Some q) (pod_among u (drop_pod v pods)) t
    by ih false s false t true w = cond-false (same_uid q.uid u) (Some q) (pod_among u (drop_pod v pods)) t ∙ ih ∙ cond-true (same_uid v u) None (pod_among u pods) w
    by ih false s false t false w = cond-false (same_uid q.uid u) (Some q) (pod_among u (drop_pod v pods)) t ∙ ih ∙ cond-false (same_uid v u) None (pod_among u pods) w

-- Each of ascending pods is the one that is found under its UID.
pub rises-found : (low : ℕ) (pods : List Pod) → RisesFrom low pods → Each (λ pod. pod_among pod.uid pods ≡ Some pod) pods
rises-found low [] r = tt
rises-found low (q ∷ pods) r =
    (cond-true (same_uid q.uid q.uid) (Some q) (pod_among q.uid pods) (same_uid-itself q.uid), rest pods (rises-each (q.uid.0 + 1) pods r.1) (rises-found (q.uid.0 + 1) pods r.1))
  where
    rest : (some : List Pod) → Each (λ pod. q.uid.0 + 1 ≤ pod.uid.0) some → Each (λ pod. pod_among pod.uid pods ≡ Some pod) some → Each (λ pod. pod_among pod.uid (q ∷ pods) ≡ Some pod) some
    rest [] above found = tt
    rest (pod ∷ some) above found =
        let far = above.0 in
        (cond-false (same_uid q.uid pod.uid) (Some q) (pod_among pod.uid pods) (ne_eqb q.uid.0 pod.uid.0 (λ e. omega (arith, e, far))) ∙ found.0, rest some above.1 found.1)

-- ---- where a pod is put

-- A pod below all others is put in front of them.
pub put_pod-below : (pod : Pod) (low : ℕ) (pods : List Pod) → pod.uid.0 < low → RisesFrom low pods → put_pod pod pods ≡ pod ∷ pods
put_pod-below pod low [] h r = refl
put_pod-below pod low (q ∷ pods) h r =
    cond-true (nat_lt pod.uid.0 q.uid.0) (pod ∷ q ∷ pods) (cond (pod.uid.0 == q.uid.0) (pod ∷ pods) (q ∷ put_pod pod pods))
    (lt-ltb pod.uid.0 q.uid.0 (omega (arith, h, r.0)))

-- A pod above the first is put among the others.
pub put_pod-above : (pod q : Pod) (pods : List Pod) → nat_lt pod.uid.0 q.uid.0 ≡ false → (pod.uid.0 == q.uid.0) ≡ false → put_pod pod (q ∷ pods) ≡ q ∷ put_pod pod pods
put_pod-above pod q pods l e =
    cond-false (nat_lt pod.uid.0 q.uid.0) (pod ∷ q ∷ pods) (cond (pod.uid.0 == q.uid.0) (pod ∷ pods) (q ∷ put_pod pod pods)) l
    ∙ cond-false (pod.uid.0 == q.uid.0) (pod ∷ pods) (q ∷ put_pod pod pods) e

-- A pod with the UID of the first is put in its place.
pub put_pod-there : (pod q : Pod) (pods : List Pod) → nat_lt pod.uid.0 q.uid.0 ≡ false → (pod.uid.0 == q.uid.0) ≡ true → put_pod pod (q ∷ pods) ≡ pod ∷ pods
put_pod-there pod q pods l e =
    cond-false (nat_lt pod.uid.0 q.uid.0) (pod ∷ q ∷ pods) (cond (pod.uid.0 == q.uid.0) (pod ∷ pods) (q ∷ put_pod pod pods)) l
    ∙ cond-true (pod.uid.0 == q.uid.0) (pod ∷ pods) (q ∷ put_pod pod pods) e

-- A pod that is not there is dropped without a change.
pub drop-absent : (u : Uid) (pods : List Pod) → pod_among u pods ≡ None → drop_pod u pods ≡ pods
drop-absent u [] absent = refl
drop-absent u (q ∷ pods) absent = by (same_uid q.uid u) refl (drop-absent u pods)
  where
    by : (b : Bool) → same_uid q.uid u ≡ b → (pod_among u pods ≡ None → drop_pod u pods ≡ pods) → drop_pod u (q ∷ pods) ≡ q ∷ pods
    by true s rest = let bad : Some q ≡ None = ap (λ b. cond b (Some q) (pod_among u pods)) (sym s) ∙ absent in absurd (true≢false (ap is_some bad))
    by false s rest =
        ap (λ b. cond (not b) (q ∷ drop_pod u pods) (drop_pod u pods)) s
        ∙ ap (λ l. q ∷ l) (rest (ap (λ b. cond b (Some q) (pod_among u pods)) (sym s) ∙ absent))

-- A pod that is put where none has its UID, and dropped again, leaves the list as it was.
pub drop-put : (pod : Pod) (pods : List Pod) → pod_among pod.uid pods ≡ None → drop_pod pod.uid (put_pod pod pods) ≡ pods
drop-put pod [] absent = ap (λ b. cond (not b) (pod ∷ []) []) (same_uid-itself pod.uid)
drop-put pod (q ∷ pods) absent = by (nat_lt pod.uid.0 q.uid.0) (pod.uid.0 == q.uid.0) refl (same_uid q.uid pod.uid) refl (drop-put pod pods)
  where
    by : (lt eq : Bool) → (pod.uid.0 == q.uid.0) ≡ eq → (b : Bool) → same_uid q.uid pod.uid ≡ b → (pod_among pod.uid pods ≡ None → drop_pod pod.uid (put_pod pod pods) ≡ pods)
        → drop_pod pod.uid (cond lt (pod ∷ q ∷ pods) (cond eq (pod ∷ pods) (q ∷ put_pod pod pods))) ≡ q ∷ pods
    by lt eq e true s rest = let bad : Some q ≡ None = ap (λ b. cond b (Some q) (pod_among pod.uid pods)) (sym s) ∙ absent in absurd (true≢false (ap is_some bad))
    by true eq e false s rest =
        ap (λ b. cond (not b) (pod ∷ drop_pod pod.uid (q ∷ pods)) (drop_pod pod.uid (q ∷ pods))) (same_uid-itself pod.uid)
        ∙ drop-absent pod.uid (q ∷ pods) absent
    by false true e false s rest = absurd (eqb-false q.uid.0 pod.uid.0 s (sym (eqb-true pod.uid.0 q.uid.0 e)))
    by false false e false s rest =
        ap (λ b. cond (not b) (q ∷ drop_pod pod.uid (put_pod pod pods)) (drop_pod pod.uid (put_pod pod pods))) s
        ∙ ap (λ l. q ∷ l) (rest (ap (λ b. cond b (Some q) (pod_among pod.uid pods)) (sym s) ∙ absent))

-- ---- tests

-- Where none passes, each fails.
pub each-fails : {X : Type 0} (test : X → Bool) (xs : List X) → list_any test xs ≡ false → Each (λ x. test x ≡ false) xs
each-fails test [] h = tt
each-fails {X} test (x ∷ xs) h = by (test x) refl h (each-fails test xs)
  where
    by : (b : Bool) → test x ≡ b → (b || list_any test xs) ≡ false → (list_any test xs ≡ false → Each (λ y. test y ≡ false) xs) → (test x ≡ false) × Each (λ y. test y ≡ false) xs
    by true e h rest = absurd (true≢false h)
    by false e h rest = (e, rest h)

-- ---- how many pods there are

-- A put adds at most one.
pub length-put_pod : (pod : Pod) (pods : List Pod) → length (put_pod pod pods) ≤ length pods + 1
length-put_pod pod [] = omega arith
length-put_pod pod (q ∷ pods) = by (nat_lt pod.uid.0 q.uid.0) (pod.uid.0 == q.uid.0) (length-put_pod pod pods)
  where
    by : (lt eq : Bool) → length (put_pod pod pods) ≤ length pods + 1
        → length (cond lt (pod ∷ q ∷ pods) (cond eq (pod ∷ pods) (q ∷ put_pod pod pods))) ≤ length (q ∷ pods) + 1
    by true eq h = omega arith
    by false true h = omega arith
    by false false h = omega (arith, h)

-- A put in the place of a pod adds none.
pub length-put_there : (low : ℕ) (pod : Pod) (pods : List Pod) → RisesFrom low pods → is_some (pod_among pod.uid pods) ≡ true → length (put_pod pod pods) ≡ length pods
length-put_there low pod [] r there = absurd (true≢false (sym there))
length-put_there low pod (q ∷ pods) r there =
    by (nat_lt pod.uid.0 q.uid.0) refl (pod.uid.0 == q.uid.0) refl (same_uid q.uid pod.uid) refl there (length-put_there (q.uid.0 + 1) pod pods r.1)
  where
    by : (lt : Bool) → nat_lt pod.uid.0 q.uid.0 ≡ lt → (eq : Bool) → (pod.uid.0 == q.uid.0) ≡ eq → (s : Bool) → same_uid q.uid pod.uid ≡ s
        → is_some (cond s (Some q) (pod_among pod.uid pods)) ≡ true
        → (is_some (pod_among pod.uid pods) ≡ true → length (put_pod pod pods) ≡ length pods)
        → length (cond lt (pod ∷ q ∷ pods) (cond eq (pod ∷ pods) (q ∷ put_pod pod pods))) ≡ length (q ∷ pods)
    by true l eq e true s h ih =
        let below = ltb-true pod.uid.0 q.uid.0 l in
        let is = eqb-true q.uid.0 pod.uid.0 s in
        absurd (omega (arith, below, is))
    by true l eq e false s h ih =
        let below = ltb-true pod.uid.0 q.uid.0 l in
        absurd (true≢false (sym h ∙ ap is_some (among_none (q.uid.0 + 1) pod.uid pods (omega (arith, below)) r.1)))
    by false l true e s t h ih = refl
    by false l false e true s h ih = absurd (eqb-false pod.uid.0 q.uid.0 e (sym (eqb-true q.uid.0 pod.uid.0 s)))
    by false l false e false s h ih = ap suc (ih h)

-- A filter keeps at most all.
pub length-filter-le : (test : Pod → Bool) (pods : List Pod) → length (filter test pods) ≤ length pods
length-filter-le test pods = let h = length-filter_both test (λ p. not (test p)) (λ p. refl) pods in omega (arith, h)

-- A drop adds none.
pub length-drop_pod : (u : Uid) (pods : List Pod) → length (drop_pod u pods) ≤ length pods
length-drop_pod u pods = length-filter-le (λ p. not (same_uid p.uid u)) pods
