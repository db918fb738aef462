-- What a look-up, a write and a removal among the rows of pods in ascending UID are among the pods.
use Rattle.std.proofs.Common.{◌≡◌, ℕ, ◌+◌, ◌<◌, ◌≤◌, ◌==◌, nat_lt, nat_cmp, Less, Equal, Greater, Bool, true, false, cond, not, List, [], ◌∷◌, find, Some, IsSome, is_some, refl, sym, ap, subst, ◌∙◌, arith}
use Rattle.std.proofs.Common.{true≢false, ltb-true, eqb-true, ne_eqb}
use Rattle.std.specs.Ordering.{match_ordering}
use Rattle.std.specs.Map.{lookup, remove_entry, set_value}
use Rattle.std.specs.BTreeMap.{insert_entry, is_at}
use Rattle.jc_types.specs.declared.numbers.Uid.{Uid}
use Rattle.jc_types.specs.declared.objects.Pod.{Pod}
use Rattle.jc_types.specs.Keys.{same_uid}
use Rattle.jc_states.specs.PodLists.{put_pod, drop_pod, RisesFrom, IsRising}
use Rattle.jc_states.proofs.PodListFacts.{rises_put, rises_filter}
use Rattle.jc_types.proofs.KeyFacts.{same_uid-either_way}
use Rattle.jc_table.specs.Rows.{pods_in_rows, pod_rows, IsInOrder}
use Rattle.jc_table.proofs.Numbers.{asks}

-- ---- rows and pods

-- The pods of their rows.
pub pods_in_rows-pod_rows : (pods : List Pod) → pods_in_rows (pod_rows pods) ≡ pods
pods_in_rows-pod_rows [] = refl
pods_in_rows-pod_rows (pod ∷ pods) = ap (λ rest. pod ∷ rest) (pods_in_rows-pod_rows pods)

-- Rows of pods in ascending UID are in order.
in_order : (rows : List (ℕ × Pod)) (pods : List Pod) → rows ≡ pod_rows pods → IsRising pods → IsInOrder rows
in_order rows pods are rising =
    let back : pods_in_rows rows ≡ pods = ap pods_in_rows are ∙ pods_in_rows-pod_rows pods in
    (are ∙ ap pod_rows (sym back), subst IsRising (sym back) rising)

-- A row is found under a UID where a pod of that UID is.
lookup-pod_rows : (u : Uid) (pods : List Pod) → lookup (λ k. u.0 == k) (pod_rows pods) ≡ find (λ pod. same_uid pod.uid u) pods
lookup-pod_rows u [] = refl
lookup-pod_rows u (pod ∷ pods) =
    ap (λ b. cond b (Some pod) (lookup (λ k. u.0 == k) (pod_rows pods))) (same_uid-either_way u pod.uid)
    ∙ ap (λ rest. cond (same_uid pod.uid u) (Some pod) rest) (lookup-pod_rows u pods)

-- A pod that is found among ascending pods has a UID from their bound on.
found-from : (u : Uid) (low : ℕ) (pods : List Pod) → RisesFrom low pods → IsSome (lookup (λ k. u.0 == k) (pod_rows pods)) → low ≤ u.0
found-from u low [] r h = absurd (true≢false (sym h))
found-from u low (pod ∷ pods) r h = by (u.0 == pod.uid.0) refl h (found-from u (pod.uid.0 + 1) pods r.1)
  where
    by : (b : Bool) → (u.0 == pod.uid.0) ≡ b → IsSome (cond b (Some pod) (lookup (λ k. u.0 == k) (pod_rows pods))) → (IsSome (lookup (λ k. u.0 == k) (pod_rows pods)) → pod.uid.0 + 1 ≤ u.0) → low ≤ u.0
    by true e h above = let is = eqb-true u.0 pod.uid.0 e in omega (arith, is, r.0)
    by false e h above = let far = above h in omega (arith, far, r.0)

-- A pod that is set under its UID, where one is, is put.
set-pod_rows : (pod : Pod) (low : ℕ) (pods : List Pod) → RisesFrom low pods → IsSome (lookup (λ k. pod.uid.0 == k) (pod_rows pods)) → set_value (λ k. pod.uid.0 == k) (pod_rows pods) pod ≡ pod_rows (put_pod pod pods)
set-pod_rows pod low [] r h = absurd (true≢false (sym h))
set-pod_rows pod low (q ∷ pods) r h =
    by (nat_lt pod.uid.0 q.uid.0) refl (pod.uid.0 == q.uid.0) refl h (set-pod_rows pod (q.uid.0 + 1) pods r.1)
  where
    by : (lt : Bool) → nat_lt pod.uid.0 q.uid.0 ≡ lt → (eq : Bool) → (pod.uid.0 == q.uid.0) ≡ eq
        → IsSome (cond eq (Some q) (lookup (λ k. pod.uid.0 == k) (pod_rows pods)))
        → (IsSome (lookup (λ k. pod.uid.0 == k) (pod_rows pods)) → set_value (λ k. pod.uid.0 == k) (pod_rows pods) pod ≡ pod_rows (put_pod pod pods))
        → cond eq ((q.uid.0, pod) ∷ pod_rows pods) ((q.uid.0, q) ∷ set_value (λ k. pod.uid.0 == k) (pod_rows pods) pod)
        ≡ pod_rows (cond lt (pod ∷ q ∷ pods) (cond eq (pod ∷ pods) (q ∷ put_pod pod pods)))
    by true l true e h ih = let below = ltb-true pod.uid.0 q.uid.0 l in let is = eqb-true pod.uid.0 q.uid.0 e in absurd (omega (arith, below, is))
    by true l false e h ih =
        let below = ltb-true pod.uid.0 q.uid.0 l in
        let far = found-from pod.uid (q.uid.0 + 1) pods r.1 h in
        absurd (omega (arith, below, far))
    by false l true e h ih = ap (λ u. (u, pod) ∷ pod_rows pods) (sym (eqb-true pod.uid.0 q.uid.0 e))
    by false l false e h ih = ap (λ rows. (q.uid.0, q) ∷ rows) (ih h)

-- A pod that is inserted under its UID is put.
insert-pod_rows : (pod : Pod) (pods : List Pod) → insert_entry nat_cmp (pod_rows pods) pod.uid.0 pod ≡ pod_rows (put_pod pod pods)
insert-pod_rows pod [] = refl
insert-pod_rows pod (q ∷ pods) = by (nat_lt pod.uid.0 q.uid.0) (pod.uid.0 == q.uid.0) refl (insert-pod_rows pod pods)
  where
    by : (lt eq : Bool) → (pod.uid.0 == q.uid.0) ≡ eq → insert_entry nat_cmp (pod_rows pods) pod.uid.0 pod ≡ pod_rows (put_pod pod pods)
        → match_ordering (cond lt Less (cond eq Equal Greater)) ((pod.uid.0, pod) ∷ (q.uid.0, q) ∷ pod_rows pods) ((q.uid.0, pod) ∷ pod_rows pods) ((q.uid.0, q) ∷ insert_entry nat_cmp (pod_rows pods) pod.uid.0 pod)
        ≡ pod_rows (cond lt (pod ∷ q ∷ pods) (cond eq (pod ∷ pods) (q ∷ put_pod pod pods)))
    by true eq e ih = refl
    by false true e ih = ap (λ u. (u, pod) ∷ pod_rows pods) (sym (eqb-true pod.uid.0 q.uid.0 e))
    by false false e ih = ap (λ rows. (q.uid.0, q) ∷ rows) ih

-- Dropping a UID below all of them leaves ascending pods as they are.
pub drop_pod-below : (u : Uid) (low : ℕ) (pods : List Pod) → RisesFrom low pods → u.0 < low → drop_pod u pods ≡ pods
drop_pod-below u low [] r h = refl
drop_pod-below u low (pod ∷ pods) r h =
    let far = r.0 in
    let other : same_uid pod.uid u ≡ false = ne_eqb pod.uid.0 u.0 (λ e. omega (arith, e, far, h)) in
    ap (λ b. cond (not b) (pod ∷ drop_pod u pods) (drop_pod u pods)) other
    ∙ ap (λ rest. pod ∷ rest) (drop_pod-below u (pod.uid.0 + 1) pods r.1 (omega (arith, far, h)))

-- The row of a UID that is taken out drops the pod of that UID.
remove-pod_rows : (u : Uid) (low : ℕ) (pods : List Pod) → RisesFrom low pods → remove_entry (λ k. u.0 == k) (pod_rows pods) ≡ pod_rows (drop_pod u pods)
remove-pod_rows u low [] r = refl
remove-pod_rows u low (pod ∷ pods) r =
    by (u.0 == pod.uid.0) refl (remove-pod_rows u (pod.uid.0 + 1) pods r.1)
    ∙ ap (λ b. pod_rows (cond (not b) (pod ∷ drop_pod u pods) (drop_pod u pods))) (same_uid-either_way u pod.uid)
  where
    by : (b : Bool) → (u.0 == pod.uid.0) ≡ b → remove_entry (λ k. u.0 == k) (pod_rows pods) ≡ pod_rows (drop_pod u pods)
        → cond b (pod_rows pods) ((pod.uid.0, pod) ∷ remove_entry (λ k. u.0 == k) (pod_rows pods))
        ≡ pod_rows (cond (not b) (pod ∷ drop_pod u pods) (drop_pod u pods))
    by true e ih =
        let is = eqb-true u.0 pod.uid.0 e in
        ap pod_rows (sym (drop_pod-below u (pod.uid.0 + 1) pods r.1 (omega (arith, is))))
    by false e ih = ap (λ rows. (pod.uid.0, pod) ∷ rows) ih

-- ---- the rows of a table, and the pods that a contract sees

module _ (rows : List (ℕ × Pod)) (pods : List Pod) (order : IsInOrder rows) (is : pods_in_rows rows ≡ pods) where
  are : rows ≡ pod_rows pods
  are = order.0 ∙ ap pod_rows is

  -- The pods are in ascending UID.
  pub rising : IsRising pods
  rising = subst IsRising is order.1

  -- The value under a UID is the pod of that UID.
  pub get-is : (u : Uid) → lookup (is_at (nat_cmp u.0)) rows ≡ find (λ pod. same_uid pod.uid u) pods
  get-is u = ap (λ test. lookup test rows) (asks u.0) ∙ ap (lookup (λ k. u.0 == k)) are ∙ lookup-pod_rows u pods

  -- Once a row is taken out.
  take-is : (u : Uid) (new : List (ℕ × Pod)) → new ≡ remove_entry (is_at (nat_cmp u.0)) rows → new ≡ pod_rows (drop_pod u pods)
  take-is u new at =
      at ∙ ap (λ test. remove_entry test rows) (asks u.0) ∙ ap (remove_entry (λ k. u.0 == k)) are
      ∙ remove-pod_rows u 0 pods rising

  pub take-order : (u : Uid) (new : List (ℕ × Pod)) → new ≡ remove_entry (is_at (nat_cmp u.0)) rows → IsInOrder new
  take-order u new at = in_order new (drop_pod u pods) (take-is u new at) (rises_filter 0 (λ pod. not (same_uid pod.uid u)) pods rising)

  pub take-drops : (u : Uid) (new : List (ℕ × Pod)) → new ≡ remove_entry (is_at (nat_cmp u.0)) rows → pods_in_rows new ≡ drop_pod u pods
  take-drops u new at = ap pods_in_rows (take-is u new at) ∙ pods_in_rows-pod_rows (drop_pod u pods)

  -- Once a value is set.
  set-is : (pod : Pod) (new : List (ℕ × Pod)) → IsSome (find (λ p. same_uid p.uid pod.uid) pods) → new ≡ set_value (is_at (nat_cmp pod.uid.0)) rows pod → new ≡ pod_rows (put_pod pod pods)
  set-is pod new there at =
      at ∙ ap (λ test. set_value test rows pod) (asks pod.uid.0)
      ∙ ap (λ rows. set_value (λ k. pod.uid.0 == k) rows pod) are
      ∙ set-pod_rows pod 0 pods rising (ap is_some (lookup-pod_rows pod.uid pods) ∙ there)

  pub set-order : (pod : Pod) (new : List (ℕ × Pod)) → IsSome (find (λ p. same_uid p.uid pod.uid) pods) → new ≡ set_value (is_at (nat_cmp pod.uid.0)) rows pod → IsInOrder new
  set-order pod new there at = in_order new (put_pod pod pods) (set-is pod new there at) (rises_put 0 pod pods (omega arith) rising)

  pub set-puts : (pod : Pod) (new : List (ℕ × Pod)) → IsSome (find (λ p. same_uid p.uid pod.uid) pods) → new ≡ set_value (is_at (nat_cmp pod.uid.0)) rows pod → pods_in_rows new ≡ put_pod pod pods
  set-puts pod new there at = ap pods_in_rows (set-is pod new there at) ∙ pods_in_rows-pod_rows (put_pod pod pods)

  -- Once a row is inserted.
  insert-is : (pod : Pod) (new : List (ℕ × Pod)) → new ≡ insert_entry nat_cmp rows pod.uid.0 pod → new ≡ pod_rows (put_pod pod pods)
  insert-is pod new at = at ∙ ap (λ rows. insert_entry nat_cmp rows pod.uid.0 pod) are ∙ insert-pod_rows pod pods

  pub insert-order : (pod : Pod) (new : List (ℕ × Pod)) → new ≡ insert_entry nat_cmp rows pod.uid.0 pod → IsInOrder new
  insert-order pod new at = in_order new (put_pod pod pods) (insert-is pod new at) (rises_put 0 pod pods (omega arith) rising)

  pub insert-puts : (pod : Pod) (new : List (ℕ × Pod)) → new ≡ insert_entry nat_cmp rows pod.uid.0 pod → pods_in_rows new ≡ put_pod pod pods
  insert-puts pod new at = ap pods_in_rows (insert-is pod new at) ∙ pods_in_rows-pod_rows (put_pod pod pods)
