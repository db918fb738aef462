-- What a put and a drop do to the numbers of each owner, and how large these numbers are.
use Rattle.std.proofs.Common.{◌≡◌, ℕ, ◌+◌, ◌-◌, ◌*◌, ◌<◌, ◌≤◌, ◌^◌, suc, nat_lt, ◌==◌, Bool, true, false, cond, not, ◌||◌, List, [], ◌∷◌, All, filter, length, sum_by, Some, None, is_some, unwrap_or, refl, sym, ap, subst, ◌∙◌, arith, true≢false}
use Rattle.std.proofs.Common.{lt-ltb, ltb-true, eqb-true}
use Rattle.std.specs.List.{AllByRecursion as Each, list_any}
use Rattle.std.specs.Map.{lookup}
use Rattle.std.proofs.lemmas.Bool.{cond-true, eqb-false}
use Rattle.std.proofs.lemmas.List.Elements.{All-from_recursion, recursion_from_All}
use Rattle.std.proofs.lemmas.List.Sums.{sum_by-cons, sum_by-le}
use Rattle.jc_types.specs.declared.numbers.Uid.{Uid}
use Rattle.jc_types.specs.declared.objects.Pod.{Pod}
use Rattle.jc_types.specs.Keys.{same_uid}
use Rattle.jc_types.proofs.KeyFacts.{same_uid-eq, same_uid-itself}
use Rattle.jc_types.proofs.ListFacts.{Each-filter, Each-passes, Each-both, Each-weaker}
use Rattle.jc_states.specs.declared.tallies.Tally.{Tally}
use Rattle.jc_states.specs.PodLists.{put_pod, drop_pod, RisesFrom, IsRising}
use Rattle.jc_states.specs.Pods.{is_active, is_ending, is_open, is_ready, is_tracked_active}
use Rattle.jc_states.specs.Tallies.{AreTallied, CountsPod, HasFewRestarts, HasRoom, KeepsTallies, tally_with, tally_without, no_pods, open_restarts, pods_for, restarts_in, restarts_of, tally_as, tally_in, tally_of, with_pod, without_pod}
use Rattle.jc_states.proofs.PodListFacts.{pod_among, among_none, drop-absent, rises_put, rises_filter, length-filter-le}

-- ---- what is counted of each pod, in any order

-- A count that goes over the pods, in which two pods may change places.
module _ {X : Type 0} (count : List Pod → X) (one : Pod → X → X) (first : (pod : Pod) (pods : List Pod) → count (pod ∷ pods) ≡ one pod (count pods)) (swap : (p q : Pod) (x : X) → one p (one q x) ≡ one q (one p x)) where
  -- A put adds the pod to the others.
  pub count-put : (low : ℕ) (pod : Pod) (pods : List Pod) → RisesFrom low pods → count (put_pod pod pods) ≡ one pod (count (drop_pod pod.uid pods))
  count-put low pod [] r = first pod []
  count-put low pod (q ∷ pods) r =
      by (nat_lt pod.uid.0 q.uid.0) refl (pod.uid.0 == q.uid.0) refl (same_uid q.uid pod.uid) refl (count-put (q.uid.0 + 1) pod pods r.1)
    where
      by : (lt : Bool) → nat_lt pod.uid.0 q.uid.0 ≡ lt → (eq : Bool) → (pod.uid.0 == q.uid.0) ≡ eq → (s : Bool) → same_uid q.uid pod.uid ≡ s
          → count (put_pod pod pods) ≡ one pod (count (drop_pod pod.uid pods))
          → count (cond lt (pod ∷ q ∷ pods) (cond eq (pod ∷ pods) (q ∷ put_pod pod pods)))
          ≡ one pod (count (cond (not s) (q ∷ drop_pod pod.uid pods) (drop_pod pod.uid pods)))
      by true l eq e true s ih =
          let below = ltb-true pod.uid.0 q.uid.0 l in
          let is = eqb-true q.uid.0 pod.uid.0 s in
          absurd (omega (arith, below, is))
      by true l eq e false s ih =
          let below = ltb-true pod.uid.0 q.uid.0 l in
          let same = drop-absent pod.uid pods (among_none (q.uid.0 + 1) pod.uid pods (omega (arith, below)) r.1) in
          first pod (q ∷ pods) ∙ ap (λ rest. one pod (count (q ∷ rest))) (sym same)
      by false l true e true s ih =
          let is = eqb-true pod.uid.0 q.uid.0 e in
          let same = drop-absent pod.uid pods (among_none (q.uid.0 + 1) pod.uid pods (omega (arith, is)) r.1) in
          first pod pods ∙ ap (λ rest. one pod (count rest)) (sym same)
      by false l true e false s ih = absurd (eqb-false q.uid.0 pod.uid.0 s (sym (eqb-true pod.uid.0 q.uid.0 e)))
      by false l false e true s ih = absurd (eqb-false pod.uid.0 q.uid.0 e (sym (eqb-true q.uid.0 pod.uid.0 s)))
      by false l false e false s ih =
          first q (put_pod pod pods) ∙ ap (one q) ih ∙ swap q pod (count (drop_pod pod.uid pods)) ∙ ap (one pod) (sym (first q (drop_pod pod.uid pods)))

  -- The pod of a UID is counted beside the others.
  pub count-found : (low : ℕ) (u : Uid) (pod : Pod) (pods : List Pod) → RisesFrom low pods → pod_among u pods ≡ Some pod
      → count pods ≡ one pod (count (drop_pod u pods))
  count-found low u pod [] r h = absurd (true≢false (sym (ap is_some h)))
  count-found low u pod (q ∷ pods) r h = by (same_uid q.uid u) refl h (count-found (q.uid.0 + 1) u pod pods r.1)
    where
      same_pod : Some q ≡ Some pod → q ≡ pod
      same_pod e = cc

      by : (s : Bool) → same_uid q.uid u ≡ s → cond s (Some q) (pod_among u pods) ≡ Some pod
          → (pod_among u pods ≡ Some pod → count pods ≡ one pod (count (drop_pod u pods)))
          → count (q ∷ pods) ≡ one pod (count (cond (not s) (q ∷ drop_pod u pods) (drop_pod u pods)))
      by true s f ih =
          let is = eqb-true q.uid.0 u.0 s in
          let same = drop-absent u pods (among_none (q.uid.0 + 1) u pods (omega (arith, is)) r.1) in
          first q pods ∙ ap (λ p. one p (count pods)) (same_pod f) ∙ ap (λ rest. one pod (count rest)) (sym same)
      by false s f ih = first q pods ∙ ap (one q) (ih f) ∙ swap q pod (count (drop_pod u pods)) ∙ ap (one pod) (sym (first q (drop_pod u pods)))

-- How many pods there are once one is put.
pub length-put : (low : ℕ) (pod : Pod) (pods : List Pod) → RisesFrom low pods → length (put_pod pod pods) ≡ suc (length (drop_pod pod.uid pods))
length-put = count-put length (λ pod n. suc n) (λ pod pods. refl) (λ p q n. refl)

-- How many there are beside the pod of a UID.
pub length-found : (low : ℕ) (u : Uid) (pod : Pod) (pods : List Pod) → RisesFrom low pods → pod_among u pods ≡ Some pod → length pods ≡ suc (length (drop_pod u pods))
length-found = count-found length (λ pod n. suc n) (λ pod pods. refl) (λ p q n. refl)

-- ---- the numbers of an owner

-- Numbers that agree are equal.
same_numbers : (s t : Tally) → s.owner ≡ t.owner → s.pods ≡ t.pods → s.open_pods ≡ t.open_pods → s.active ≡ t.active → s.active_tracked ≡ t.active_tracked → s.open_marked ≡ t.open_marked → s.ready ≡ t.ready → s.restarts ≡ t.restarts → s ≡ t
same_numbers s t o p a b c d e f = λ i. record { owner = o i; pods = p i; open_pods = a i; active = b i; active_tracked = c i; open_marked = d i; ready = e i; restarts = f i }

-- Some pass a test where one does.
pub some-pass : (test : Pod → Bool) (pods : List Pod) → nat_lt 0 (length (filter test pods)) ≡ list_any test pods
some-pass test [] = refl
some-pass test (pod ∷ pods) = by (test pod) (some-pass test pods)
  where
    by : (b : Bool) → nat_lt 0 (length (filter test pods)) ≡ list_any test pods → nat_lt 0 (length (cond b (pod ∷ filter test pods) (filter test pods))) ≡ (b || list_any test pods)
    by true ih = lt-ltb 0 (suc (length (filter test pods))) (omega arith)
    by false ih = ih

-- One more element adds to a filter where it passes.
pub length-filter-cons : (test : Pod → Bool) (pod : Pod) (pods : List Pod) → length (filter test (pod ∷ pods)) ≡ length (filter test pods) + cond (test pod) 1 0
length-filter-cons test pod pods = by (test pod)
  where
    by : (b : Bool) → length (cond b (pod ∷ filter test pods) (filter test pods)) ≡ length (filter test pods) + cond b 1 0
    by true = omega arith
    by false = omega arith

-- One more pod adds its restarts where it is open.
restarts-cons : (pod : Pod) (pods : List Pod) → restarts_of (pod ∷ pods) ≡ restarts_of pods + open_restarts pod
restarts-cons pod pods = by (is_open pod)
  where
    by : (b : Bool) → sum_by restarts_in (cond b (pod ∷ filter is_open pods) (filter is_open pods)) ≡ sum_by restarts_in (filter is_open pods) + cond b (restarts_in pod) 0
    by true = let e = sum_by-cons restarts_in pod (filter is_open pods) in omega (arith, e)
    by false = omega arith

-- One more pod is entered into the numbers.
tally_as-cons : (owner : Uid) (pod : Pod) (pods : List Pod) → tally_as owner (pod ∷ pods) ≡ tally_with (tally_as owner pods) pod
tally_as-cons owner pod pods =
    same_numbers (tally_as owner (pod ∷ pods)) (tally_with (tally_as owner pods) pod) refl (omega arith) (length-filter-cons is_open pod pods) (length-filter-cons is_active pod pods)
    (length-filter-cons is_tracked_active pod pods) (length-filter-cons is_ending pod pods) (length-filter-cons is_ready pod pods)
    (restarts-cons pod pods)

-- One more pod counts among those of its owner.
tally-cons : (owner : Uid) (pod : Pod) (pods : List Pod) → tally_of owner (pod ∷ pods) ≡ with_pod owner pod (tally_of owner pods)
tally-cons owner pod pods = by (same_uid pod.owner_uid owner)
  where
    by : (b : Bool) → tally_as owner (cond b (pod ∷ pods_for owner pods) (pods_for owner pods)) ≡ cond b (tally_with (tally_as owner (pods_for owner pods)) pod) (tally_as owner (pods_for owner pods))
    by true = tally_as-cons owner pod (pods_for owner pods)
    by false = refl

-- Two terms of a sum may change places.
add_swap : (n a b : ℕ) → n + a + b ≡ n + b + a
add_swap n a b = omega arith

-- Two pods may be entered in either order.
entered-swap : (p q : Pod) (t : Tally) → tally_with (tally_with t q) p ≡ tally_with (tally_with t p) q
entered-swap p q t =
    same_numbers (tally_with (tally_with t q) p) (tally_with (tally_with t p) q) refl refl (add_swap t.open_pods _ _) (add_swap t.active _ _) (add_swap t.active_tracked _ _)
    (add_swap t.open_marked _ _) (add_swap t.ready _ _) (add_swap t.restarts _ _)

with-swap : (owner : Uid) (p q : Pod) (t : Tally) → with_pod owner p (with_pod owner q t) ≡ with_pod owner q (with_pod owner p t)
with-swap owner p q t = by (same_uid p.owner_uid owner) (same_uid q.owner_uid owner)
  where
    by : (a b : Bool) → cond a (tally_with (cond b (tally_with t q) t) p) (cond b (tally_with t q) t) ≡ cond b (tally_with (cond a (tally_with t p) t) q) (cond a (tally_with t p) t)
    by true true = entered-swap p q t
    by true false = refl
    by false true = refl
    by false false = refl

-- What is added and taken again leaves a number as it was.
add_take : (n a : ℕ) → n + a - a ≡ n
add_take n a = omega arith

-- A pod that is entered and leaves again leaves the numbers as they were.
left-entered : (t : Tally) (pod : Pod) → tally_without (tally_with t pod) pod ≡ t
left-entered t pod =
    same_numbers (tally_without (tally_with t pod) pod) t refl (add_take t.pods 1) (add_take t.open_pods _) (add_take t.active _) (add_take t.active_tracked _) (add_take t.open_marked _) (add_take t.ready _) (add_take t.restarts _)

without-with : (owner : Uid) (pod : Pod) (t : Tally) → without_pod owner pod (with_pod owner pod t) ≡ t
without-with owner pod t = by (same_uid pod.owner_uid owner)
  where
    by : (b : Bool) → cond b (tally_without (cond b (tally_with t pod) t) pod) (cond b (tally_with t pod) t) ≡ t
    by true = left-entered t pod
    by false = refl

-- Numbers count the pod that was entered last.
counts-entered : (t : Tally) (pod : Pod) → CountsPod (tally_with t pod) pod
counts-entered t pod = record { pods = omega arith; open_pods = omega arith; active = omega arith; active_tracked = omega arith; open_marked = omega arith; ready = omega arith; restarts = omega arith }

-- ---- how large the numbers are

-- Open pods with few restarts each have few all together.
restarts-few : (pods : List Pod) → Each HasFewRestarts pods → restarts_of pods ≤ length pods * 2 ^ 96
restarts-few pods small =
    let each = Each-both HasFewRestarts (λ pod. is_open pod ≡ true) (filter is_open pods) (Each-filter HasFewRestarts is_open pods small) (Each-passes is_open pods) in
    let open_ones = All-from_recursion (λ pod. restarts_in pod ≤ 2 ^ 96) (filter is_open pods) (Each-weaker (λ pod. HasFewRestarts pod × (is_open pod ≡ true)) (λ pod. restarts_in pod ≤ 2 ^ 96) at_open (filter is_open pods) each) in
    let total = sum_by-le restarts_in (2 ^ 96) (filter is_open pods) open_ones in
    let few = length-filter-le is_open pods in
    omega (arith, total, few)
  where
    at_open : (pod : Pod) → HasFewRestarts pod × (is_open pod ≡ true) → restarts_in pod ≤ 2 ^ 96
    at_open pod h = let e = cond-true (is_open pod) (restarts_in pod) 0 h.1 in let few = h.0 in omega (arith, e, few)

-- One more pod can be entered where there are fewer than the most.
pub has_room : (owner : Uid) (pods : List Pod) → suc (length pods) < 2 ^ 32 → Each HasFewRestarts pods → HasRoom (tally_of owner pods)
has_room owner pods few small =
    let own = pods_for owner pods in
    let less = length-filter-le (λ pod. same_uid pod.owner_uid owner) pods in
    let restarts = restarts-few own (Each-filter HasFewRestarts (λ pod. same_uid pod.owner_uid owner) pods small) in
    record {
      pods = omega (arith, few, less);
      open_pods = let most = length-filter-le is_open own in omega (arith, few, less, most);
      active = let most = length-filter-le is_active own in omega (arith, few, less, most);
      active_tracked = let most = length-filter-le is_tracked_active own in omega (arith, few, less, most);
      open_marked = let most = length-filter-le is_ending own in omega (arith, few, less, most);
      ready = let most = length-filter-le is_ready own in omega (arith, few, less, most);
      restarts = omega (arith, few, less, restarts);
    }

-- What holds of each pod and of the one that is put holds of each afterwards.
each-put : (P : Pod → Type 0) (pod : Pod) (pods : List Pod) → P pod → Each P pods → Each P (put_pod pod pods)
each-put P pod [] h g = (h, tt)
each-put P pod (q ∷ pods) h g = by (nat_lt pod.uid.0 q.uid.0) (pod.uid.0 == q.uid.0) (each-put P pod pods h g.1)
  where
    by : (lt eq : Bool) → Each P (put_pod pod pods) → Each P (cond lt (pod ∷ q ∷ pods) (cond eq (pod ∷ pods) (q ∷ put_pod pod pods)))
    by true eq ih = (h, g)
    by false true ih = (h, g.1)
    by false false ih = (g.0, ih)

-- ---- rows of tallies

-- No pods and no rows.
pub kept-none : (pods : List Pod) (rows : List (Uid × Tally)) → pods ≡ [] → rows ≡ [] → KeepsTallies pods rows
kept-none pods rows no_pods no_rows = subst (λ all. KeepsTallies all rows) (sym no_pods) (subst (KeepsTallies []) (sym no_rows) none)
  where
    none : KeepsTallies [] []
    none = record { rising = tt; few = omega arith; small = All-from_recursion HasFewRestarts [] tt; tallied = λ owner. refl }

-- The rows of kept pods have room for one more pod where there are fewer than the most.
pub kept-room : (owner : Uid) (pods : List Pod) (rows : List (Uid × Tally)) → KeepsTallies pods rows → suc (length pods) < 2 ^ 32 → HasRoom (tally_in owner rows)
kept-room owner pods rows kept few = subst HasRoom (sym (kept.tallied owner)) (has_room owner pods few (recursion_from_All HasFewRestarts pods kept.small))

-- The row of the owner of a kept pod counts the pod.
pub kept-counts : (u : Uid) (pod : Pod) (pods : List Pod) (rows : List (Uid × Tally)) → KeepsTallies pods rows → pod_among u pods ≡ Some pod → CountsPod (tally_in pod.owner_uid rows) pod
kept-counts u pod pods rows kept found =
    let owner = pod.owner_uid in
    let rest = tally_of owner (drop_pod u pods) in
    let whole = count-found (tally_of owner) (with_pod owner) (tally-cons owner) (with-swap owner) 0 u pod pods kept.rising found in
    let own = cond-true (same_uid pod.owner_uid owner) (tally_with rest pod) rest (same_uid-itself owner) in
    subst (λ t. CountsPod t pod) (sym (kept.tallied owner ∙ whole ∙ own)) (counts-entered rest pod)

-- Once the pod of a UID has left, the rows are those of the others.
pub kept-left : (u : Uid) (pod : Pod) (pods : List Pod) (rows new : List (Uid × Tally)) → KeepsTallies pods rows → pod_among u pods ≡ Some pod
    → ((owner : Uid) → tally_in owner new ≡ without_pod owner pod (tally_in owner rows)) → KeepsTallies (drop_pod u pods) new
kept-left u pod pods rows new kept found is = record {
  rising = rises_filter 0 (λ other. not (same_uid other.uid u)) pods kept.rising;
  few = let len = length-found 0 u pod pods kept.rising found in let few = kept.few in omega (arith, few, len);
  small =
      All-from_recursion HasFewRestarts (drop_pod u pods)
      (Each-filter HasFewRestarts (λ other. not (same_uid other.uid u)) pods (recursion_from_All HasFewRestarts pods kept.small));
  tallied =
      λ owner.
      is owner
      ∙ ap (without_pod owner pod)
      (kept.tallied owner ∙ count-found (tally_of owner) (with_pod owner) (tally-cons owner) (with-swap owner) 0 u pod pods kept.rising found)
      ∙ without-with owner pod (tally_of owner (drop_pod u pods));
}

-- Once a pod is entered into the rows of the others, they are those of the pods where it is put.
pub kept-entered : (pod : Pod) (pods : List Pod) (rows new : List (Uid × Tally)) → IsRising pods → All HasFewRestarts pods → HasFewRestarts pod
    → suc (length (drop_pod pod.uid pods)) < 2 ^ 32 → AreTallied (drop_pod pod.uid pods) rows
    → ((owner : Uid) → tally_in owner new ≡ with_pod owner pod (tally_in owner rows)) → KeepsTallies (put_pod pod pods) new
kept-entered pod pods rows new rising all small few old is = record {
  rising = rises_put 0 pod pods (omega arith) rising;
  few = let len = length-put 0 pod pods rising in omega (arith, few, len);
  small = All-from_recursion HasFewRestarts (put_pod pod pods) (each-put HasFewRestarts pod pods small (recursion_from_All HasFewRestarts pods all));
  tallied =
      λ owner.
      is owner ∙ ap (with_pod owner pod) (old owner)
      ∙ sym (count-put (tally_of owner) (with_pod owner) (tally-cons owner) (with-swap owner) 0 pod pods rising);
}

-- Once a pod of a new UID is entered into the rows of kept pods.
pub kept-inserted : (pod : Pod) (pods : List Pod) (rows new : List (Uid × Tally)) → KeepsTallies pods rows → pod_among pod.uid pods ≡ None → suc (length pods) < 2 ^ 32 → HasFewRestarts pod
    → ((owner : Uid) → tally_in owner new ≡ with_pod owner pod (tally_in owner rows)) → KeepsTallies (put_pod pod pods) new
kept-inserted pod pods rows new kept absent few small is =
    let same = drop-absent pod.uid pods absent in
    kept-entered pod pods rows new kept.rising kept.small small (subst (λ all. suc (length all) < 2 ^ 32) (sym same) few)
    (subst (λ all. AreTallied all rows) (sym same) kept.tallied) is

-- A pod that is there leaves room for one more.
pub kept-room_left : (owner u : Uid) (pod : Pod) (pods : List Pod) (rows new : List (Uid × Tally)) → KeepsTallies pods rows → pod_among u pods ≡ Some pod
    → ((other : Uid) → tally_in other new ≡ without_pod other pod (tally_in other rows)) → HasRoom (tally_in owner new)
kept-room_left owner u pod pods rows new kept found is =
    let len = length-found 0 u pod pods kept.rising found in
    let few = kept.few in
    kept-room owner (drop_pod u pods) new (kept-left u pod pods rows new kept found is) (omega (arith, len, few))

-- Once a pod is entered after the one of its UID has left.
pub kept-replaced : (pod old : Pod) (pods : List Pod) (rows rest new : List (Uid × Tally)) → KeepsTallies pods rows → pod_among pod.uid pods ≡ Some old
    → ((owner : Uid) → tally_in owner rest ≡ without_pod owner old (tally_in owner rows)) → HasFewRestarts pod
    → ((owner : Uid) → tally_in owner new ≡ with_pod owner pod (tally_in owner rest)) → KeepsTallies (put_pod pod pods) new
kept-replaced pod old pods rows rest new kept found lack small is =
    let len = length-found 0 pod.uid old pods kept.rising found in
    let few = kept.few in
    kept-entered pod pods rest new kept.rising kept.small small (omega (arith, len, few)) (kept-left pod.uid old pods rows rest kept found lack).tallied is

-- Once a row is put for a pod whose owner had none.
pub put-row : (pod : Pod) (tally : Tally) (rows new : List (Uid × Tally)) → lookup (same_uid pod.owner_uid) rows ≡ None → tally ≡ tally_with (no_pods pod.owner_uid) pod
    → ((owner : Uid) → lookup (same_uid owner) new ≡ cond (same_uid pod.owner_uid owner) (Some tally) (lookup (same_uid owner) rows))
    → (owner : Uid) → tally_in owner new ≡ with_pod owner pod (tally_in owner rows)
put-row pod tally rows new none is puts owner = ap (λ found. unwrap_or found (no_pods owner)) (puts owner) ∙ by (same_uid pod.owner_uid owner) refl
  where
    had : tally_in pod.owner_uid rows ≡ no_pods pod.owner_uid
    had = ap (λ found. unwrap_or found (no_pods pod.owner_uid)) none

    by : (b : Bool) → same_uid pod.owner_uid owner ≡ b
        → unwrap_or (cond b (Some tally) (lookup (same_uid owner) rows)) (no_pods owner) ≡ cond b (tally_with (tally_in owner rows) pod) (tally_in owner rows)
    by true e = is ∙ ap (λ t. tally_with t pod) (sym had) ∙ ap (λ u. tally_with (tally_in u rows) pod) (same_uid-eq pod.owner_uid owner e)
    by false e = refl
