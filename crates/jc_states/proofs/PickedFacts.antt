-- The UIDs of the pods that pass a test, of pods in ascending UID.
use Rattle.std.proofs.Common.{◌≡◌, ℕ, ◌+◌, ◌≤◌, Bool, true, false, cond, ◌||◌, List, [], ◌∷◌, filter, refl, ap, ◌∙◌, arith, ne_eqb}
use Rattle.std.specs.List.{AllByRecursion as Each}
use Rattle.std.proofs.lemmas.Bool.{or_left}
use Rattle.jc_types.specs.declared.objects.Pod.{Pod}
use Rattle.jc_types.specs.Keys.{same_uid}
use Rattle.jc_types.proofs.KeyFacts.{same_uid-itself}
use Rattle.jc_types.proofs.ListFacts.{Each-both, Each-weaker}
use Rattle.jc_states.specs.PodLists.{RisesFrom}
use Rattle.jc_states.specs.UidLists.{is_in, uids_of}
use Rattle.jc_states.proofs.PodListFacts.{rises-each, rises_filter}
use Rattle.jc_states.proofs.UidListFacts.{uids_of-ascends}
use Rattle.jc_states.proofs.UidPlaceFacts.{absent-below}

-- A pod has a UID of those that pass just where it passes.
pub picked_uids : (test : Pod → Bool) (low : ℕ) (pods : List Pod) → RisesFrom low pods → Each (λ pod. is_in pod.uid (uids_of (filter test pods)) ≡ test pod) pods
picked_uids test low [] r = tt
picked_uids test low (pod ∷ pods) r = (
  here (test pod) refl,
  Each-weaker (λ q. (pod.uid.0 + 1 ≤ q.uid.0) × (is_in q.uid (uids_of (filter test pods)) ≡ test q)) (λ q. is_in q.uid (uids_of (filter test (pod ∷ pods))) ≡ test q) (λ q b. later (test pod) q b.0 b.1) pods
      (Each-both (λ q. pod.uid.0 + 1 ≤ q.uid.0) (λ q. is_in q.uid (uids_of (filter test pods)) ≡ test q) pods (rises-each (pod.uid.0 + 1) pods r.1) (picked_uids test (pod.uid.0 + 1) pods r.1)),
)
  where
    none : is_in pod.uid (uids_of (filter test pods)) ≡ false
    none = absent-below (pod.uid.0 + 1) pod.uid (uids_of (filter test pods)) (omega arith) (uids_of-ascends (pod.uid.0 + 1) (filter test pods) (rises_filter (pod.uid.0 + 1) test pods r.1))

    here : (b : Bool) → test pod ≡ b → is_in pod.uid (uids_of (cond b (pod ∷ filter test pods) (filter test pods))) ≡ b
    here true e = or_left (same_uid pod.uid pod.uid) (is_in pod.uid (uids_of (filter test pods))) (same_uid-itself pod.uid)
    here false e = none

    later : (b : Bool) (q : Pod) → pod.uid.0 + 1 ≤ q.uid.0 → is_in q.uid (uids_of (filter test pods)) ≡ test q → is_in q.uid (uids_of (cond b (pod ∷ filter test pods) (filter test pods))) ≡ test q
    later true q above h = ap (λ s. s || is_in q.uid (uids_of (filter test pods))) (ne_eqb pod.uid.0 q.uid.0 (λ e. omega (arith, e, above))) ∙ h
    later false q above h = h
