-- The lists of a plan ascend by UID where the pods do, and its pods are found by their UIDs.
use Rattle.std.proofs.Common.{◌≡◌, ◌⊎◌, inl, inr, true, false, true≢false, ◌&&◌, ◌||◌, List, [], ◌∷◌, filter, find, Option, Some, None, refl, sym, ap, ◌∙◌, subst}
use Rattle.std.specs.List.{AllByRecursion as Each, Contains, list_any}
use Rattle.std.specs.Option.{IsSomeAnd}
use Rattle.std.proofs.lemmas.Bool.{and_from, and_parts, or_cases, or_left}
use Rattle.std.proofs.lemmas.List.Elements.{All-contains, All-from_recursion}
use Rattle.jc_types.specs.declared.numbers.Uid.{Uid}
use Rattle.jc_types.specs.declared.objects.Job.{Job}
use Rattle.jc_types.specs.declared.objects.Pod.{Pod}
use Rattle.jc_states.specs.declared.bases.Basis.{Basis}
use Rattle.jc_types.specs.Keys.{same_uid}
use Rattle.jc_types.proofs.KeyFacts.{same_uid-eq}
use Rattle.jc_types.proofs.ListFacts.{any_filter, weaker_in}
use Rattle.jc_states.specs.Bases.{is_own, own_pods}
use Rattle.jc_states.specs.Pods.{is_tracked}
use Rattle.jc_states.specs.PodLists.{IsRising}
use Rattle.jc_states.specs.UidLists.{Ascends, is_in}
use Rattle.jc_states.proofs.PodListFacts.{pod_among, rises-found, rises_filter}
use Rattle.jc_states.proofs.UidListFacts.{Found, some_in, uids_of-ascends}
use Rattle.jc_account.specs.Accounts.{counted_in}
use Rattle.jc_account.specs.Judged.{is_to_release}
use Rattle.jc_account.proofs.AccountFacts.{release-member}
use Rattle.jc_manage.specs.LetGoes.{seen_uids}
use Rattle.jc_manage.proofs.Ordered.{let_goes-rise, marks-rise}
use Rattle.jc_plan.specs.Plans.{planned}
use Rattle.jc_plan.specs.Releases.{ReleasedPod, due_uids, is_owed, is_orphan, is_released}
use Rattle.jc_plan.specs.Statuses.{accounted, decided_in, is_end_decided}
use Rattle.jc_plan.proofs.PlanFacts.{plan-let_goes, plan-marks, plan-releases}
use Rattle.jc_plan.proofs.PartFacts.{planned-here}
use Rattle.jc_plan.proofs.ValueFacts.{released-member}

-- A pod of the basis is found by its UID.
pub pod-found : (basis : Basis) (pod : Pod) → IsRising basis.pods → Contains basis.pods pod → find (λ (p : Pod). same_uid p.uid pod.uid) basis.pods ≡ Some pod
pod-found basis pod rising there =
    All-contains (λ (p : Pod). pod_among p.uid basis.pods ≡ Some p) basis.pods pod
    (All-from_recursion (λ (p : Pod). pod_among p.uid basis.pods ≡ Some p) basis.pods (rises-found 0 basis.pods rising)) there

-- ---- what ascends

module _ (basis : Basis) (rising : IsRising basis.pods) where
  own-rises : (job : Job) → IsRising (own_pods job basis.pods)
  own-rises job = rises_filter 0 (is_own job) basis.pods rising

  pub marks-ascend : Ascends (planned basis).marks
  marks-ascend = by basis.job refl
    where
      by : (o : Option Job) → basis.job ≡ o → Ascends (planned basis).marks
      by None this = subst (λ p. Ascends p.marks) (planned-here basis None this) tt
      by (Some job) this =
          subst (λ (us : List Uid). Ascends us) (sym (plan-marks basis job this))
          (marks-rise (is_end_decided job (decided_in job basis)) (own_pods job basis.pods) (own-rises job))

  pub let_goes-ascend : Ascends (seen_uids (planned basis).let_goes)
  let_goes-ascend = by basis.job refl
    where
      by : (o : Option Job) → basis.job ≡ o → Ascends (seen_uids (planned basis).let_goes)
      by None this = subst (λ p. Ascends (seen_uids p.let_goes)) (planned-here basis None this) tt
      by (Some job) this =
          subst (λ (us : List Uid). Ascends us) (sym (ap seen_uids (plan-let_goes basis job this)))
          (let_goes-rise (is_end_decided job (decided_in job basis)) job (own_pods job basis.pods) (accounted job basis) (own-rises job))

  pub releases-ascend : Ascends (planned basis).releases
  releases-ascend =
      subst (λ (us : List Uid). Ascends us) (sym (plan-releases basis))
      (uids_of-ascends 0 (filter (is_released basis) basis.pods) (rises_filter 0 (is_released basis) basis.pods rising))

-- ---- releases

-- A UID is released exactly where a pod has it that loses its finalizer.
pub plan-released : (u : Uid) (basis : Basis) → is_in u (planned basis).releases ≡ list_any (λ pod. is_released basis pod && same_uid pod.uid u) basis.pods
plan-released u basis = ap (is_in u) (plan-releases basis) ∙ released-member u basis

-- What the Job is to release is among all that lose their finalizer.
pub due-released : (u : Uid) (job : Job) (basis : Basis) → basis.job ≡ Some job → is_in u (counted_in job basis.pods).releases ≡ true → is_in u (planned basis).releases ≡ true
due-released u job basis this h =
    plan-released u basis
    ∙ weaker_in (λ p. is_own job p && (is_to_release job own p && same_uid p.uid u)) (λ p. is_released basis p && same_uid p.uid u) basis.pods
    (each basis.pods)
    (sym (any_filter (λ p. is_to_release job own p && same_uid p.uid u) (is_own job) basis.pods) ∙ sym (release-member u job basis.pods) ∙ h)
  where
    own : List Pod
    own = own_pods job basis.pods

    due : List Uid
    due = due_uids basis.job basis.pods

    at : (p : Pod) → (is_own job p && (is_to_release job own p && same_uid p.uid u)) ≡ true → (is_released basis p && same_uid p.uid u) ≡ true
    at p g =
        let parts = and_parts (is_to_release job own p) (same_uid p.uid u) (and_parts (is_own job p) (is_to_release job own p && same_uid p.uid u) g).1 in
        let here : is_in p.uid due ≡ true = ap (λ v. is_in v due) (same_uid-eq p.uid u parts.1) ∙ ap (λ o. is_in u (due_uids o basis.pods)) this ∙ h in
        and_from (is_released basis p) (same_uid p.uid u)
        (or_left (is_owed due p) (is_orphan basis p) (and_from (is_tracked p) (is_in p.uid due) (and_parts (is_tracked p) _ parts.0).0 here)) parts.1

    each : (pods : List Pod) → Each (λ p. (is_own job p && (is_to_release job own p && same_uid p.uid u)) ≡ true → (is_released basis p && same_uid p.uid u) ≡ true) pods
    each [] = tt
    each (p ∷ pods) = (at p, each pods)

-- A pod that loses its finalizer is found by its UID, and is counted by the Job or an orphan.
pub released-seen : (u : Uid) (basis : Basis) → IsRising basis.pods → is_in u (planned basis).releases ≡ true → ReleasedPod basis u
released-seen u basis rising h = record {
  seen = found.pod;
  is_seen = subst (λ (v : Uid). find (λ (p : Pod). same_uid p.uid v) basis.pods ≡ Some found.pod) found.uid found.has;
  cause = by basis.job refl found.passes;
}
  where
    found : Found (λ pod. pod_among pod.uid basis.pods ≡ Some pod) (is_released basis) u
    found =
        some_in (λ pod. pod_among pod.uid basis.pods ≡ Some pod) (is_released basis) u basis.pods (rises-found 0 basis.pods rising)
        (ap (is_in u) (sym (plan-releases basis)) ∙ h)

    by : (o : Option Job) → basis.job ≡ o → (is_owed (due_uids o basis.pods) found.pod || is_orphan basis found.pod) ≡ true
        → IsSomeAnd o (λ job. is_in u (counted_in job basis.pods).releases ≡ true) ⊎ (is_orphan basis found.pod ≡ true)
    by None this g = one (or_cases (is_owed [] found.pod) (is_orphan basis found.pod) g)
      where
        one : (is_owed [] found.pod ≡ true) ⊎ (is_orphan basis found.pod ≡ true)
            → IsSomeAnd None (λ (job : Job). is_in u (counted_in job basis.pods).releases ≡ true) ⊎ (is_orphan basis found.pod ≡ true)
        one (inl due) = absurd (true≢false (sym (and_parts (is_tracked found.pod) false due).1))
        one (inr orphan) = inr orphan
    by (Some job) this g = one (or_cases (is_owed (due_uids (Some job) basis.pods) found.pod) (is_orphan basis found.pod) g)
      where
        one : (is_owed (due_uids (Some job) basis.pods) found.pod ≡ true) ⊎ (is_orphan basis found.pod ≡ true)
            → IsSomeAnd (Some job) (λ job. is_in u (counted_in job basis.pods).releases ≡ true) ⊎ (is_orphan basis found.pod ≡ true)
        one (inl due) =
            inl (subst (λ (v : Uid). is_in v (counted_in job basis.pods).releases ≡ true) found.uid
            (and_parts (is_tracked found.pod) (is_in found.pod.uid (counted_in job basis.pods).releases) due).1)
        one (inr orphan) = inr orphan
