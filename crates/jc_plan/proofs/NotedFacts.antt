-- The pods that lose their finalizer are among those at which a sync has to look, and the UIDs by which they are found
-- ascend.
use Rattle.std.proofs.Common.{◌≡◌, inl, inr, Bool, true, false, not, nat_le, ◌&&◌, ◌||◌, List, filter, length, Option, None, Some, refl, ap, sym, ◌∙◌, arith, true≢false}
use Rattle.std.proofs.lemmas.Bool.{and_parts, or_cases}
use Rattle.std.specs.List.{AllByRecursion as Each}
use Rattle.std.proofs.lemmas.List.{nil_from_length}
use Rattle.std.proofs.lemmas.List.Filters.{length-filter_both}
use Rattle.jc_types.specs.declared.numbers.Uid.{Uid}
use Rattle.jc_types.specs.declared.objects.Job.{Job}
use Rattle.jc_types.specs.declared.objects.Pod.{Pod}
use Rattle.jc_types.proofs.ListFacts.{Each-both, Each-passes, Each-weaker, filter_all, filter_same, filter_within}
use Rattle.jc_states.specs.declared.bases.Basis.{Basis}
use Rattle.jc_states.specs.Bases.{is_own, own_pods}
use Rattle.jc_states.specs.Noted.{needs_look}
use Rattle.jc_states.specs.Owners.{is_foreign}
use Rattle.jc_states.specs.Pods.{is_tracked}
use Rattle.jc_states.specs.PodLists.{IsRising}
use Rattle.jc_states.proofs.PodListFacts.{rises_filter}
use Rattle.jc_states.specs.Tallies.{pods_for}
use Rattle.jc_states.specs.UidLists.{Ascends, is_in, uids_of}
use Rattle.jc_states.proofs.AtOddsFacts.{noted-in, noted-other}
use Rattle.jc_account.specs.Accounts.{counted_in}
use Rattle.jc_account.specs.Judged.{is_to_release}
use Rattle.jc_account.proofs.AccountFacts.{release-order}
use Rattle.jc_states.proofs.PickedFacts.{picked_uids}
use Rattle.jc_plan.proofs.LeftFacts.{none-passes}
use Rattle.jc_plan.specs.Releases.{due_uids, is_orphan, is_owed, is_released, releases_of}

module _ (basis : Basis) (job : Job) (due more : List Uid) (this : basis.job ≡ Some job) (are : due ≡ due_uids basis.job basis.pods) where
  -- One that the Job is to release is among those to look at by its UID, and an orphan by its owner.
  released-noted : (pod : Pod) → is_released basis pod ≡ true → needs_look job.uid due more pod ≡ true
  released-noted pod h =
      elim (or_cases (is_owed (due_uids basis.job basis.pods) pod) (is_orphan basis pod) h) [
        | inl o ↦ noted-in job.uid due more pod (ap (is_in pod.uid) are ∙ (and_parts (is_tracked pod) (is_in pod.uid (due_uids basis.job basis.pods)) o).1)
        | inr o ↦
            let foreign = and_parts (is_foreign basis.job pod) (nat_le pod.version.0 basis.jobs_at.0) (and_parts (is_tracked pod) (is_foreign basis.job pod && nat_le pod.version.0 basis.jobs_at.0) o).1 in
            noted-other job.uid due more pod (ap (λ owner. is_foreign owner pod) (sym this) ∙ foreign.0)
      ]

  -- So they are the same of the pods to look at as of all.
  pub releases-noted : uids_of (filter (is_released basis) (filter (needs_look job.uid due more) basis.pods)) ≡ releases_of basis
  releases-noted = ap uids_of (filter_within (is_released basis) (needs_look job.uid due more) released-noted basis.pods)

-- The UIDs that the Job is to release ascend.
pub due-ascends : (job : Option Job) (pods : List Pod) → IsRising pods → Ascends (due_uids job pods)
due-ascends None pods rising = tt
due-ascends (Some job) pods rising = release-order job pods rising

-- ---- where all pods are the Job's

-- Where all pods are the Job's, just those lose their finalizer that it is to release: none is an orphan.
pub just-due : (basis : Basis) (job : Job) → IsRising basis.pods → basis.job ≡ Some job → length (pods_for job.uid basis.pods) ≡ length basis.pods
    → releases_of basis ≡ due_uids basis.job basis.pods
unfolding counted_in
just-due basis job rising this all =
    ap (λ pods. uids_of (filter (is_released basis) pods)) (sym whole)
    ∙ ap uids_of (filter_same (is_released basis) goes own each-same)
    ∙ sym due
  where
    own : List Pod
    own = own_pods job basis.pods

    goes : Pod → Bool
    goes pod = is_to_release job own pod

    due : due_uids basis.job basis.pods ≡ uids_of (filter goes own)
    due = ap (λ owner. due_uids owner basis.pods) this

    each-own : Each (λ pod. is_foreign (Some job) pod ≡ false) basis.pods
    each-own = none-passes (is_foreign (Some job)) basis.pods
        (nil_from_length (filter (is_foreign (Some job)) basis.pods) (omega (arith, all, length-filter_both (is_own job) (is_foreign (Some job)) (λ pod. refl) basis.pods)))

    mine : (b : Bool) → not b ≡ false → b ≡ true
    mine true h = refl
    mine false h = absurd (true≢false h)

    whole : own ≡ basis.pods
    whole = filter_all (is_own job) basis.pods (Each-weaker (λ pod. is_foreign (Some job) pod ≡ false) (λ pod. is_own job pod ≡ true) (λ pod h. mine (is_own job pod) h) basis.pods each-own)

    last : (t b n : Bool) → (b ≡ true → t ≡ true) → ((t && b) || (t && (false && n))) ≡ b
    last true true n h = refl
    last true false n h = refl
    last false true n h = h refl
    last false false n h = refl

    same : (pod : Pod) → is_own job pod ≡ true → is_in pod.uid (uids_of (filter goes own)) ≡ goes pod → is_released basis pod ≡ goes pod
    same pod h among =
        ap (λ b. (is_tracked pod && b) || is_orphan basis pod) (ap (is_in pod.uid) due ∙ among)
        ∙ ap (λ b. (is_tracked pod && goes pod) || (is_tracked pod && (b && nat_le pod.version.0 basis.jobs_at.0))) (ap (λ owner. is_foreign owner pod) this ∙ ap not h)
        ∙ last (is_tracked pod) (goes pod) (nat_le pod.version.0 basis.jobs_at.0) (λ t. (and_parts (is_tracked pod) _ t).0)

    each-same : Each (λ pod. is_released basis pod ≡ goes pod) own
    each-same =
        Each-weaker (λ pod. (is_own job pod ≡ true) × (is_in pod.uid (uids_of (filter goes own)) ≡ goes pod)) (λ pod. is_released basis pod ≡ goes pod) (λ pod h. same pod h.0 h.1) own
        (Each-both (λ pod. is_own job pod ≡ true) (λ pod. is_in pod.uid (uids_of (filter goes own)) ≡ goes pod) own
        (Each-passes (is_own job) basis.pods) (picked_uids goes 0 own (rises_filter 0 (is_own job) basis.pods rising)))
