-- Which pods lose their finalizer by a sync (KEP-2307).
--     is_orphan basis pod       it is tracked and foreign, and was written no later than what the Job cache has
--     due_uids job pods         the UIDs of the pods that the Job is to release
--     is_owed due pod           it has the finalizer, and its UID is one of these
--     is_released basis pod     it loses its finalizer
--     ReleasedPod basis u       a pod of the UID loses its finalizer, as it was seen
--     releases_of basis         the UIDs of these, in the order of the pods
use Rattle.std.specs.Prelude.{◌≡◌, ◌⊎◌, IsSomeAnd, find, nat_le, Bool, true, ◌&&◌, ◌||◌, List, [], filter, Option, Some, None}
use Rattle.jc_types.specs.declared.numbers.Uid.{Uid}
use Rattle.jc_types.specs.declared.objects.Job.{Job}
use Rattle.jc_types.specs.declared.objects.Pod.{Pod}
use Rattle.jc_states.specs.declared.bases.Basis.{Basis}
use Rattle.jc_types.specs.Keys.{same_uid}
use Rattle.jc_states.specs.Owners.{is_foreign}
use Rattle.jc_states.specs.Pods.{is_tracked}
use Rattle.jc_states.specs.UidLists.{is_in, uids_of}
use Rattle.jc_account.specs.Accounts.{counted_in}

-- The pod is an orphan: it has the finalizer and its Job is gone. A Job that a cache has not seen yet is not
-- gone: so the cache of Jobs has to be at least as new as the pod.
abbrev pub is_orphan : Basis → Pod → Bool
is_orphan basis pod = is_tracked pod && (is_foreign basis.job pod && nat_le pod.version.0 basis.jobs_at.0)

-- The UIDs of the pods that the Job is to release, of all pods that the sync sees.
abbrev pub due_uids : Option Job → List Pod → List Uid
due_uids None pods = []
due_uids (Some job) pods = (counted_in job pods).releases

-- The pod has the finalizer, and the Job is to release it.
abbrev pub is_owed : List Uid → Pod → Bool
is_owed due pod = is_tracked pod && is_in pod.uid due

-- The pod loses its finalizer.
abbrev pub is_released : Basis → Pod → Bool
is_released basis pod = is_owed (due_uids basis.job basis.pods) pod || is_orphan basis pod

-- The UIDs of the pods that lose their finalizer, in the order of the pods.
abbrev pub releases_of : Basis → List Uid
releases_of basis = uids_of (filter (is_released basis) basis.pods)

-- A pod of the UID loses its finalizer, as the sync saw it: it is found by its UID, and either is counted by the Job
-- or an orphan.
pub record ReleasedPod (basis : Basis) (u : Uid) : Type 0 where
  pub seen : Pod
  pub is_seen : find (λ (pod : Pod). same_uid pod.uid u) basis.pods ≡ Some seen
  pub cause : IsSomeAnd basis.job (λ job. is_in u (counted_in job basis.pods).releases ≡ true)
      ⊎ (is_orphan basis seen ≡ true)
