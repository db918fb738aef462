-- How many of the pods of one owner are in a state, as a list of pods keeps it for each owner.
--     restarts_in pod           the restarts of all containers of the pod
--     open_restarts pod         the same of an open pod, and 0 of another
--     restarts_of pods          the restarts of the open pods
--     pods_for owner pods       the pods that were made for the owner of the UID, in their order
--     tally_as owner pods       the numbers of the pods, as those of the owner
--     tally_of owner pods       the numbers of the pods that were made for the owner
--     no_pods owner             the numbers of an owner without pods
--     tally_with t pod          the numbers with one more pod of the owner
--     tally_without t pod       the numbers without this pod of the owner
--     with_pod owner pod t      the numbers of the owner with one more pod, whose it may be
--     without_pod owner pod t   the numbers of the owner without this pod, whose it may be
--     tally_in owner rows       the row of the owner, and where there is none the numbers of no pods
--     AreTallied pods rows      the row of each owner is its tally
--     HasFewRestarts pod        its restarts, where it is open, are below 2 ^ 96
--     HasRoom t                 one more pod can be entered
--     CountsPod t pod           the numbers count the pod
--     KeepsTallies pods rows    what a list of pods with its rows keeps
use Rattle.std.specs.Prelude.{◌≡◌, ℕ, ◌+◌, ◌-◌, ◌<◌, ◌≤◌, ◌^◌, List, [], All, filter, length, sum_by, unwrap_or, if◌then◌else◌}
use Rattle.std.specs.Map.{lookup}
use Rattle.jc_types.specs.declared.numbers.Uid.{Uid}
use Rattle.jc_types.specs.declared.objects.Pod.{Pod}
use Rattle.jc_types.specs.Keys.{same_uid}
use Rattle.jc_states.specs.declared.tallies.Tally.{Tally}
use Rattle.jc_states.specs.PodLists.{IsRising}
use Rattle.jc_states.specs.Pods.{active_pods, ending_pods, is_active, is_ending, is_open, is_ready, is_tracked_active, tracked_active_pods}

-- The restarts of all containers of the pod.
abbrev pub restarts_in : Pod → ℕ
restarts_in pod = sum_by (λ container. container.restarts) pod.containers

-- The restarts of all containers of the pod where it is open.
abbrev pub open_restarts : Pod → ℕ
open_restarts pod = if is_open pod then restarts_in pod else 0

-- The restarts of all containers of the open pods.
abbrev pub restarts_of : List Pod → ℕ
restarts_of pods = sum_by restarts_in (filter is_open pods)

-- The pods that were made for the owner of the UID.
abbrev pub pods_for : Uid → List Pod → List Pod
pods_for owner pods = filter (λ pod. same_uid pod.owner_uid owner) pods

-- The numbers of these pods, as those of the owner of the UID.
abbrev pub tally_as : Uid → List Pod → Tally
tally_as owner pods =
    record {
      owner = owner;
      pods = length pods;
      open_pods = length (filter is_open pods);
      active = length (active_pods pods);
      active_tracked = length (tracked_active_pods pods);
      open_marked = length (ending_pods pods);
      ready = length (filter is_ready pods);
      restarts = restarts_of pods;
    }

-- The numbers of the pods that were made for the owner of the UID.
abbrev pub tally_of : Uid → List Pod → Tally
tally_of owner pods = tally_as owner (pods_for owner pods)

-- The numbers of an owner without pods.
abbrev pub no_pods : Uid → Tally
no_pods owner = tally_as owner []

-- The numbers with one more pod of the owner.
abbrev pub tally_with : Tally → Pod → Tally
tally_with t pod =
    record {
      owner = t.owner;
      pods = t.pods + 1;
      open_pods = t.open_pods + (if is_open pod then 1 else 0);
      active = t.active + (if is_active pod then 1 else 0);
      active_tracked = t.active_tracked + (if is_tracked_active pod then 1 else 0);
      open_marked = t.open_marked + (if is_ending pod then 1 else 0);
      ready = t.ready + (if is_ready pod then 1 else 0);
      restarts = t.restarts + open_restarts pod;
    }

-- The numbers without this pod of the owner.
abbrev pub tally_without : Tally → Pod → Tally
tally_without t pod =
    record {
      owner = t.owner;
      pods = t.pods - 1;
      open_pods = t.open_pods - (if is_open pod then 1 else 0);
      active = t.active - (if is_active pod then 1 else 0);
      active_tracked = t.active_tracked - (if is_tracked_active pod then 1 else 0);
      open_marked = t.open_marked - (if is_ending pod then 1 else 0);
      ready = t.ready - (if is_ready pod then 1 else 0);
      restarts = t.restarts - open_restarts pod;
    }

-- The numbers of the owner with one more pod, which counts where it was made for the owner.
abbrev pub with_pod : Uid → Pod → Tally → Tally
with_pod owner pod t = if same_uid pod.owner_uid owner then tally_with t pod else t

-- The numbers of the owner without this pod, which counts where it was made for the owner.
abbrev pub without_pod : Uid → Pod → Tally → Tally
without_pod owner pod t = if same_uid pod.owner_uid owner then tally_without t pod else t

-- The row of the owner; where there is none, the numbers of no pods.
abbrev pub tally_in : Uid → List (Uid × Tally) → Tally
tally_in owner rows = unwrap_or (lookup (same_uid owner) rows) (no_pods owner)

-- The rows are the tallies of the pods.
abbrev pub AreTallied : List Pod → List (Uid × Tally) → Type 0
AreTallied pods rows = (owner : Uid) → tally_in owner rows ≡ tally_of owner pods

-- Its restarts, where it is open, are fewer than 2 ^ 64 containers of 32 bits have.
abbrev pub HasFewRestarts : Pod → Type 0
HasFewRestarts pod = open_restarts pod < 2 ^ 96

-- One more pod can be entered: the numbers fit their types with it.
pub record HasRoom (t : Tally) : Type 0 where
  pub pods : t.pods + 1 < 2 ^ 32
  pub open_pods : t.open_pods + 1 < 2 ^ 32
  pub active : t.active + 1 < 2 ^ 32
  pub active_tracked : t.active_tracked + 1 < 2 ^ 32
  pub open_marked : t.open_marked + 1 < 2 ^ 32
  pub ready : t.ready + 1 < 2 ^ 32
  pub restarts : t.restarts + 2 ^ 96 < 2 ^ 128

-- The numbers count the pod: each is at least what the pod adds to it.
pub record CountsPod (t : Tally) (pod : Pod) : Type 0 where
  pub pods : 1 ≤ t.pods
  pub open_pods : (if is_open pod then 1 else 0) ≤ t.open_pods
  pub active : (if is_active pod then 1 else 0) ≤ t.active
  pub active_tracked : (if is_tracked_active pod then 1 else 0) ≤ t.active_tracked
  pub open_marked : (if is_ending pod then 1 else 0) ≤ t.open_marked
  pub ready : (if is_ready pod then 1 else 0) ≤ t.ready
  pub restarts : open_restarts pod ≤ t.restarts

-- What a list of pods keeps with its rows: the pods are in ascending UID and below 2 ^ 32, no
-- number grows too large, and the rows are their tallies.
pub record KeepsTallies (pods : List Pod) (rows : List (Uid × Tally)) : Type 0 where
  pub rising : IsRising pods
  pub few : length pods < 2 ^ 32
  pub small : All HasFewRestarts pods
  pub tallied : AreTallied pods rows
