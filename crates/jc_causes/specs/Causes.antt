-- Why a sync may ask what it asks, by what it saw of the cluster (batch/v1, KEP-2214, KEP-3850, KEP-3939).
--     is_decided job basis            how the Job ends is decided: a target stands, or the sync decides one
--     tracked_in job basis            the Job's pods that the sync sees active, with their finalizer
--     made_by steps                   how many pods the sync has asked for by these steps
--     MayMake job basis n index       a pod may be made, behind n others
--     MayMark job basis u             the pod may be marked at once
--     IsUnwanted job basis pod        the active pod is not wanted
--     MayLetGo job basis u            the pod may be let go
--     MayRelease basis u              the pod may be released
--     MayWrite job basis              a status may be written
--     MayAsk basis steps asked        the request has its cause, behind these steps
--     IsCaused shape past d           so has that of the deed, where it is a step of a sync
--     AreCaused shape deeds           so has that of each
use Rattle.std.specs.Prelude.{◌≡◌, ◌⊎◌, ℕ, ◌<◌, ◌-◌, Bool, true, false, ◌&&◌, List, [], ◌∷◌, length, Option, Some, None, IfSome, is_some, unwrap_or}
use Rattle.std.specs.List.{Contains, count_by}
use Rattle.std.specs.Option.{option_map_or}
use Rattle.jc_types.specs.Equality.{same_status}
use Rattle.jc_types.specs.declared.numbers.Uid.{Uid}
use Rattle.jc_types.specs.declared.objects.Job.{Job}
use Rattle.jc_types.specs.declared.objects.Pod.{Pod}
use Rattle.jc_types.specs.declared.replies.Answer.{Answer}
use Rattle.jc_types.specs.declared.replies.Reply.TheVariants.{Stepped}
use Rattle.jc_types.specs.declared.replies.Request.{Request}
use Rattle.jc_types.specs.declared.replies.Request.TheVariants as request
use Rattle.jc_types.specs.declared.runs.Shape.{Shape}
use Rattle.jc_types.specs.declared.specifications.Mode.TheVariants.{Indexed}
use Rattle.jc_states.specs.Bases.{own_pods}
use Rattle.jc_states.specs.declared.bases.Basis.{Basis}
use Rattle.jc_states.specs.Pods.{is_active, is_tracked, tracked_active_pods}
use Rattle.jc_log.specs.Acts as does
use Rattle.jc_log.specs.Deeds.{Deed}
use Rattle.jc_manage.specs.Backoffs.{is_delayed_until, opening}
use Rattle.jc_manage.specs.Creations.{is_free, job_lacks, job_wants, keepers}
use Rattle.jc_manage.specs.LetGoes.{is_doubled, is_needless, is_one_of, remaining}
use Rattle.jc_manage.specs.Planned.{backoff_in}
use Rattle.jc_plan.specs.Releases.{due_uids, is_orphan, is_owed}
use Rattle.jc_plan.specs.Statuses.{accounted, decided_in, first_value, is_end_decided, second_value}
use Rattle.jc_history.specs.Registers.{made, register}
use Rattle.jc_history.specs.Replies.{diary}

-- How the Job ends is decided: a target stands, or the sync decides one now, by a policy, a limit, the deadline, or since
-- enough pods have succeeded.
abbrev pub is_decided : Job → Basis → Bool
is_decided job basis = is_end_decided job (decided_in job basis)

-- The Job's own pods that the sync sees active, and with their finalizer.
abbrev pub tracked_in : Job → Basis → List Pod
tracked_in job basis = tracked_active_pods (own_pods job basis.pods)

-- The Job's completions, 0 where it has none.
abbrev pub wanted_successes : Job → ℕ
wanted_successes job = unwrap_or job.spec.completions 0

-- ---- pods that are made

-- The index is below the completions; it is neither completed nor failed, and no pod that the sync sees keeps it.
pub record IsFreeIndex (job : Job) (basis : Basis) (index : ℕ) : Type 0 where
  pub below : index < wanted_successes job
  pub free : is_free (accounted job basis) (keepers job.spec.replacement (own_pods job basis.pods)) index ≡ true

-- The request makes a pod.
abbrev pub makes_pod : Request → Bool
makes_pod (request.CreatePod index) = true
makes_pod other = false

-- How many pods the sync has asked for by these steps.
abbrev pub made_by : List (Request × Answer) → ℕ
made_by steps = count_by (λ step. makes_pod step.0) steps

-- A pod may be made, behind n others of the sync: how the Job ends is not decided, and it is not suspended; it lacks more
-- than these, by what it wants, what it has, and the completions that are left; no delay after failures holds its pods
-- back; and a pod of an Indexed Job has a free index.
pub record MayMake (job : Job) (basis : Basis) (n : ℕ) (index : Option ℕ) : Type 0 where
  pub undecided : is_decided job basis ≡ false
  pub resumed : job.spec.suspend ≡ false
  pub lacking : n < job_lacks job (own_pods job basis.pods) (accounted job basis)
  pub due : is_delayed_until (opening (backoff_in basis (accounted job basis))) basis.now ≡ false
  pub numbered : job.spec.mode ≡ Indexed → is_some index ≡ true
  pub free : IfSome index (IsFreeIndex job basis)

-- ---- pods that are stopped

-- A pod of the Job may be marked at once: it is active, and how its Job ends is decided, or it has no finalizer.
pub record MayMark (job : Job) (basis : Basis) (u : Uid) : Type 0 where
  pub pod : Pod
  pub seen : Contains (own_pods job basis.pods) pod
  pub uid : pod.uid ≡ u
  pub active : is_active pod ≡ true
  pub cause : (is_decided job basis ≡ true) ⊎ (is_tracked pod ≡ false)

-- Why an active pod is not wanted: its Job is suspended; its index is completed, has failed or is past the completions;
-- an older pod holds its index; or more pods are active than the Job wants, and it is one of the first to go.
pub data IsUnwanted (job : Job) (basis : Basis) (pod : Pod) : Type 0 where
  IsOfSuspended : job.spec.suspend ≡ true → IsUnwanted job basis pod
  IsOfNoUse : job.spec.mode ≡ Indexed
      → option_map_or (is_needless (wanted_successes job) (accounted job basis)) pod.index false ≡ true
      → IsUnwanted job basis pod
  IsDoubled : job.spec.mode ≡ Indexed → is_doubled (tracked_in job basis) pod ≡ true → IsUnwanted job basis pod
  IsTooMany : (rest : List Pod)
      → rest ≡ remaining job.spec.mode (is_needless (wanted_successes job) (accounted job basis)) (tracked_in job basis)
      → is_one_of (length rest - job_wants job (own_pods job basis.pods) (accounted job basis)) job.spec.mode rest pod
      ≡ true → IsUnwanted job basis pod

-- A pod of the Job may be let go: it is active and has its finalizer, how its Job ends is not decided, and it is not
-- wanted.
pub record MayLetGo (job : Job) (basis : Basis) (u : Uid) : Type 0 where
  pub pod : Pod
  pub seen : Contains (tracked_in job basis) pod
  pub uid : pod.uid ≡ u
  pub undecided : is_decided job basis ≡ false
  pub unwanted : IsUnwanted job basis pod

-- ---- pods that are released, statuses

-- A pod may be released: it has its finalizer, and the sync's Job counts it or needs no count of it; or it is an orphan.
pub record MayRelease (basis : Basis) (u : Uid) : Type 0 where
  pub pod : Pod
  pub seen : Contains basis.pods pod
  pub uid : pod.uid ≡ u
  pub cause : (is_owed (due_uids basis.job basis.pods) pod ≡ true) ⊎ (is_orphan basis pod ≡ true)

-- A status may be written: one of the sync's two changes the Job's.
pub record MayWrite (job : Job) (basis : Basis) : Type 0 where
  pub changes : (same_status job.status (first_value job basis)
      && same_status (first_value job basis) (second_value job basis)) ≡ false

-- ---- requests

-- The request has its cause behind so many pods that were made, where this is the Job that the sync sees. Of a Job that is
-- gone pods are released alone. A pod that may be let go is marked next.
abbrev pub MayAskOf : Option Job → Basis → ℕ → Request → Type 0
MayAskOf job basis n (request.Release u) = MayRelease basis u
MayAskOf None basis n other = ⊥
MayAskOf (Some job) basis n (request.CreatePod index) = MayMake job basis n index
MayAskOf (Some job) basis n (request.MarkPod u) = MayMark job basis u ⊎ MayLetGo job basis u
MayAskOf (Some job) basis n (request.LetGo u) = MayLetGo job basis u
MayAskOf (Some job) basis n request.Status = MayWrite job basis

-- The request of a sync that began on this basis has its cause behind these steps.
abbrev pub MayAsk : Basis → List (Request × Answer) → Request → Type 0
MayAsk basis steps asked = MayAskOf basis.job basis (made_by steps) asked

-- Where the deed is a step of a worker's sync, its request has a cause in what the sync saw.
abbrev pub IsCaused : Shape → List Deed → Deed → Type 0
IsCaused shape past d =
    (c w : ℕ) (asked : Request) (given : Answer) (basis : Basis)
    → d.act ≡ does.Step c w → d.reply ≡ Stepped asked given
    → register w (diary shape c past) ≡ Some basis
    → MayAsk basis (made w (diary shape c past)) asked

-- So it is with each deed.
abbrev pub AreCaused : Shape → List Deed → Type 0
AreCaused shape [] = Unit {0}
AreCaused shape (d ∷ past) = IsCaused shape past d × AreCaused shape past
