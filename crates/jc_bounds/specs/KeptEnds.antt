-- What a history keeps of a Job that has ended.
--     HasNothingOpen log job       nothing is listed, and its pods are closed
--     IsLeftAlone log log' k job   the deed makes no pod of it and does not change its status
--     StatusesStand log            its status is the same at each later version
use Rattle.std.specs.Prelude.{◌≡◌, ℕ, true, List, ◌∷◌, Some}
use Rattle.jc_types.specs.declared.objects.Entry.TheVariants.{PodPut}
use Rattle.jc_types.specs.declared.objects.Entry.{Entry}
use Rattle.jc_types.specs.declared.objects.Job.{Job}
use Rattle.jc_types.specs.declared.objects.KeyNames.{KeyNames as Key}
use Rattle.jc_types.specs.declared.objects.Pod.{Pod}
use Rattle.jc_states.specs.Conditions.{has_end}
use Rattle.jc_log.specs.Log.{Never, job_in, life, pods_of, upto}
use Rattle.jc_bounds.specs.Final.{IsClosed}
use Rattle.jc_plan.specs.Finishes.{IsFinalStatus}

-- Nothing is listed, and none of its pods is open or has its finalizer.
pub record HasNothingOpen (log : List Entry) (job : Job) : Type 0 where
  pub final : IsFinalStatus job.status
  pub closed : IsClosed (pods_of job.uid log)

-- From the one log to the other no pod of the Job is made and its status does not change.
pub record IsLeftAlone (log log' : List Entry) (k : Key) (job : Job) : Type 0 where
  pub unmade : (pod : Pod) → log' ≡ PodPut pod ∷ log → life pod.uid log ≡ Never
      → pod.owner_uid ≡ job.uid → ⊥
  pub status : (new : Job) → job_in k log' ≡ Some new → new.uid ≡ job.uid → new.status ≡ job.status

-- A Job that had ended at an earlier version has the same status now.
abbrev pub StatusesStand : List Entry → Type 0
StatusesStand log =
    (m : ℕ) (k : Key) (old new : Job)
    → job_in k (upto m log) ≡ Some old → has_end old.status.conditions ≡ true
    → job_in k log ≡ Some new → new.uid ≡ old.uid → new.status ≡ old.status
