-- A pod that a sync makes fits.
--     is_tracked_open pod    it is open and has the finalizer
--     IsMade shape act log notes pod    the act is a step of a sync whose Job has fewer pods than may run at once
use Rattle.std.specs.Prelude.{◌≡◌, ℕ, ◌<◌, Bool, ◌&&◌, List, length, filter, Some}
use Rattle.jc_log.specs.Acts as does
use Rattle.jc_types.specs.declared.objects.Entry.{Entry}
use Rattle.jc_types.specs.declared.objects.Job.{Job}
use Rattle.jc_types.specs.declared.objects.Pod.{Pod}
use Rattle.jc_types.specs.declared.runs.Shape.{Shape}
use Rattle.jc_types.specs.declared.specifications.Replacement.TheVariants.{FailedOnly}
use Rattle.jc_states.specs.declared.bases.Basis.{Basis}
use Rattle.jc_log.specs.Acts.{Act}
use Rattle.jc_log.specs.Log.{pods_of}
use Rattle.jc_states.specs.Pods.{is_open, is_tracked, is_tracked_active}
use Rattle.jc_history.specs.Notes.{Note}
use Rattle.jc_history.specs.Registers.{register}

-- The pod is open and has the finalizer.
abbrev pub is_tracked_open : Pod → Bool
is_tracked_open pod = is_open pod && is_tracked pod

-- The act is a step of a worker of the shape, whose sync makes the pod for the Job of its basis. That
-- Job has fewer active tracked pods than may run at once; where pods are replaced only once they have
-- ended, fewer open tracked ones.
pub record IsMade (shape : Shape) (act : Act) (log : List Entry) (notes : List Note) (pod : Pod)
    : Type 0 where
  pub worker : ℕ
  pub within : worker < shape.workers
  pub step : act ≡ does.Step 0 worker
  pub basis : Basis
  pub job : Job
  pub begun : register worker notes ≡ Some basis
  pub there : basis.job ≡ Some job
  pub owner : pod.owner_uid ≡ job.uid
  pub active : length (filter is_tracked_active (pods_of job.uid log)) < job.spec.parallelism
  pub ending : job.spec.replacement ≡ FailedOnly
      → length (filter is_tracked_open (pods_of job.uid log)) < job.spec.parallelism
