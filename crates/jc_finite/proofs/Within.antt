-- How often containers have restarted between two turns of a settle: each less often than a bound, or a sync comes first.
use Rattle.std.specs.Prelude.{◌≡◌, ◌⊎◌, ℕ, ◌<◌, ◌≤◌, true, List, Some}
use Rattle.std.specs.List.{AllByRecursion as Each}
use Rattle.jc_types.specs.declared.objects.Job.{Job}
use Rattle.jc_types.specs.declared.objects.KeyNames.{KeyNames as Key}
use Rattle.jc_types.specs.declared.objects.Pod.{Pod}
use Rattle.jc_types.specs.declared.runs.Shape.{Shape}
use Rattle.jc_states.specs.Pods.{is_active}
use Rattle.jc_log.specs.Deeds.{Deed}
use Rattle.jc_log.specs.Log.{job_in, pods_in}
use Rattle.jc_remaining.specs.Decisions.{restarts_on_failure}
use Rattle.jc_restarts.specs.Lines.{is_dirty}
use Rattle.jc_runs.specs.Replies.{diary, log_given}
use Rattle.jc_settle.specs.Left.{first_restarts}
use Rattle.jc_restarts.specs.Restarts.{HasItsJob, too_many}

-- A controller has the key in its queue: the key was added since it was last taken.
pub record IsInQueue (shape : Shape) (past : List Deed) (key : Key) : Type 0 where
  pub controller : ℕ
  pub within : controller < shape.controllers
  pub dirty : is_dirty key (diary shape controller past) ≡ true

-- Where the pod is active, its containers restart after a failure and its Job is there, its first container has restarted
-- less often than the bound; or its key is in a queue, so that a sync comes before the node does anything.
abbrev pub RestartsWithin : Shape → List Deed → ℕ → Pod → Type 0
RestartsWithin shape past most pod =
    is_active pod ≡ true → restarts_on_failure pod.restart ≡ true → HasItsJob (log_given shape past) pod
    → (first_restarts pod < most) ⊎ IsInQueue shape past pod.owner

-- So it is of each pod, and restarts that are too many for a Job that is there are at most the bound.
pub record AllWithin (shape : Shape) (past : List Deed) (most : ℕ) : Type 0 where
  pub limits : (key : Key) (job : Job) → job_in key (log_given shape past) ≡ Some job → too_many job ≤ most
  pub pods : Each (RestartsWithin shape past most) (pods_in (log_given shape past))
