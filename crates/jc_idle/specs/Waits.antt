-- What a Job waits for whose plan asks for nothing.
--     AsksNothing plan     the plan has no request, and names no moment
--     HasEnough job pods   as many of the pods are active and tracked as the Job wants by its status
--     Waits job basis      an own pod is ending; or no target stands, and it is suspended, may run no pod, has as many
--                          active pods as it wants, or its pods are delayed for ever
use Rattle.std.specs.Prelude.{◌≡◌, ℕ, ◌≤◌, true, false, List, [], length, Some, None}
use Rattle.std.specs.List.{list_any}
use Rattle.jc_moment.specs.Range.{end_of_moments}
use Rattle.jc_types.specs.declared.objects.Job.{Job}
use Rattle.jc_types.specs.declared.objects.Pod.{Pod}
use Rattle.jc_states.specs.declared.bases.Basis.{Basis}
use Rattle.jc_states.specs.Bases.{own_pods}
use Rattle.jc_states.specs.Conditions.{has_target}
use Rattle.jc_states.specs.Pods.{is_ending, is_tracked_active, tracked_active_pods}
use Rattle.jc_manage.specs.Backoffs.{opening}
use Rattle.jc_manage.specs.Creations.{wanted}
use Rattle.jc_plan.specs.declared.plans.Planned.{Planned}
use Rattle.jc_plan.specs.Finishes.{Idles}

-- The plan has no request, and names no moment at which the key is to be synced again.
pub record AsksNothing (plan : Planned) : Type 0 where
  pub idles : Idles plan
  pub releases : plan.releases ≡ []
  pub next : plan.next ≡ None

-- As many of the pods are active and tracked as the Job wants: by its parallelism, its completions, and what its
-- status tells of successes and of failed indexes.
abbrev pub HasEnough : Job → List Pod → Type 0
HasEnough job pods =
    wanted job.spec.parallelism job.spec.completions job.status.succeeded
    (length job.status.failed_indexes) (length (tracked_active_pods pods))
    ≤ length (tracked_active_pods pods)

-- What the Job waits for.
pub data Waits (job : Job) (basis : Basis) : Type 0 where
  -- One of its pods is marked and still open.
  ForEnding : list_any is_ending (own_pods job basis.pods) ≡ true → Waits job basis
  -- No target stands, and it is suspended.
  ForResume : has_target job.status.conditions ≡ false → job.spec.suspend ≡ true → Waits job basis
  -- No target stands, and it may run no pod.
  ForRoom : has_target job.status.conditions ≡ false → job.spec.parallelism ≡ 0 → Waits job basis
  -- No target stands, and it has as many active pods as it wants, and one at least.
  ForActive : has_target job.status.conditions ≡ false
      → HasEnough job (own_pods job basis.pods)
      → list_any is_tracked_active (own_pods job basis.pods) ≡ true → Waits job basis
  -- No target stands, and it holds pods back past the last moment.
  ForEver : has_target job.status.conditions ≡ false
      → (second : ℕ) → opening basis.backoff ≡ Some second → end_of_moments ≤ second
      → Waits job basis
