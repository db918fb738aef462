-- What a Job waits for where nothing is left to do.
--     IsHalted deeds backoff log job     it waits for what only the outside can give
--     IsWaiting deeds backoff log job    it has ended; or no target stands, and it is halted
--     skips note older         the pod cache skips entries of the log
--     is_sure k notes          the key was added since the pod cache last skipped entries
--     NoneIsStuck shape deeds log        each Job so waits of whose key a controller is sure
use Rattle.std.specs.Prelude.{◌≡◌, ℕ, ◌≤◌, Bool, true, false, not, ◌&&◌, ◌<◌, ◌||◌, List, [], ◌∷◌, Some, None, nat_lt}
use Rattle.std.specs.Option.{option_map_or}
use Rattle.std.specs.List.{Contains}
use Rattle.jc_control.specs.ControllerCalls.{forgets_caches}
use Rattle.jc_log.specs.Range.{end_of_moments}
use Rattle.jc_control.specs.Queued.{has_key}
use Rattle.jc_types.specs.declared.objects.Entry.{Entry}
use Rattle.jc_types.specs.declared.objects.Job.{Job}
use Rattle.jc_types.specs.declared.objects.KeyNames.{KeyNames as Key}
use Rattle.jc_types.specs.declared.objects.Kind.TheVariants.{Pods}
use Rattle.jc_types.specs.declared.objects.Pod.{Pod}
use Rattle.jc_types.specs.declared.syncs.Backoff.{Backoff}
use Rattle.jc_types.specs.declared.runs.Shape.{Shape}
use Rattle.jc_states.specs.Conditions.{has_end, has_target}
use Rattle.jc_states.specs.Pods.{is_active}
use Rattle.jc_log.specs.Deeds.{Deed}
use Rattle.jc_log.specs.Log.{job_in, pods_of}
use Rattle.jc_plan.specs.Backoffs.{opening}
use Rattle.jc_idle.specs.Waits.{HasEnough}
use Rattle.jc_history.specs.Diaries.{notes as notes_of}
use Rattle.jc_history.specs.Lines.{adds}
use Rattle.jc_history.specs.Nodes.{fate, pod_end}
use Rattle.jc_history.specs.Notes.{Note, Listed, Expired, Ended}
use Rattle.jc_history.specs.Numbers.{number}
use Rattle.jc_history.specs.Registers.{backoff as backoff_of}

-- What nothing in the cluster brings about. The backoff is that of the Job's key in a controller.
pub data IsHalted (deeds : List Deed) (backoff : Backoff) (log : List Entry) (job : Job) : Type 0
  where
    -- It is suspended.
    IsSuspended : job.spec.suspend ≡ true → IsHalted deeds backoff log job
    -- It may run no pod.
    MayRunNone : job.spec.parallelism ≡ 0 → IsHalted deeds backoff log job
    -- It has as many active pods as it wants, and nothing says how one of them will end.
    HasPods : HasEnough job (pods_of job.uid log) → (pod : Pod)
        → Contains (pods_of job.uid log) pod → is_active pod ≡ true
        → pod_end (fate deeds) pod ≡ None → IsHalted deeds backoff log job
    -- The second before which the controller makes no pod for it lies past the last moment.
    IsHeldBack : (second : ℕ) → opening backoff ≡ Some second → end_of_moments ≤ second
        → IsHalted deeds backoff log job

-- The Job has ended; or how it will end is not decided, and it waits for what only the outside can give. So one whose
-- end is decided has come to it.
pub data IsWaiting (deeds : List Deed) (backoff : Backoff) (log : List Entry) (job : Job) : Type 0
  where
    -- It is complete, or it has failed.
    HasEnded : has_end job.status.conditions ≡ true → IsWaiting deeds backoff log job
    -- No target stands, and it is halted.
    IsOpen : has_target job.status.conditions ≡ false → IsHalted deeds backoff log job
        → IsWaiting deeds backoff log job

-- ---- what a controller may have missed

-- The pod cache skips entries: it loses its place in the log, or it is listed anew at a later one. What became of
-- a pod in between, and that it is gone by now, is told to nobody.
abbrev pub skips : Note → List Note → Bool
skips (Expired Pods) older = true
skips (Listed Pods at keys) older =
    option_map_or (λ before. nat_lt before.0 at.0) (number Pods older) false
skips (Ended worker basis end now) older = forgets_caches end
skips note older = false

-- Since the pod cache last skipped entries the key was added to the line: by a list of the Jobs, by one of pods
-- with a pod of the key, by a delivery, by the clock, or as a begin found a cache behind. So it is too where the cache
-- never skipped any.
abbrev pub is_sure : Key → List Note → Bool
is_sure k [] = true
is_sure k (note ∷ older) = has_key k (adds note older) || not (skips note older) && is_sure k older

-- Each Job that is there waits so, or has ended, for each controller that has added its key since its pod cache last
-- skipped entries of the log.
abbrev pub NoneIsStuck : Shape → List Deed → List Entry → Type 0
NoneIsStuck shape deeds log = (c : ℕ) → c < shape.controllers
    → (k : Key) (job : Job) → job_in k log ≡ Some job → is_sure k (notes_of shape c deeds log) ≡ true
    → IsWaiting deeds (backoff_of k (notes_of shape c deeds log)) log job
