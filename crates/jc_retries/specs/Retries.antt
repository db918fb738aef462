-- How many pods a Job may still make, at most, where its pods fail and nobody interferes. Each failure that counts uses up
-- one of those that the backoff limit allows; and of the failures that the policy ignores there are no more than ends to
-- come, where the last one is not ignored. `own`, `ends` and `made` are as in `jc_making`.
--     has_failed_for_good job pod    the pod has failed, and that counts
--     new_failures job own       the Job's tracked pods that have failed so, and are not listed
--     pods_failed job own        how many of its pods have failed, whether the status says it already or not
--     is_spent job own           more than the backoff limit allows
--     failures_left job own      failures that are left until then
--     started pod                the pod, once the node has started it
--     ended_by end pod           the pod, once the node has let it end so
--     is_ignored_end spec end pod    the policy then ignores its failure
--     will_be_ignored ends job pod   so an active pod is to end
--     ignored_left ends made job own     ends to come that are ignored, at most
--     may_be_retried ends made job own, creations_allowed ends made job own    how many pods may still be made
--     CountsAtLast ends spec     the last of the ends is not ignored
use Rattle.std.specs.Prelude.{◌≡◌, ℕ, ◌+◌, ◌-◌, min, nat_lt, Bool, false, ◌&&◌, ◌||◌, if◌then◌else◌, List, [], filter, length, drop, IfSome}
use Rattle.std.specs.Option.{option_map_or}
use Rattle.jc_types.specs.declared.actions.End.{End}
use Rattle.jc_types.specs.declared.objects.Job.{Job}
use Rattle.jc_types.specs.declared.objects.Pod.{Pod}
use Rattle.jc_types.specs.declared.specifications.JobSpec.{JobSpec}
use Rattle.jc_log.specs.Requests.{with_report}
use Rattle.jc_states.specs.Conditions.{has_target}
use Rattle.jc_states.specs.Pods.{is_pending, tracked_active_pods}
use Rattle.jc_failpol.specs.declared.outcomes.Outcome.TheVariants.{Failed, Ignored}
use Rattle.jc_failpol.specs.Outcomes.{is_failed, outcome_of, same_outcome}
use Rattle.jc_account.specs.Judged.{candidates}
use Rattle.jc_making.specs.Grants.{as_new}
use Rattle.jc_making.specs.Making.{of_use, places}
use Rattle.jc_making.specs.Nodes.{end_at, finishes, last_end, start_change}

-- ---- failures that count

-- The pod has failed, and that counts. One that is only marked may still end so that the policy ignores it.
abbrev pub has_failed_for_good : Job → Pod → Bool
has_failed_for_good job pod = is_failed pod.phase && same_outcome (outcome_of job.spec pod) Failed

-- The Job's tracked pods that have failed so, and are not listed.
abbrev pub new_failures : Job → List Pod → List Pod
new_failures job own = filter (has_failed_for_good job) (candidates job own)

-- How many of its pods have failed: the total, those that are listed, and the new ones.
abbrev pub pods_failed : Job → List Pod → ℕ
pods_failed job own =
    job.status.failed + length job.status.uncounted_failed + length (new_failures job own)

-- More have failed than the backoff limit allows: no pod is made for the Job, which fails unless its end is decided already.
abbrev pub is_spent : Job → List Pod → Bool
is_spent job own = nat_lt job.spec.backoff_limit (pods_failed job own)

-- Failures that are left until then.
abbrev pub failures_left : Job → List Pod → ℕ
failures_left job own = (job.spec.backoff_limit + 1) - pods_failed job own

-- ---- failures that the policy ignores

-- The pod as the node starts it, where it has not started.
abbrev pub started : Pod → Pod
started pod = if is_pending pod.phase then with_report [] pod start_change else pod

-- The pod, once the node has let it end so. Of its version nothing is said.
abbrev pub ended_by : End → Pod → Pod
ended_by end pod =
    with_report [] (started pod) (finishes (started pod) end.exit end.condition)

-- The failure policy then ignores its failure.
abbrev pub is_ignored_end : JobSpec → End → Pod → Bool
is_ignored_end spec end pod = same_outcome (outcome_of spec (ended_by end pod)) Ignored

-- The pod is to end so that its failure is ignored.
abbrev pub will_be_ignored : List End → Job → Pod → Bool
will_be_ignored ends job pod =
    option_map_or (λ end. is_ignored_end job.spec end pod) (end_at pod.serial ends) false

-- ---- what may still be made

-- Ends to come whose failure is ignored, at most: those of active tracked pods, and all of pods that are still to be made.
abbrev pub ignored_left : List End → ℕ → Job → List Pod → ℕ
ignored_left ends made job own =
    length (filter (will_be_ignored ends job) (tracked_active_pods own)) + length (drop made ends)

-- How many pods may still be made: one for each success that is lacking, but for those that run towards one, as far as
-- so many may run at once; and one in the place of each that fails.
abbrev pub may_be_retried : List End → ℕ → Job → List Pod → ℕ
may_be_retried ends made job own =
    (places job own - min (length (of_use job own)) job.spec.parallelism)
    + (failures_left job own + ignored_left ends made job own)

-- None, where a target stands, the Job is suspended, or more have failed than the limit allows.
abbrev pub creations_allowed : List End → ℕ → Job → List Pod → ℕ
creations_allowed ends made job own =
    if (has_target job.status.conditions || job.spec.suspend) || is_spent job own then 0
    else may_be_retried ends made job own

-- ---- the premise

-- The last of the ends is no failure that the Job's policy ignores in a pod that was made for it.
abbrev pub CountsAtLast : List End → JobSpec → Type 0
CountsAtLast ends spec =
    IfSome (last_end ends) (λ end. (any : Pod) → is_ignored_end spec end (as_new spec.template any) ≡ false)
