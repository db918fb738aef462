-- How many pods a Job may still make, at most, where nobody interferes. `own` are the Job's own pods, `ends` how the pods
-- of its key end, one after the other (none, where nothing says so), and `made` how many pods were made for it so far.
--     new_successes job own     its tracked pods that have succeeded, and are not listed
--     pods_succeeded job own    how many of its pods have succeeded, whether the status says it already or not
--     completed_now job own     the completed indexes, with those of the new successes
--     failed_by .., failed_now job own     the failed indexes, by what the status says of the failures of each
--     is_closed job own n       no pod of the index is of use: it is completed, has failed, or is past the completions
--     open_indexes job own      those below the completions that are not
--     places job own            the successes that the Job lacks
--     of_use job own            the active tracked pods, without those that are spare
--     fails end, will_fail ends pod    the end is no success; it is that of the pod
--     LastIsSuccess ends        the last of the ends is a success
--     misses ends made own      ends to come that are no success
--     creations_left ends made job own    how many pods may still be made
--     NodeMakes ends pod after  what the node makes of a pod
--     IsCounted job own         what is known of every Job, and of its pods
--     IsCountedIn log key job   so it is of its pods in the log
use Rattle.std.specs.Prelude.{◌≡◌, ℕ, pos, ◌+◌, ◌-◌, ◌==◌, min, nat_le, Bool, true, false, not, ◌||◌, if◌then◌else◌, List, [], map, filter, length, drop, Option, Some, None, IsSome, IfSome, unwrap_or}
use Rattle.std.specs.List.{AllByRecursion as Each, range_with_len}
use Rattle.std.specs.Option.{option_map_or}
use Rattle.std.specs.Ordering.{int_eq}
use Rattle.jc_ranges.specs.Sets.{IsIncreasing, has}
use Rattle.jc_types.specs.declared.actions.End.{End}
use Rattle.jc_types.specs.declared.objects.Entry.{Entry}
use Rattle.jc_types.specs.declared.objects.Job.{Job}
use Rattle.jc_types.specs.declared.objects.KeyNames.{KeyNames as Key}
use Rattle.jc_types.specs.declared.objects.Pod.{Pod}
use Rattle.jc_types.specs.declared.specifications.Mode.{Mode}
use Rattle.jc_types.specs.declared.specifications.Mode.TheVariants.{NonIndexed, Indexed}
use Rattle.jc_types.specs.declared.statuses.IndexCount.{IndexCount}
use Rattle.jc_types.specs.ValidSpecs.{IsValidSpec}
use Rattle.jc_log.specs.Log.{pods_under}
use Rattle.jc_log.specs.Requests.{with_report}
use Rattle.jc_states.specs.Bases.{own_pods}
use Rattle.jc_states.specs.Conditions.{has_end, has_target}
use Rattle.jc_states.specs.Listed.{is_listed}
use Rattle.jc_states.specs.PodLists.{IsRising}
use Rattle.jc_states.specs.Pods.{is_active, tracked_active_pods}
use Rattle.jc_failpol.specs.declared.outcomes.Outcome.TheVariants.{Succeeded}
use Rattle.jc_failpol.specs.Outcomes.{outcome_of, same_outcome}
use Rattle.jc_account.specs.Judged.{candidates}
use Rattle.jc_account.specs.Modes.{completed_after}
use Rattle.jc_perindex.specs.Failures.{has_failed}
use Rattle.jc_manage.specs.LetGoes.{remaining}
use Rattle.jc_history.specs.Nodes.{NodeAct, act_on, change_by, end_at, last_end, pod_end}

-- ---- what counts of a Job now, whether its status says it already or not

-- The Job's tracked pods that have succeeded, and are not listed.
abbrev pub new_successes : Job → List Pod → List Pod
new_successes job own =
    filter (λ pod. same_outcome (outcome_of job.spec pod) Succeeded) (candidates job own)

-- How many of its pods have succeeded: the total, those that are listed, and the new ones.
abbrev pub pods_succeeded : Job → List Pod → ℕ
pods_succeeded job own =
    job.status.succeeded + length job.status.uncounted_succeeded + length (new_successes job own)

-- The completed indexes below the completions, with those of the new successes. Of a Job that is not Indexed, what its
-- status says.
abbrev pub completed_now : Job → List Pod → List ℕ
completed_now job own =
    completed_after job.spec.mode false (unwrap_or job.spec.completions 0) job.status.completed
    (new_successes job own)

-- The failed indexes, by the failures that are counted of each, where these are completed.
abbrev pub failed_by : Option ℕ → ℕ → List ℕ → List IndexCount → List ℕ
failed_by None completions completed counts = []
failed_by (Some limit) completions completed counts =
    map (λ (count : IndexCount). count.index) (filter (has_failed limit completions completed) counts)

-- The failed indexes, by what the status says. A pod that has failed and is not counted yet fails no index before it is:
-- a sync counts some 500 pods at most.
abbrev pub failed_now : Job → List Pod → List ℕ
failed_now job own =
    failed_by job.spec.per_index (unwrap_or job.spec.completions 0) (completed_now job own)
    job.status.index_failures

-- No pod of the index is of use: it is completed or has failed, or it is not below the completions.
abbrev pub is_closed : Job → List Pod → ℕ → Bool
is_closed job own n =
    (has n (completed_now job own) || has n (failed_now job own))
    || nat_le (unwrap_or job.spec.completions 0) n

-- The indexes of which a pod is of use.
abbrev pub open_indexes : Job → List Pod → List ℕ
open_indexes job own =
    filter (λ n. not (is_closed job own n)) (range_with_len 0 (unwrap_or job.spec.completions 0))

-- ---- what may still be made

-- The successes that are lacking. Of an Indexed Job each open index lacks one. Without completions as many pods are
-- wanted as may run at once, until one has succeeded.
abbrev pub places_of : Mode → Option ℕ → ℕ → ℕ → List ℕ → ℕ
places_of NonIndexed (Some completions) parallelism succeeded opened = completions - succeeded
places_of NonIndexed None parallelism succeeded opened = if succeeded == 0 then parallelism else 0
places_of Indexed completions parallelism succeeded opened = length opened

-- Those that the Job lacks.
abbrev pub places : Job → List Pod → ℕ
places job own =
    places_of job.spec.mode job.spec.completions job.spec.parallelism (pods_succeeded job own)
    (open_indexes job own)

-- The active tracked pods that are not spare: of an Indexed Job, of each open index the oldest one.
abbrev pub of_use : Job → List Pod → List Pod
of_use job own = remaining job.spec.mode (is_closed job own) (tracked_active_pods own)

-- The end is no success.
abbrev pub fails : End → Bool
fails end = not (int_eq end.exit (pos 0))

-- The last of the ends, where there is one, is a success.
abbrev pub LastIsSuccess : List End → Type 0
LastIsSuccess ends = IfSome (last_end ends) (λ end. fails end ≡ false)

-- So the pod is to end.
abbrev pub will_fail : List End → Pod → Bool
will_fail ends pod = option_map_or fails (end_at pod.serial ends) false

-- Ends to come that are no success: those of active tracked pods, and those of pods that are still to be made.
abbrev pub misses : List End → ℕ → List Pod → ℕ
misses ends made own =
    length (filter (will_fail ends) (tracked_active_pods own)) + length (filter fails (drop made ends))

-- How many pods may still be made: one for each success that is lacking, but for those that run towards one, as far as
-- so many may run at once; and one in the place of each that does not succeed.
abbrev pub may_be_made : List End → ℕ → Job → List Pod → ℕ
may_be_made ends made job own =
    (places job own - min (length (of_use job own)) job.spec.parallelism) + misses ends made own

-- None, where a target stands or the Job is suspended.
abbrev pub creations_left : List End → ℕ → Job → List Pod → ℕ
creations_left ends made job own =
    if has_target job.status.conditions || job.spec.suspend then 0 else may_be_made ends made job own

-- ---- what is known

-- What the node makes of a pod: by the fates, which give the pod the one of the ends at its serial, something befalls it,
-- and is reported of it.
pub record NodeMakes (ends : List End) (pod after : Pod) : Type 0 where
  pub fates : Key → Option (List End)
  pub fated : pod_end fates pod ≡ end_at pod.serial ends
  pub act : NodeAct
  pub befalls : act_on fates pod ≡ Some act
  pub log : List Entry
  pub after_is : after ≡ with_report log pod (change_by pod act)

-- What is known of every Job, and of its own pods: its specification is valid; what has ended has a target; indexes
-- ascend, pods do by UID; of an Indexed Job no success is listed, and each pod has an index; and no pod that is listed is
-- still active.
pub record IsCounted (job : Job) (own : List Pod) : Type 0 where
  pub valid : IsValidSpec job.spec
  pub ended : has_end job.status.conditions ≡ true → has_target job.status.conditions ≡ true
  pub completed : IsIncreasing job.status.completed
  pub failures : IsIncreasing (map (λ (count : IndexCount). count.index) job.status.index_failures)
  pub rising : IsRising own
  pub none : job.spec.mode ≡ Indexed → job.status.uncounted_succeeded ≡ []
  pub numbered : job.spec.mode ≡ Indexed → Each (λ pod. IsSome pod.index) own
  pub listed : Each (λ pod. is_listed job.status pod.uid ≡ true → is_active pod ≡ false) own

-- So it is of the Job, and of its own pods among those of the key in the log.
abbrev pub IsCountedIn : List Entry → Key → Job → Type 0
IsCountedIn log key job = IsCounted job (own_pods job (pods_under key log))
