-- How often pods of each index have failed, and which indexes have failed by that (KEP-3850). `own` are the Job's own
-- pods among those that a sync sees.
--     is_fail_index_action action               the action FailIndex
--     policy_fails_index failure pod     the failure policy, where there is one, fails the index for the pod
--     newly_failed own uids              the pods of these UIDs: those that are newly judged as failed
--     failures_of n counts               how often pods of the index had failed
--     fails_at n counts                  one of them failed the index
--     raised_at failure counts pods n    the same with the failures of these pods
--     raised failure counts pods         so for each index of which a pod has failed
--     is_past limit count                the pods of the index have failed more often than the limit, or one failed it
--     has_failed limit n completed count the index of the count has failed, where so many completions are wanted
--     failed_set ..                      the indexes that have failed; once the Job has ended they stay
--     failures_in .., failing_in ..      both, where the pods of these UIDs have failed
--     filled_counts job own counted      what a sync has counted, with the failures and the failed indexes
use Rattle.std.specs.Prelude.{ℕ, ◌+◌, ◌==◌, nat_lt, Bool, true, false, not, ◌&&◌, ◌||◌, List, [], map, filter, find, length, unwrap_or, if◌then◌else◌, Option, Some, None}
use Rattle.std.specs.List.{list_any}
use Rattle.std.specs.Option.{option_map_or}
use Rattle.jc_ranges.specs.Sets.{has}
use Rattle.jc_types.specs.declared.numbers.Uid.{Uid}
use Rattle.jc_types.specs.declared.objects.Job.{Job}
use Rattle.jc_types.specs.declared.objects.Pod.{Pod}
use Rattle.jc_types.specs.declared.policies.Action.{Action}
use Rattle.jc_types.specs.declared.policies.Action.TheVariants.{FailJob, Ignore, Count, FailIndex}
use Rattle.jc_types.specs.declared.policies.FailurePolicy.{FailurePolicy}
use Rattle.jc_types.specs.declared.statuses.IndexCount.{IndexCount}
use Rattle.jc_types.specs.declared.syncs.CountIn.{CountIn}
use Rattle.jc_states.specs.Conditions.{has_end}
use Rattle.jc_states.specs.Indexes.{has_index}
use Rattle.jc_states.specs.UidLists.{is_in, join}
use Rattle.jc_failpol.specs.Rules.{action_of}
use Rattle.jc_account.specs.Modes.{indexes_of}

-- The action FailIndex.
abbrev pub is_fail_index_action : Action → Bool
is_fail_index_action FailJob = false
is_fail_index_action Ignore = false
is_fail_index_action Count = false
is_fail_index_action FailIndex = true

-- The failure policy, where there is one, fails the index for the pod.
abbrev pub policy_fails_index : Option FailurePolicy → Pod → Bool
policy_fails_index None pod = false
policy_fails_index (Some policy) pod = is_fail_index_action (action_of policy pod)

-- The pods that are newly judged as failed: those of these UIDs.
abbrev pub newly_failed : List Pod → List Uid → List Pod
newly_failed own uids = filter (λ pod. is_in pod.uid uids) own

-- The count of the index, where there is one.
abbrev pub count_at : ℕ → List IndexCount → Option IndexCount
count_at n counts = find (λ (count : IndexCount). count.index == n) counts

-- How often pods of the index had failed.
abbrev pub failures_of : ℕ → List IndexCount → ℕ
failures_of n counts = option_map_or (λ (count : IndexCount). count.failures) (count_at n counts) 0

-- One of them had failed the index.
abbrev pub fails_at : ℕ → List IndexCount → Bool
fails_at n counts = option_map_or (λ (count : IndexCount). count.fail) (count_at n counts) false

-- The count of the index with the failures of these pods.
abbrev pub raised_at : Option FailurePolicy → List IndexCount → List Pod → ℕ → IndexCount
raised_at failure counts pods n = record {
  index = n;
  failures = failures_of n counts + length (filter (has_index n) pods);
  fail = fails_at n counts || list_any (λ pod. has_index n pod && policy_fails_index failure pod) pods;
}

-- The counts with the failures of these pods: of each index that had one, and of each that has one now.
abbrev pub raised : Option FailurePolicy → List IndexCount → List Pod → List IndexCount
raised failure counts pods =
    map (raised_at failure counts pods) (join (map (λ (count : IndexCount). count.index) counts) (indexes_of pods))

-- The pods of the index have failed more often than the limit allows, or one of them failed it.
abbrev pub is_past : ℕ → IndexCount → Bool
is_past limit count = nat_lt limit count.failures || count.fail

-- The index of the count has failed: it is below the completions and not completed, and its pods have failed more
-- often than the limit allows, or one of them failed it.
abbrev pub has_failed : ℕ → ℕ → List ℕ → IndexCount → Bool
has_failed limit completions completed count =
    nat_lt count.index completions && (not (has count.index completed) && is_past limit count)

-- The indexes that have failed. Those of a Job that has ended stay as they are.
abbrev pub failed_set : Job → ℕ → List ℕ → List IndexCount → List ℕ
failed_set job limit completed counts =
    if has_end job.status.conditions then job.status.failed_indexes
    else
    map (λ (count : IndexCount). count.index)
    (filter (has_failed limit (unwrap_or job.spec.completions 0) completed) counts)

-- The failures of each index, where these pods have failed; of a Job without a limit for each nothing is said.
abbrev pub failures_by : Option ℕ → Job → List Pod → List IndexCount
failures_by None job pods = []
failures_by (Some limit) job pods = raised job.spec.failure job.status.index_failures pods

-- The failed indexes, where these are completed and these pods have failed.
abbrev pub failing_by : Option ℕ → Job → List ℕ → List Pod → List ℕ
failing_by None job completed pods = []
failing_by (Some limit) job completed pods =
    failed_set job limit completed (raised job.spec.failure job.status.index_failures pods)

-- The failures of each index, where the pods of these UIDs have failed.
unfoldable pub failures_in : Job → List Pod → List Uid → List IndexCount
failures_in job own uids = failures_by job.spec.per_index job (newly_failed own uids)

-- The failed indexes, where these are completed and the pods of these UIDs have failed.
unfoldable pub failing_in : Job → List ℕ → List Pod → List Uid → List ℕ
failing_in job completed own uids = failing_by job.spec.per_index job completed (newly_failed own uids)

-- What a sync has counted, with the failures of each index and the indexes that have failed.
abbrev pub filled_counts : Job → List Pod → CountIn → CountIn
filled_counts job own counted = record counted {
  failed_indexes = failing_in job counted.completed own counted.judged_failed;
  index_failures = failures_in job own counted.judged_failed;
}
