-- Histories of machines that make, mark, let go or release pods, or write statuses, without a cause. Of each the deeds
-- alone are given; its last deed is the wrong one.
--     suspended_makes       a sync of a suspended Job makes a pod
--     failed_makes          one of a Job that is past its backoff limit does
--     overdue_makes         one of a Job that is past its deadline does
--     one_too_many          a sync makes more pods than completions are left
--     index_made_twice      it makes a pod of an index that a pod holds
--     wanted_let_go         it lets go an active pod that is wanted
--     wanted_marked         it marks one
--     active_released       it releases one
--     same_status_written   it writes the status that the Job has
use Rattle.std.specs.Prelude.{◌+◌, true, List, [], ◌∷◌, ◌++◌, Some, None}
use Rattle.jc_log.specs.Acts as does
use Rattle.jc_types.specs.declared.objects.Kind.TheVariants.{Jobs, Pods}
use Rattle.jc_types.specs.declared.replies.Reply.TheVariants as reply
use Rattle.jc_types.specs.declared.specifications.JobSpec.{JobSpec}
use Rattle.jc_types.specs.declared.specifications.Mode.TheVariants.{Indexed}
use Rattle.jc_log.specs.Deeds.{Deed}
use Rattle.jc_history.specs.Samples.{pod_let_go, pod_made, pod_marked, pod_released, sample_spec, sample_start, status_written}
use Rattle.jc_promise.specs.Wrong.{done, job_is_made, pod_exits, sync_begins, sync_steps}
use Rattle.jc_promise.specs.WrongSyncs.{cache_is_told, cache_lists}

-- A Job of the specification is made, and both caches are listed.
abbrev pub listed_of : JobSpec → List Deed
listed_of spec = cache_lists Pods 1 ∷ cache_lists Jobs 1 ∷ job_is_made spec ∷ []

-- Its first sync makes a pod and writes its status.
abbrev pub synced_of : JobSpec → List Deed
synced_of spec =
    sync_steps reply.Ended 3 ∷ sync_steps (status_written 3) 3 ∷ sync_steps (pod_made None 2 2) 2
    ∷ sync_begins 1 1 1 ∷ listed_of spec

-- Both caches are told of these two writes.
abbrev pub told_of_two : List Deed
told_of_two = cache_is_told Pods 3 3 ∷ cache_is_told Pods 2 3 ∷ cache_is_told Jobs 3 3 ∷ cache_is_told Jobs 2 3 ∷ []

-- They are told of three.
abbrev pub told_of_three : List Deed
told_of_three =
    cache_is_told Pods 4 4 ∷ cache_is_told Pods 3 4 ∷ cache_is_told Pods 2 4
    ∷ cache_is_told Jobs 4 4 ∷ cache_is_told Jobs 3 4 ∷ cache_is_told Jobs 2 4 ∷ []

-- A Job and its pod that were synced, and both caches that were told: the next sync begins.
abbrev pub synced_again : List Deed
synced_again = sync_begins 3 3 3 ∷ told_of_two ++ synced_of sample_spec

-- ---- pods that are made

abbrev pub suspended_before : List Deed
suspended_before = sync_begins 1 1 1 ∷ listed_of (record sample_spec { suspend = true })

abbrev pub suspended_makes : List Deed
suspended_makes = sync_steps (pod_made None 2 2) 2 ∷ suspended_before

-- No failure is allowed, and the pod has failed.
abbrev pub failed_before : List Deed
failed_before = sync_begins 4 4 4 ∷ told_of_three ++ pod_exits 2 1 4 ∷ synced_of (record sample_spec { backoff_limit = 0 })

abbrev pub failed_makes : List Deed
failed_makes = sync_steps (pod_made None 3 5) 5 ∷ failed_before

-- Two successes are wanted within a minute; one pod has succeeded, and the minute is over.
abbrev pub overdue_before : List Deed
overdue_before =
    sync_begins 4 4 4 ∷ told_of_three ++ done (does.Clock 60) (reply.Now (sample_start + 60)) 4
    ∷ pod_exits 2 0 4 ∷ synced_of (record sample_spec { completions = Some 2; deadline = Some 60 })

abbrev pub overdue_makes : List Deed
overdue_makes = sync_steps (pod_made None 3 5) 5 ∷ overdue_before

-- One success is wanted, and two pods may run at once. One is made.
abbrev pub many_before : List Deed
many_before = sync_steps (pod_made None 2 2) 2 ∷ sync_begins 1 1 1 ∷ listed_of (record sample_spec { parallelism = 2 })

abbrev pub one_too_many : List Deed
one_too_many = sync_steps (pod_made None 3 3) 3 ∷ many_before

-- Two indexes are wanted, and two pods may run at once. The pod of index 0 is made; then the controller restarts, and its
-- caches are listed anew.
abbrev pub index_before : List Deed
index_before =
    sync_begins 2 2 2 ∷ cache_lists Pods 2 ∷ cache_lists Jobs 2 ∷ done (does.Restart 0) reply.Done 2
    ∷ sync_steps (pod_made (Some 0) 2 2) 2 ∷ sync_begins 1 1 1
    ∷ listed_of (record sample_spec { parallelism = 2; completions = Some 2; mode = Indexed })

abbrev pub index_made_twice : List Deed
index_made_twice = sync_steps (pod_made (Some 0) 3 3) 3 ∷ index_before

-- ---- pods that are stopped and released, statuses

abbrev pub wanted_let_go : List Deed
wanted_let_go = sync_steps (pod_let_go 2 4) 4 ∷ synced_again

abbrev pub wanted_marked : List Deed
wanted_marked = sync_steps (pod_marked 2 4) 4 ∷ synced_again

abbrev pub active_released : List Deed
active_released = sync_steps (pod_released 2 4) 4 ∷ synced_again

abbrev pub same_status_written : List Deed
same_status_written = sync_steps (status_written 4) 4 ∷ synced_again
