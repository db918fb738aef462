-- The history of a machine that releases a pod for which its status had no room.
--     many_spec                501 pods may run, and as many are to succeed
--     nth_pod n, nth_ended n   pod n of the Job, as it is made and as it has succeeded
--     with_write d e before    the history after one more deed, and the entry that it wrote
--     after_runs n             so many pods were made, and each has succeeded at once
--     many_listed              the Job whose status lists 500 of 501 pods that have succeeded
--     after_listing            a sync has seen the 501, and has written this status
--     after_releases n         it has released so many of them
--     left_over_released       it has released the last one too, which is not listed
use Rattle.std.specs.Prelude.{ℕ, zero, suc, ◌+◌, ◌*◌, [], ◌∷◌, Some, None}
use Rattle.std.specs.List.{range_with_len}
use Rattle.jc_types.specs.declared.objects.Entry.{Entry}
use Rattle.jc_types.specs.declared.objects.Entry.TheVariants.{JobPut, PodPut}
use Rattle.jc_types.specs.declared.objects.Job.{Job}
use Rattle.jc_types.specs.declared.objects.Phase.TheVariants.{Succeeded}
use Rattle.jc_types.specs.declared.objects.Pod.{Pod}
use Rattle.jc_types.specs.declared.specifications.JobSpec.{JobSpec}
use Rattle.jc_log.specs.Deeds.{Deed}
use Rattle.jc_history.specs.Samples.{pod_made, pod_released, sample_spec, status_written, version_at}
use Rattle.jc_promise.specs.Wrong.{Wrong, in_phase, job_is_made, lists, pi_job, pi_pod, pi_put, pod_exits, stripped, sync_begins, sync_steps}

-- 501 pods may run at once, and as many are to succeed.
abbrev pub many_spec : JobSpec
many_spec = record sample_spec { parallelism = 501; completions = Some 501 }

-- Pod n of the Job, counted from 0: as it is made, and as it has succeeded.
abbrev pub nth_pod : ℕ → Pod
nth_pod n = record (pi_pod (n + 2) None (2 * n + 2)) { serial = n }

abbrev pub nth_ended : ℕ → Pod
nth_ended n = in_phase Succeeded (2 * n + 3) (nth_pod n)

-- The history after one more deed, and the entry that it wrote.
abbrev pub with_write : Deed → Entry → Wrong → Wrong
with_write d e before = record { deeds = d ∷ before.deeds; log = e ∷ before.log }

-- A sync makes so many pods, and each of them succeeds at once, before the next is made.
unfoldable pub after_runs : ℕ → Wrong
after_runs zero = record { deeds = sync_begins 1 1 1 ∷ job_is_made many_spec ∷ []; log = pi_put many_spec ∷ [] }
after_runs (suc n) =
    with_write (pod_exits (n + 2) 0 (2 * n + 3)) (PodPut (nth_ended n))
    (with_write (sync_steps (pod_made None (n + 2) (2 * n + 2)) (2 * n + 2)) (PodPut (nth_pod n)) (after_runs n))

-- The Job whose status lists 500 of them.
abbrev pub many_listed : Job
many_listed = record (pi_job many_spec) { status = lists (range_with_len 2 500) []; version = version_at 1004 }

-- A sync sees 501 pods that have succeeded, and writes this status.
unfoldable pub after_listing : Wrong
after_listing = record {
  deeds = sync_steps (status_written 1004) 1004 ∷ sync_begins 1 1003 1003 ∷ (after_runs 501).deeds;
  log = JobPut many_listed ∷ (after_runs 501).log;
}

-- It releases so many of them.
unfoldable pub after_releases : ℕ → Wrong
after_releases zero = after_listing
after_releases (suc n) =
    with_write (sync_steps (pod_released (n + 2) (n + 1005)) (n + 1005)) (PodPut (stripped (n + 1005) (nth_ended n))) (after_releases n)

-- It releases the 500 that are listed, and then the one that is left over.
unfoldable pub left_over_released : Wrong
left_over_released = after_releases 501
