-- Histories of machines that count wrongly. Of each the next machine has one line changed.
--     early_release      the finalizer goes before the UID is in a list
--     early_total        the first write raises the total, and lists no UID
--     stale_pod_cache    a sync begins on pods that are older than the Job's last write
--     stale_write        a status is kept that was written at an old version
--     recount            a UID of the failed list is counted again when its pod succeeds
use Rattle.std.specs.Prelude.{[], ◌∷◌, Some, None}
use Rattle.jc_log.specs.Acts as does
use Rattle.jc_types.specs.declared.objects.Entry.TheVariants.{PodPut}
use Rattle.jc_types.specs.declared.objects.Phase.TheVariants.{Succeeded}
use Rattle.jc_types.specs.declared.replies.Reply.TheVariants as reply
use Rattle.jc_types.specs.declared.specifications.JobSpec.{JobSpec}
use Rattle.jc_log.specs.Requests.{empty_status}
use Rattle.jc_history.specs.Samples.{pod_made, pod_released, sample_spec, status_written, sync_begun, uid_of, written_at}
use Rattle.jc_promise.specs.Wrong.{Wrong, sync_begins, done, pod_exits, in_phase, pi_put, job_is_made, lists, pi_pod, status_put, sync_steps, stripped, with_marked}

-- A pod succeeds, and a sync releases it at once: where it stops then, nothing counts the pod.
abbrev pub early_release : Wrong
early_release = record {
  deeds =
      sync_steps (pod_released 2 4) 4 ∷ sync_begins 3 3 3 ∷ pod_exits 2 0 3 ∷ sync_steps (pod_made None 2 2) 2
      ∷ sync_begins 1 1 1 ∷ job_is_made sample_spec ∷ [];
  log =
      PodPut (stripped 4 (in_phase Succeeded 3 (pi_pod 2 None 2)))
      ∷ PodPut (in_phase Succeeded 3 (pi_pod 2 None 2)) ∷ PodPut (pi_pod 2 None 2)
      ∷ pi_put sample_spec ∷ [];
}

-- A pod succeeds, and the status has it in its total while it still has its finalizer.
abbrev pub early_total : Wrong
early_total = record {
  deeds =
      sync_steps (status_written 4) 4 ∷ sync_begins 3 3 3 ∷ pod_exits 2 0 3 ∷ sync_steps (pod_made None 2 2) 2
      ∷ sync_begins 1 1 1 ∷ job_is_made sample_spec ∷ [];
  log =
      status_put 4 (record empty_status { succeeded = 1 }) sample_spec
      ∷ PodPut (in_phase Succeeded 3 (pi_pod 2 None 2)) ∷ PodPut (pi_pod 2 None 2)
      ∷ pi_put sample_spec ∷ [];
}

-- A pod is counted, and its list is empty again. The next sync sees it as it was before, and lists it once
-- more.
abbrev pub stale_pod_cache : Wrong
stale_pod_cache = record {
  deeds =
      sync_steps (status_written 7) 7 ∷ sync_begins 6 3 6 ∷ sync_steps reply.Ended 6 ∷ sync_steps (status_written 6) 6
      ∷ sync_steps (pod_released 2 5) 5 ∷ sync_steps (status_written 4) 4 ∷ sync_begins 3 3 3 ∷ pod_exits 2 0 3
      ∷ sync_steps (pod_made None 2 2) 2 ∷ sync_begins 1 1 1 ∷ job_is_made sample_spec ∷ [];
  log =
      status_put 7 (record (lists (2 ∷ []) []) { succeeded = 1 }) sample_spec
      ∷ status_put 6 (record empty_status { succeeded = 1 }) sample_spec
      ∷ PodPut (stripped 5 (in_phase Succeeded 3 (pi_pod 2 None 2)))
      ∷ status_put 4 (lists (2 ∷ []) []) sample_spec
      ∷ PodPut (in_phase Succeeded 3 (pi_pod 2 None 2)) ∷ PodPut (pi_pod 2 None 2)
      ∷ pi_put sample_spec ∷ [];
}

-- Two pods may run.
abbrev pub two_pods_spec : JobSpec
two_pods_spec = record sample_spec { parallelism = 2; completions = Some 2 }

-- Two pods succeed. One controller lists both; another, that saw the first alone, then writes at the old
-- version.
abbrev pub stale_write : Wrong
stale_write = record {
  deeds =
      done (does.Step 1 0) (status_written 7) 7 ∷ sync_steps (status_written 6) 6 ∷ sync_begins 1 5 5 ∷ pod_exits 3 0 5
      ∷ done (does.Begin 1 0) (sync_begun 1 4) 4 ∷ pod_exits 2 0 4 ∷ sync_steps (pod_made None 3 3) 3
      ∷ sync_steps (pod_made None 2 2) 2 ∷ sync_begins 1 1 1 ∷ job_is_made two_pods_spec ∷ [];
  log =
      status_put 7 (lists (2 ∷ []) []) two_pods_spec
      ∷ status_put 6 (lists (2 ∷ 3 ∷ []) []) two_pods_spec
      ∷ PodPut (in_phase Succeeded 5 (pi_pod 3 None 3)) ∷ PodPut (in_phase Succeeded 4 (pi_pod 2 None 2))
      ∷ PodPut (pi_pod 3 None 3) ∷ PodPut (pi_pod 2 None 2) ∷ pi_put two_pods_spec ∷ [];
}

-- A marked pod counts as failed and is listed so. It exits with 0, and is listed as a success too.
abbrev pub recount : Wrong
recount = record {
  deeds =
      sync_steps (status_written 6) 6 ∷ sync_begins 4 5 5 ∷ pod_exits 2 0 5 ∷ sync_steps (status_written 4) 4 ∷ sync_begins 1 3 3
      ∷ done (does.Mark (uid_of 2)) (written_at 3) 3 ∷ sync_steps (pod_made None 2 2) 2 ∷ sync_begins 1 1 1
      ∷ job_is_made sample_spec ∷ [];
  log =
      status_put 6 (lists (2 ∷ []) (2 ∷ [])) sample_spec
      ∷ PodPut (in_phase Succeeded 5 (with_marked 3 (pi_pod 2 None 2)))
      ∷ status_put 4 (lists [] (2 ∷ [])) sample_spec
      ∷ PodPut (with_marked 3 (pi_pod 2 None 2)) ∷ PodPut (pi_pod 2 None 2) ∷ pi_put sample_spec ∷ [];
}
