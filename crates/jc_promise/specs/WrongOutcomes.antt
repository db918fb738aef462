-- Histories of machines that are wrong about what a pod has come to, or about indexes.
--     index_twice         two pods of one index that have succeeded are counted as two
--     ignored_counted     a failure that the failure policy ignores is counted
--     early_fail_job      a pod that fails the Job is let go before the Job has a target
--     finalizer_vanishes  a pod loses its finalizer by a mark
--     suspended_counted   an active pod of a Job that is suspended is counted as failed
use Rattle.std.specs.Prelude.{pos, false, true, [], ◌∷◌, Some, None}
use Rattle.jc_log.specs.Acts as does
use Rattle.jc_types.specs.declared.objects.Entry.TheVariants.{PodPut}
use Rattle.jc_types.specs.declared.objects.Phase.TheVariants.{Failed, Succeeded}
use Rattle.jc_types.specs.declared.objects.Pod.{Pod}
use Rattle.jc_types.specs.declared.policies.Truth.TheVariants.{True}
use Rattle.jc_types.specs.declared.replies.Reply.TheVariants as reply
use Rattle.jc_types.specs.declared.specifications.JobSpec.{JobSpec}
use Rattle.jc_types.specs.declared.specifications.Mode.TheVariants.{Indexed}
use Rattle.jc_log.specs.Requests.{empty_status}
use Rattle.jc_history.specs.Samples.{disruption, failing_spec, ignoring_spec, main_name, no_change, pi_key, pod_made, pod_released, sample_spec, status_written, sync_begun, uid_of, version_at, written_at}
use Rattle.jc_promise.specs.Wrong.{Wrong, sync_begins, done, pod_exits, in_phase, pi_put, job_is_made, lists, pi_pod, status_put, sync_steps, stripped, with_marked}

-- One index is wanted.
abbrev pub one_index_spec : JobSpec
one_index_spec = record sample_spec { mode = Indexed }

-- Two controllers have made a pod each of index 0, both succeed, and the total is 2.
abbrev pub index_twice : Wrong
index_twice = record {
  deeds =
      sync_steps (status_written 6) 6 ∷ sync_begins 1 5 5 ∷ pod_exits 3 0 5 ∷ pod_exits 2 0 4
      ∷ done (does.Step 1 0) (pod_made (Some 0) 3 3) 3 ∷ sync_steps (pod_made (Some 0) 2 2) 2
      ∷ done (does.Begin 1 0) (sync_begun 1 1) 1 ∷ sync_begins 1 1 1
      ∷ job_is_made one_index_spec ∷ [];
  log =
      status_put 6 (record empty_status { succeeded = 2; completed = 0 ∷ [] }) one_index_spec
      ∷ PodPut (in_phase Succeeded 5 (pi_pod 3 (Some 0) 3))
      ∷ PodPut (in_phase Succeeded 4 (pi_pod 2 (Some 0) 2))
      ∷ PodPut (pi_pod 3 (Some 0) 3) ∷ PodPut (pi_pod 2 (Some 0) 2) ∷ pi_put one_index_spec ∷ [];
}

-- A pod that was disrupted.
abbrev pub disrupted_pod : Pod
disrupted_pod =
    record (in_phase Failed 3 (pi_pod 2 None 2)) {
      conditions = record { kind = disruption; truth = True } ∷ [];
    }

-- A pod is disrupted, of a Job that does not count that, and is listed as failed.
abbrev pub ignored_counted : Wrong
ignored_counted = record {
  deeds =
      sync_steps (status_written 4) 4 ∷ sync_begins 1 3 3
      ∷ done does.Node (reply.NodeDone (uid_of 2) Failed (version_at 3)) 3
      ∷ sync_steps (pod_made None 2 2) 2 ∷ sync_begins 1 1 1 ∷ job_is_made ignoring_spec ∷ [];
  log =
      status_put 4 (lists [] (2 ∷ [])) ignoring_spec
      ∷ PodPut disrupted_pod ∷ PodPut (pi_pod 2 None 2) ∷ pi_put ignoring_spec ∷ [];
}

-- A pod whose container has exited with 42.
abbrev pub failing_pod : Pod
failing_pod =
    record (in_phase Failed 3 (pi_pod 2 None 2)) {
      containers = record { name = main_name; init = false; exit = Some (pos 42); restarts = 0 } ∷ [];
    }

-- It fails its Job, is listed, and is let go: no status has told yet that the Job fails.
abbrev pub early_fail_job : Wrong
early_fail_job = record {
  deeds =
      sync_steps (pod_released 2 5) 5 ∷ sync_steps (status_written 4) 4 ∷ sync_begins 1 3 3 ∷ pod_exits 2 42 3
      ∷ sync_steps (pod_made None 2 2) 2 ∷ sync_begins 1 1 1 ∷ job_is_made failing_spec ∷ [];
  log =
      PodPut (stripped 5 failing_pod)
      ∷ status_put 4 (lists [] (2 ∷ [])) failing_spec
      ∷ PodPut failing_pod ∷ PodPut (pi_pod 2 None 2) ∷ pi_put failing_spec ∷ [];
}

-- A pod is marked, and is without its finalizer at once.
abbrev pub finalizer_vanishes : Wrong
finalizer_vanishes = record {
  deeds =
      done (does.Mark (uid_of 2)) (written_at 3) 3 ∷ sync_steps (pod_made None 2 2) 2 ∷ sync_begins 1 1 1
      ∷ job_is_made sample_spec ∷ [];
  log =
      PodPut (stripped 3 (with_marked 3 (pi_pod 2 None 2))) ∷ PodPut (pi_pod 2 None 2)
      ∷ pi_put sample_spec ∷ [];
}

-- ---- suspension

-- The same Job, suspended.
abbrev pub suspended_spec : JobSpec
suspended_spec = record sample_spec { suspend = true }

-- The Job is suspended while its pod is active, and the pod is listed as failed.
abbrev pub suspended_counted : Wrong
suspended_counted = record {
  deeds =
      sync_steps (status_written 4) 4 ∷ sync_begins 3 3 3
      ∷ done (does.Update pi_key None (record no_change { suspend = Some true })) (written_at 3) 3
      ∷ sync_steps (pod_made None 2 2) 2 ∷ sync_begins 1 1 1 ∷ job_is_made sample_spec ∷ [];
  log =
      status_put 4 (lists [] (2 ∷ [])) suspended_spec
      ∷ status_put 3 empty_status suspended_spec
      ∷ PodPut (pi_pod 2 None 2) ∷ pi_put sample_spec ∷ [];
}
