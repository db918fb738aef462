-- Histories of machines that are wrong about the indexes of an Indexed Job, about pods that run, or about lists.
--     failures_anew      the failures of an index start anew with its next pod
--     index_unfailed     an index whose pods have failed more often than its limit allows has not failed
--     index_past         an index past the completions is completed
--     unseen_release     a pod that runs is released, since its Job was not seen yet
--     crowded_list       501 UIDs are listed
use Rattle.std.specs.Prelude.{ℕ, false, [], ◌∷◌, map, Some, None}
use Rattle.std.specs.List.{range_with_len}
use Rattle.jc_types.specs.declared.objects.Entry.TheVariants.{PodPut}
use Rattle.jc_types.specs.declared.objects.Phase.TheVariants.{Failed, Succeeded}
use Rattle.jc_types.specs.declared.specifications.JobSpec.{JobSpec}
use Rattle.jc_log.specs.Requests.{empty_status}
use Rattle.jc_history.specs.Samples.{failed_once, limited_spec, pod_made, pod_released, sample_spec, status_written, uid_of}
use Rattle.jc_promise.specs.Wrong.{Wrong, in_phase, job_is_made, lists, pi_pod, pi_put, pod_exits, status_put, stripped, sync_begins, sync_steps}
use Rattle.jc_promise.specs.WrongOutcomes.{one_index_spec}

-- One index, whose pods may fail so often.
abbrev pub one_limited_spec : ℕ → JobSpec
one_limited_spec limit = record (limited_spec limit) { parallelism = 1; completions = Some 1 }

-- A pod of the index fails and is counted, and so does the next one; the second status says that the index has failed
-- once.
abbrev pub failures_anew : Wrong
failures_anew = record {
  deeds =
      sync_steps (status_written 9) 9 ∷ sync_begins 6 8 8 ∷ pod_exits 3 1 8
      ∷ sync_steps (pod_made (Some 0) 3 7) 7 ∷ sync_begins 6 6 6
      ∷ sync_steps (status_written 6) 6 ∷ sync_steps (pod_released 2 5) 5 ∷ sync_steps (status_written 4) 4 ∷ sync_begins 1 3 3
      ∷ pod_exits 2 1 3 ∷ sync_steps (pod_made (Some 0) 2 2) 2 ∷ sync_begins 1 1 1
      ∷ job_is_made (one_limited_spec 1) ∷ [];
  log =
      status_put 9 (record (lists [] (3 ∷ [])) { failed = 1; index_failures = failed_once 0 false ∷ [] }) (one_limited_spec 1)
      ∷ PodPut (in_phase Failed 8 (pi_pod 3 (Some 0) 7)) ∷ PodPut (pi_pod 3 (Some 0) 7)
      ∷ status_put 6 (record empty_status { failed = 1; index_failures = failed_once 0 false ∷ [] }) (one_limited_spec 1)
      ∷ PodPut (stripped 5 (in_phase Failed 3 (pi_pod 2 (Some 0) 2)))
      ∷ status_put 4 (record (lists [] (2 ∷ [])) { index_failures = failed_once 0 false ∷ [] }) (one_limited_spec 1)
      ∷ PodPut (in_phase Failed 3 (pi_pod 2 (Some 0) 2)) ∷ PodPut (pi_pod 2 (Some 0) 2)
      ∷ pi_put (one_limited_spec 1) ∷ [];
}

-- The pod of an index that may not fail fails, and the index has not failed.
abbrev pub index_unfailed : Wrong
index_unfailed = record {
  deeds =
      sync_steps (status_written 4) 4 ∷ sync_begins 1 3 3 ∷ pod_exits 2 1 3 ∷ sync_steps (pod_made (Some 0) 2 2) 2
      ∷ sync_begins 1 1 1 ∷ job_is_made (one_limited_spec 0) ∷ [];
  log =
      status_put 4 (record (lists [] (2 ∷ [])) { index_failures = failed_once 0 false ∷ [] }) (one_limited_spec 0)
      ∷ PodPut (in_phase Failed 3 (pi_pod 2 (Some 0) 2)) ∷ PodPut (pi_pod 2 (Some 0) 2)
      ∷ pi_put (one_limited_spec 0) ∷ [];
}

-- A pod of index 1 succeeds, where one index is wanted, and the index is completed.
abbrev pub index_past : Wrong
index_past = record {
  deeds =
      sync_steps (status_written 4) 4 ∷ sync_begins 1 3 3 ∷ pod_exits 2 0 3 ∷ sync_steps (pod_made (Some 1) 2 2) 2
      ∷ sync_begins 1 1 1 ∷ job_is_made one_index_spec ∷ [];
  log =
      status_put 4 (record empty_status { succeeded = 1; completed = 1 ∷ [] }) one_index_spec
      ∷ PodPut (in_phase Succeeded 3 (pi_pod 2 (Some 1) 2)) ∷ PodPut (pi_pod 2 (Some 1) 2)
      ∷ pi_put one_index_spec ∷ [];
}

-- A sync sees the pod, and with its cache of Jobs behind no Job. So it releases the pod, which runs.
abbrev pub unseen_release : Wrong
unseen_release = record {
  deeds =
      sync_steps (pod_released 2 3) 3 ∷ sync_begins 0 2 2 ∷ sync_steps (pod_made None 2 2) 2 ∷ sync_begins 1 1 1
      ∷ job_is_made sample_spec ∷ [];
  log = PodPut (stripped 3 (pi_pod 2 None 2)) ∷ PodPut (pi_pod 2 None 2) ∷ pi_put sample_spec ∷ [];
}

-- The status lists 501 UIDs.
abbrev pub crowded_list : Wrong
crowded_list = record {
  deeds = sync_steps (status_written 2) 2 ∷ sync_begins 1 1 1 ∷ job_is_made sample_spec ∷ [];
  log =
      status_put 2 (record empty_status { uncounted_succeeded = map uid_of (range_with_len 2 501) }) sample_spec
      ∷ pi_put sample_spec ∷ [];
}
