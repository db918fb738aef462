-- Histories of machines that leave something undone for ever: at the end of each but the last nothing is left to do.
--     unmarked_pod       a pod of a Job whose failure is decided runs on
--     unwritten_end      a suspended Job whose failure is decided does not get its end
--     kept_orphan        a pod whose Job is gone keeps its finalizer
--     wrong_status       a quiet sync writes another status than the next one
use Rattle.std.specs.Prelude.{ℕ, true, List, [], ◌∷◌, ◌+◌, Some, None}
use Rattle.jc_log.specs.Acts as does
use Rattle.jc_types.specs.declared.objects.Entry.TheVariants.{JobGone, JobPut, PodPut}
use Rattle.jc_types.specs.declared.objects.Job.{Job}
use Rattle.jc_types.specs.declared.objects.Kind.TheVariants.{Jobs, Pods}
use Rattle.jc_types.specs.declared.objects.Phase.TheVariants.{Failed}
use Rattle.jc_types.specs.declared.replies.Reply.TheVariants as reply
use Rattle.jc_types.specs.declared.specifications.JobSpec.{JobSpec}
use Rattle.jc_types.specs.declared.statuses.CondKind.TheVariants.{FailureTarget}
use Rattle.jc_types.specs.declared.statuses.Condition.{Condition}
use Rattle.jc_types.specs.declared.statuses.JobStatus.{JobStatus}
use Rattle.jc_types.specs.declared.statuses.Reason.TheVariants.{BackoffLimitExceeded}
use Rattle.jc_log.specs.Deeds.{Deed}
use Rattle.jc_log.specs.Requests.{empty_status}
use Rattle.jc_history.specs.Samples.{no_change, pi_key, pod_made, pod_released, sample_spec, sample_start, status_written, version_at, written_at}
use Rattle.jc_promise.specs.Wrong.{Wrong, done, in_phase, job_is_made, lists, pi_job, pi_pod, pi_put, pod_exits, status_put, stripped, sync_begins, sync_steps}
use Rattle.jc_promise.specs.WrongEnds.{at_deadline, minute_spec}
use Rattle.jc_promise.specs.WrongSyncs.{cache_is_told, cache_lists}

-- Both caches are listed, where the log has so many entries.
abbrev pub both_list : ℕ → List Deed → List Deed
both_list length past = cache_lists Jobs length ∷ cache_lists Pods length ∷ past

-- The status of a Job that has begun with a pod.
abbrev pub begun_status : JobStatus
begun_status = record empty_status { active = 1; start = Some sample_start }

-- The first sync of a Job makes a pod, and writes that it is active.
abbrev pub first_sync : JobSpec → List Deed
first_sync spec =
    sync_steps reply.Ended 3 ∷ sync_steps (status_written 3) 3 ∷ sync_steps (pod_made None 2 2) 2 ∷ sync_begins 1 1 1
    ∷ both_list 1 (job_is_made spec ∷ [])

-- ---- a failure that is decided

-- It, once its failure is decided.
abbrev pub doomed_status : JobStatus
doomed_status = record begun_status { conditions = at_deadline FailureTarget ∷ [] }

-- The deadline passes. The sync that decides the failure marks no pod, nor does the next one.
abbrev pub unmarked_pod : Wrong
unmarked_pod = record {
  deeds =
      sync_steps reply.Ended 4 ∷ sync_begins 4 4 4 ∷ both_list 4 (
      done (does.Clock 0) (reply.Now (sample_start + 60)) 4
      ∷ sync_steps reply.Ended 4 ∷ sync_steps (status_written 4) 4 ∷ sync_begins 3 3 3 ∷ both_list 3 (
      done (does.Clock 60) (reply.Now (sample_start + 60)) 3 ∷ first_sync minute_spec));
  log =
      status_put 4 doomed_status minute_spec ∷ status_put 3 begun_status minute_spec
      ∷ PodPut (pi_pod 2 None 2) ∷ pi_put minute_spec ∷ [];
}

-- The first failure is over the limit.
abbrev pub once_spec : JobSpec
once_spec = record sample_spec { backoff_limit = 0 }

abbrev pub over_limit : Condition
over_limit =
    record { kind = FailureTarget; status = true; reason = BackoffLimitExceeded; since = sample_start }

-- The Job, suspended, with the status.
abbrev pub asleep : ℕ → JobStatus → Job
asleep version status =
    record (pi_job (record once_spec { suspend = true })) { status = status; version = version_at version }

-- The pod fails, and the Job is suspended. The sync counts the pod and decides the failure, and neither it nor the next
-- one writes the end.
abbrev pub unwritten_end : Wrong
unwritten_end = record {
  deeds =
      sync_steps reply.Ended 8 ∷ sync_begins 8 8 8 ∷ both_list 8 (
      sync_steps reply.Ended 8 ∷ sync_steps (status_written 8) 8 ∷ sync_steps (pod_released 2 7) 7
      ∷ sync_steps (status_written 6) 6 ∷ sync_begins 5 5 5 ∷ both_list 5 (
      done (does.Update pi_key None (record no_change { suspend = Some true })) (written_at 5) 5
      ∷ pod_exits 2 1 4 ∷ first_sync once_spec));
  log =
      JobPut (asleep 8 (record empty_status { failed = 1; start = Some sample_start; conditions = over_limit ∷ [] }))
      ∷ PodPut (stripped 7 (in_phase Failed 4 (pi_pod 2 None 2)))
      ∷ JobPut (asleep 6 (record (lists [] (2 ∷ [])) { start = Some sample_start; conditions = over_limit ∷ [] }))
      ∷ JobPut (asleep 5 begun_status)
      ∷ PodPut (in_phase Failed 4 (pi_pod 2 None 2)) ∷ status_put 3 begun_status once_spec
      ∷ PodPut (pi_pod 2 None 2) ∷ pi_put once_spec ∷ [];
}

-- ---- orphans

-- The Job is deleted, and both caches are told. The sync that then sees the pod without its Job asks for nothing.
abbrev pub kept_orphan : Wrong
kept_orphan = record {
  deeds =
      sync_steps reply.Ended 4 ∷ sync_begins 4 4 4
      ∷ cache_is_told Pods 4 4 ∷ cache_is_told Pods 3 4 ∷ cache_is_told Pods 2 4 ∷ cache_is_told Jobs 4 4 ∷ cache_is_told Jobs 3 4 ∷ cache_is_told Jobs 2 4
      ∷ done (does.Delete pi_key) (reply.Removed (version_at 4)) 4 ∷ first_sync sample_spec;
  log =
      JobGone (record (pi_job sample_spec) { version = version_at 4; status = begun_status })
      ∷ status_put 3 begun_status sample_spec ∷ PodPut (pi_pod 2 None 2) ∷ pi_put sample_spec ∷ [];
}

-- ---- a status

-- The first sync makes one pod, and writes that two are active.
abbrev pub wrong_status : Wrong
wrong_status = record {
  deeds = first_sync sample_spec;
  log =
      status_put 3 (record begun_status { active = 2 }) sample_spec
      ∷ PodPut (pi_pod 2 None 2) ∷ pi_put sample_spec ∷ [];
}
