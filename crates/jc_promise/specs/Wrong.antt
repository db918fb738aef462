-- Of what the wrong histories are made that stand beside the worked one: the Job `d/pi` of UID 1, its pods,
-- and deeds. Each history is what a machine would make that is wrong in one place.
--     Wrong                          its deeds, newest first, and the log that they made
--     pi_job spec                    the Job as it is made, by the first entry
--     pi_pod uid index version       a pod of it as it is made
--     in_phase, stripped, with_marked    the pod after a later entry
--     pi_put, status_put            the entries of the Job: as it is made, and with a status
--     lists succeeded failed         the status that lists these UIDs, and no more
--     done act reply length          a deed, and how many entries the log has after it
--     job_is_made .. exits               those of which the histories consist
use Rattle.std.specs.Prelude.{ℕ, pos, false, true, List, [], ◌∷◌, map, Option, None, Some}
use Rattle.jc_log.specs.Acts as does
use Rattle.jc_types.specs.declared.objects.Entry.{Entry}
use Rattle.jc_types.specs.declared.objects.Entry.TheVariants.{JobPut}
use Rattle.jc_types.specs.declared.objects.Job.{Job}
use Rattle.jc_types.specs.declared.objects.Phase.{Phase}
use Rattle.jc_types.specs.declared.objects.Phase.TheVariants.{Pending}
use Rattle.jc_types.specs.declared.objects.Pod.{Pod}
use Rattle.jc_types.specs.declared.replies.Reply.{Reply}
use Rattle.jc_types.specs.declared.specifications.JobSpec.{JobSpec}
use Rattle.jc_types.specs.declared.specifications.Restart.TheVariants.{Never}
use Rattle.jc_types.specs.declared.statuses.JobStatus.{JobStatus}
use Rattle.jc_log.specs.Acts.{Act}
use Rattle.jc_log.specs.Deeds.{Deed}
use Rattle.jc_log.specs.Requests.{empty_status}
use Rattle.jc_history.specs.Samples.{job_created, main_name, pi_key, sample_start, sync_begun, uid_of, version_at, written_at}

-- A history of a wrong machine, both newest first.
pub record Wrong : Type 0 where
  pub deeds : List Deed
  pub log : List Entry

-- ---- objects

-- The Job as it is made.
abbrev pub pi_job : JobSpec → Job
pi_job spec = record {
  key = pi_key;
  uid = uid_of 1;
  version = version_at 1;
  created = sample_start;
  spec = spec;
  status = empty_status;
}

-- A pod of it as it is made.
abbrev pub pi_pod : ℕ → Option ℕ → ℕ → Pod
pi_pod uid index version = record {
  uid = uid_of uid;
  version = version_at version;
  owner = pi_key;
  owner_uid = uid_of 1;
  serial = 0;
  index = index;
  restart = Never;
  phase = Pending;
  containers = record { name = main_name; init = false; exit = None; restarts = 0 } ∷ [];
  conditions = [];
  marked = None;
  tracked = true;
  created = sample_start;
}

-- The pod in the phase.
abbrev pub in_phase : Phase → ℕ → Pod → Pod
in_phase phase version pod = record pod { phase = phase; version = version_at version }

-- The pod without its finalizer.
abbrev pub stripped : ℕ → Pod → Pod
stripped version pod = record pod { tracked = false; version = version_at version }

-- The pod with the mark.
abbrev pub with_marked : ℕ → Pod → Pod
with_marked version pod = record pod { marked = Some sample_start; version = version_at version }

-- The entry that makes the Job.
abbrev pub pi_put : JobSpec → Entry
pi_put spec = JobPut (pi_job spec)

-- The entry that puts it with the status.
abbrev pub status_put : ℕ → JobStatus → JobSpec → Entry
status_put version status spec =
    JobPut (record (pi_job spec) { status = status; version = version_at version })

-- The status that lists pods of these UIDs as uncounted, and says nothing else.
abbrev pub lists : List ℕ → List ℕ → JobStatus
lists succeeded failed =
    record empty_status { uncounted_succeeded = map uid_of succeeded; uncounted_failed = map uid_of failed }

-- ---- deeds

-- A deed, and the length of the log after it.
abbrev pub done : Act → Reply → ℕ → Deed
done act reply length = record { lane = None; act = act; reply = reply; length = version_at length }

-- The Job is created.
abbrev pub job_is_made : JobSpec → Deed
job_is_made spec = done (does.Create pi_key spec) (job_created 1 1) 1

-- A sync begins, with the caches at these versions.
abbrev pub sync_begins : ℕ → ℕ → ℕ → Deed
sync_begins jobs_at pods_at length = done (does.Begin 0 0) (sync_begun jobs_at pods_at) length

-- A step of it.
abbrev pub sync_steps : Reply → ℕ → Deed
sync_steps reply length = done (does.Step 0 0) reply length

-- The pod exits with the code.
abbrev pub pod_exits : ℕ → ℕ → ℕ → Deed
pod_exits uid code length = done (does.Finish (uid_of uid) (pos code)) (written_at length) length
