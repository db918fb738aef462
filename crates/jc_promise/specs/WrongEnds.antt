-- Histories of machines that end a Job too early, or that do not play the script as it stands.
--     early_end          a Job ends while a marked pod of it is open
--     skipped_command    a lane begins with its second command
use Rattle.std.specs.Prelude.{[], ◌∷◌, ℕ, ◌+◌, None, Some, true}
use Rattle.jc_log.specs.Acts as does
use Rattle.jc_types.specs.declared.actions.Action1.TheVariants as act
use Rattle.jc_types.specs.declared.actions.Script.{Script}
use Rattle.jc_types.specs.declared.objects.Entry.TheVariants.{JobPut, PodPut}
use Rattle.jc_types.specs.declared.objects.Job.{Job}
use Rattle.jc_types.specs.declared.replies.Reply.TheVariants as reply
use Rattle.jc_types.specs.declared.runs.Event.TheVariants as event
use Rattle.jc_types.specs.declared.runs.History.{History}
use Rattle.jc_types.specs.declared.specifications.JobSpec.{JobSpec}
use Rattle.jc_types.specs.declared.statuses.CondKind.{CondKind}
use Rattle.jc_types.specs.declared.statuses.CondKind.TheVariants.{Failed, FailureTarget}
use Rattle.jc_types.specs.declared.statuses.Condition.{Condition}
use Rattle.jc_types.specs.declared.statuses.Reason.TheVariants.{DeadlineExceeded}
use Rattle.jc_log.specs.Requests.{empty_status}
use Rattle.jc_history.specs.Samples.{pi_key, pod_made, pod_marked, sample_script, sample_spec, sample_start, status_written, version_at}
use Rattle.jc_promise.specs.Wrong.{Wrong, sync_begins, done, pi_put, job_is_made, pi_job, pi_pod, sync_steps, with_marked}

-- A Job with a deadline of a minute.
abbrev pub minute_spec : JobSpec
minute_spec = record sample_spec { deadline = Some 60 }

-- Its condition of the kind, since the deadline.
abbrev pub at_deadline : CondKind → Condition
at_deadline kind =
    record { kind = kind; status = true; reason = DeadlineExceeded; since = sample_start + 60 }

-- It, once it has failed.
abbrev pub failed_job : Job
failed_job = record (pi_job minute_spec) {
  version = version_at 4;
  status = record empty_status { conditions = at_deadline FailureTarget ∷ at_deadline Failed ∷ [] };
}

-- The deadline passes, the pod is marked, and the Job has failed before the pod has ended.
abbrev pub early_end : Wrong
early_end = record {
  deeds =
      sync_steps (status_written 4) 4 ∷ sync_steps (pod_marked 2 3) 3 ∷ sync_begins 1 2 2
      ∷ done (does.Clock 60) (reply.Now (sample_start + 60)) 2 ∷ sync_steps (pod_made None 2 2) 2 ∷ sync_begins 1 1 1
      ∷ job_is_made minute_spec ∷ [];
  log =
      JobPut failed_job ∷ PodPut (with_marked 3 (pi_pod 2 None 2)) ∷ PodPut (pi_pod 2 None 2)
      ∷ pi_put minute_spec ∷ [];
}

-- ---- commands

-- The same command twice.
abbrev pub twice_script : Script
twice_script = sample_script (act.Delete pi_key ∷ act.Delete pi_key ∷ [])

-- The history in which the command at the place came first.
abbrev pub first_command : ℕ → History
first_command number = record {
  events = record {
    items = record { event = event.Command 0 number; reply = reply.NotFound; length = version_at 0 } ∷ [];
    room = 0;
  };
}

-- The lane begins with its second command.
abbrev pub skipped_command : History
skipped_command = first_command 1
