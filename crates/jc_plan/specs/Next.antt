-- The status that a Job comes to by one sync, were its pods counted at once (batch/v1): without uncounted UIDs,
-- without two writes and without releases. `own` are the Job's own pods.
--     next_totals, next_counted job own    what is counted, with nothing left uncounted
--     next_decided .., next_wants .. the target that is decided, and what is wanted of the pods
--     next_status now backoff job own    the status
--     next_value job basis         that of the basis's Job
--     ListsNoSuccess job           of an Indexed Job no success is listed
use Rattle.std.specs.Prelude.{◌≡◌, ℕ, ◌+◌, List, [], length, Option}
use Rattle.jc_types.specs.declared.objects.Job.{Job}
use Rattle.jc_types.specs.declared.objects.Pod.{Pod}
use Rattle.jc_types.specs.declared.specifications.Mode.TheVariants.{Indexed}
use Rattle.jc_types.specs.declared.statuses.CondKind.{CondKind}
use Rattle.jc_types.specs.declared.statuses.JobStatus.{JobStatus}
use Rattle.jc_types.specs.declared.statuses.Reason.{Reason}
use Rattle.jc_types.specs.declared.syncs.Backoff.{Backoff}
use Rattle.jc_states.specs.declared.bases.Basis.{Basis}
use Rattle.jc_types.specs.declared.syncs.CountIn.{CountIn}
use Rattle.jc_states.specs.Bases.{own_pods}
use Rattle.jc_states.specs.UidLists.{uids_of}
use Rattle.jc_account.specs.Accounts.{completed_in}
use Rattle.jc_account.specs.Judged.{left_with, newly}
use Rattle.jc_account.specs.Modes.{gain, succeeded_after}
use Rattle.jc_failpol.specs.declared.outcomes.Outcome.TheVariants.{Failed, Succeeded}
use Rattle.jc_finish.specs.Decisions.{decided}
use Rattle.jc_manage.specs.declared.results.Wants.{Wants}
use Rattle.jc_perindex.specs.Failures.{filled_counts}
use Rattle.jc_plan.specs.Statuses.{filled, is_over, is_end_decided, wants_at}

-- What is counted: each total with its list and with the pods that are judged now, and of an Indexed Job the
-- completed indexes with those of the new successes. Nothing stays uncounted but the pods that are left over. Of failed
-- indexes nothing is said yet.
abbrev pub next_totals : Job → List Pod → CountIn
next_totals job own = record {
  uncounted_succeeded = [];
  uncounted_failed = [];
  succeeded =
      succeeded_after job.spec.mode
      (job.status.succeeded + length job.status.uncounted_succeeded + length (newly job own Succeeded)) (completed_in job own);
  failed = job.status.failed + length job.status.uncounted_failed + length (newly job own Failed);
  completed = completed_in job own;
  failed_indexes = [];
  index_failures = [];
  releases = [];
  new_succeeded = gain job.spec.mode (newly job own Succeeded) job.status.completed (completed_in job own);
  new_failed = length (newly job own Failed);
  judged_failed = uids_of (newly job own Failed);
  left_succeeded = length (left_with job own Succeeded);
  left_failed = length (left_with job own Failed);
}

-- The same with the failures of each index and the indexes that have failed.
abbrev pub next_counted : Job → List Pod → CountIn
next_counted job own = filled_counts job own (next_totals job own)

-- The target that is decided with these counts.
abbrev pub next_decided : ℕ → Job → List Pod → Option (CondKind × Reason)
next_decided now job own = decided (next_counted job own) now job own

-- What is wanted of the pods with these counts.
abbrev pub next_wants : ℕ → Backoff → Job → List Pod → Wants
next_wants now backoff job own =
    wants_at now backoff (is_end_decided job (next_decided now job own)) job own (next_counted job own)

-- The status: its end is due where a target stands or is decided, and no pod is open or left over.
unfoldable pub next_status : ℕ → Backoff → Job → List Pod → JobStatus
next_status now backoff job own =
    filled now job own (next_counted job own) (next_decided now job own) (next_wants now backoff job own)
    (is_over (is_end_decided job (next_decided now job own)) own (next_counted job own))

-- That of the basis's Job.
abbrev pub next_value : Job → Basis → JobStatus
next_value job basis = next_status basis.now basis.backoff job (own_pods job basis.pods)

-- Of an Indexed Job no success is listed.
abbrev pub ListsNoSuccess : Job → Type 0
ListsNoSuccess job = job.spec.mode ≡ Indexed → job.status.uncounted_succeeded ≡ []
