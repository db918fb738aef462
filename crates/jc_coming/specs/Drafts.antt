-- The statuses that are still to come, where nothing is wanted of any pod. `own` are a Job's own pods.
--     nothing_wanted               no pod is made, marked or let go
--     next_quiet now job own       the next status of a Job of whose pods nothing is wanted
--     is_draft now job own         the Job has another status
--     is_ahead now moment          there is a moment, and it has not come
--     deadline_is_ahead now job    the Job has a deadline, and it has not come
--     held_to_deadlines now log    the Jobs whose deadline is ahead
--     drafts now log               the Jobs whose status is a draft
--     statuses_to_come now log     2 for each of the former, and 1 for each of the latter
--     AsksForNoPod plan            no pod is made, marked, let go or released
--     WritesOnly log basis job status   a sync asks for no pod, and writes the status first
--     showing active any           a small Job that has begun, whose status has so many active pods
use Rattle.std.specs.Prelude.{◌≡◌, ℕ, ◌+◌, ◌*◌, nat_lt, Bool, false, not, List, [], length, filter, Option, Some, None}
use Rattle.jc_types.specs.declared.objects.Entry.{Entry}
use Rattle.jc_types.specs.declared.objects.Job.{Job}
use Rattle.jc_types.specs.declared.objects.KeyNames.{KeyNames as Key}
use Rattle.jc_types.specs.declared.objects.Pod.{Pod}
use Rattle.jc_types.specs.declared.statuses.JobStatus.{JobStatus}
use Rattle.jc_types.specs.Equality.{same_status}
use Rattle.jc_states.specs.declared.bases.Basis.{Basis}
use Rattle.jc_states.specs.Bases.{own_pods}
use Rattle.jc_log.specs.Log.{jobs_in, pods_under}
use Rattle.jc_log.specs.Requests.{empty_status}
use Rattle.jc_history.specs.Samples.{sample_spec}
use Rattle.jc_finish.specs.Starts.{deadline_of}
use Rattle.jc_manage.specs.declared.results.Wants.{Wants}
use Rattle.jc_plan.specs.declared.plans.Planned.{Planned}
use Rattle.jc_plan.specs.Next.{ListsNoSuccess, next_counted, next_decided}
use Rattle.jc_plan.specs.Plans.{planned}
use Rattle.jc_plan.specs.Statuses.{filled, is_over, is_end_decided}

-- No pod is made, marked or let go.
abbrev pub nothing_wanted : Wants
nothing_wanted = record {
  creates = [];
  marks = [];
  let_goes = [];
  next = None;
  backoff = record { failures = 0; last = None };
}

-- The next status of a Job of whose pods nothing is wanted.
unfoldable pub next_quiet : ℕ → Job → List Pod → JobStatus
next_quiet now job own =
    filled now job own (next_counted job own) (next_decided now job own) nothing_wanted
    (is_over (is_end_decided job (next_decided now job own)) own (next_counted job own))

-- The Job has another status.
abbrev pub is_draft : ℕ → Job → List Pod → Bool
is_draft now job own = not (same_status job.status (next_quiet now job own))

-- There is a moment, and it has not come.
abbrev pub is_ahead : ℕ → Option ℕ → Bool
is_ahead now None = false
is_ahead now (Some moment) = nat_lt now moment

-- The Job has a deadline, and it has not come.
abbrev pub deadline_is_ahead : ℕ → Job → Bool
deadline_is_ahead now job = is_ahead now (deadline_of now job.spec job.status)

-- The Jobs whose deadline is ahead.
abbrev pub held_to_deadlines : ℕ → List Entry → List (Key × Job)
held_to_deadlines now log = filter (λ row. deadline_is_ahead now row.1) (jobs_in log)

-- The Jobs whose status is a draft.
abbrev pub drafts : ℕ → List Entry → List (Key × Job)
drafts now log =
    filter (λ row. is_draft now row.1 (own_pods row.1 (pods_under row.0 log))) (jobs_in log)

-- How many statuses are still to come, at most: a Job with a deadline ahead gets one at its deadline, and one for
-- what follows.
abbrev pub statuses_to_come : ℕ → List Entry → ℕ
statuses_to_come now log = 2 * length (held_to_deadlines now log) + length (drafts now log)

-- No pod is made, marked, let go or released.
pub record AsksForNoPod (plan : Planned) : Type 0 where
  pub creates : plan.creates ≡ []
  pub marks : plan.marks ≡ []
  pub let_goes : plan.let_goes ≡ []
  pub releases : plan.releases ≡ []

-- A sync of the Job asks for no pod, and writes the status first. It saw the Job, which lists no success, and the pods of
-- its key as they stand in the log.
pub record WritesOnly (log : List Entry) (basis : Basis) (job : Job) (status : JobStatus) : Type 0 where
  pub saw : basis.job ≡ Some job
  pub pods : basis.pods ≡ pods_under basis.key log
  pub tidy : ListsNoSuccess job
  pub asks : AsksForNoPod (planned basis)
  pub first : (planned basis).first ≡ Some status

-- A small Job that has begun, whose status has so many active pods.
abbrev pub showing : ℕ → Job → Job
showing active any = record any {
  spec = sample_spec;
  status = record empty_status { active = active; start = Some 0 };
}
