-- The plan of a sync (batch/v1, KEP-2307).
--     changed old new       the new status, where it differs from the old one
--     earlier_of a b        the earlier of two moments, where they are there
--     planned basis         the plan of the basis
--     PlanOf                a plan with its basis
--     last_status plan old  the status that is left where the old one is that of the Job
--     WritesNothing plan    neither status is written
--     IsDated backoff       where there are failures, the moment of the last of them is known
use Rattle.std.specs.Prelude.{◌≡◌, ℕ, ◌<◌, nat_le, [], Option, Some, None, IsSome, unwrap_or, if◌then◌else◌}
use Rattle.jc_types.specs.declared.objects.Job.{Job}
use Rattle.jc_types.specs.declared.statuses.JobStatus.{JobStatus}
use Rattle.jc_types.specs.declared.syncs.Backoff.{Backoff}
use Rattle.jc_states.specs.declared.bases.Basis.{Basis}
use Rattle.jc_types.specs.Equality.{same_status}
use Rattle.jc_finish.specs.Starts.{deadline_of}
use Rattle.jc_plan.specs.declared.plans.Planned.{Planned}
use Rattle.jc_plan.specs.Releases.{releases_of}
use Rattle.jc_plan.specs.Statuses.{first_value, second_value, wants_in}

-- The new status, where it differs from the old one.
abbrev pub changed : JobStatus → JobStatus → Option JobStatus
changed old new = if same_status old new then None else Some new

-- The earlier of two moments, where they are there.
abbrev pub earlier_of : Option ℕ → Option ℕ → Option ℕ
earlier_of None b = b
earlier_of (Some a) None = Some a
earlier_of (Some a) (Some b) = if nat_le a b then Some a else Some b

-- The plan for a Job. Its key is to be synced again when pods that are delayed may be made, or at its deadline.
abbrev pub planned_for : Basis → Option Job → Planned
planned_for basis None = record {
  creates = [];
  marks = [];
  let_goes = [];
  first = None;
  releases = releases_of basis;
  second = None;
  backoff = basis.backoff;
  next = None;
}
planned_for basis (Some job) = record {
  creates = (wants_in job basis).creates;
  marks = (wants_in job basis).marks;
  let_goes = (wants_in job basis).let_goes;
  first = changed job.status (first_value job basis);
  releases = releases_of basis;
  second = changed (first_value job basis) (second_value job basis);
  backoff = (wants_in job basis).backoff;
  next = earlier_of (wants_in job basis).next (deadline_of basis.now job.spec job.status);
}

-- The plan of a basis. Without a Job, orphans are released and nothing else is done.
unfoldable pub planned : Basis → Planned
planned basis = planned_for basis basis.job

-- A plan with its basis.
pub record PlanOf : Type 0 where
  pub basis : Basis
  pub parts : Planned

-- The status that is left: the second where it is written, else the first where it is, and else the old one.
abbrev pub last_status : Planned → JobStatus → JobStatus
last_status plan old = unwrap_or plan.second (unwrap_or plan.first old)

-- Neither status is written.
abbrev pub WritesNothing : Planned → Type 0
WritesNothing plan = (plan.first ≡ None) × (plan.second ≡ None)

-- Where there are failures, the moment of the last of them is known.
abbrev pub IsDated : Backoff → Type 0
IsDated backoff = 0 < backoff.failures → IsSome backoff.last
