-- When a Job starts, and when its deadline is (batch/v1). `now` is the moment of the sync.
--     begins suspend start conditions   the Job starts now: for the first time, or since it is resumed
--     start_of now spec status          its start time in force
--     end_after seconds start           the second that lies so many seconds after the start
--     deadline_of now spec status       the moment of its deadline, where it has one to wait for
use Rattle.std.specs.Prelude.{ℕ, ◌+◌, Bool, not, ◌&&◌, ◌||◌, List, if◌then◌else◌, nat_lt, Option, Some, None, is_none, option_and_then}
use Rattle.jc_moment.specs.Range.{as_moment}
use Rattle.jc_types.specs.declared.specifications.JobSpec.{JobSpec}
use Rattle.jc_types.specs.declared.statuses.CondKind.TheVariants.{Suspended}
use Rattle.jc_types.specs.declared.statuses.Condition.{Condition}
use Rattle.jc_types.specs.declared.statuses.JobStatus.{JobStatus}
use Rattle.jc_states.specs.declared.bases.Basis.{Basis}
use Rattle.jc_states.specs.Conditions.{stands, has_target, has_end}

-- The Job is not suspended, how it will end is not decided, it has not ended, and either it never started
-- or it was suspended until now.
abbrev pub begins : Bool → Option ℕ → List Condition → Bool
begins suspend start conditions =
    not suspend
    && (not (has_target conditions || has_end conditions) && (is_none start || stands Suspended conditions))

-- The start time in force: now, where the Job starts now, and else the status's own.
abbrev pub start_of : ℕ → JobSpec → JobStatus → Option ℕ
start_of now spec status = if begins spec.suspend status.start status.conditions then Some now else status.start

-- The second that lies so many seconds after the start, where both are given.
abbrev pub end_after : Option ℕ → Option ℕ → Option ℕ
end_after None start = None
end_after (Some seconds) None = None
end_after (Some seconds) (Some start) = Some (start + seconds)

-- The moment of the deadline of a Job that is not suspended and whose end is not decided.
abbrev pub deadline_of : ℕ → JobSpec → JobStatus → Option ℕ
deadline_of now spec status =
    if spec.suspend || has_target status.conditions then None
    else as_moment (end_after spec.deadline (start_of now spec status))

-- The start time in force of the basis's Job.
abbrev pub start_in_force : Basis → Option ℕ
start_in_force basis = option_and_then (λ job. start_of basis.now job.spec job.status) basis.job

-- The moment of the deadline of the basis's Job.
abbrev pub next_deadline : Basis → Option ℕ
next_deadline basis = option_and_then (λ job. deadline_of basis.now job.spec job.status) basis.job
