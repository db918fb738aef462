-- The moments that are still to come, and the keys that are still to be synced, as a controller has noted them.
--     deadline_by_status job                the deadline of a Job by the start time that its status has
--     held_back now log notes               the Jobs that the controller holds back
--     moments_to_come now log notes         how many moments are ahead: deadlines, and ends of backoffs
--     is_moment_to_come now log notes k m   m is such a moment of the Job of the key
--     keys_to_come now log notes            2 for each key in line, and 3 for each that is delayed to another moment
--     TicksIdly now later log notes         the clock moves on, no key is in line, and no moment passes
--     ShowsAll notes log basis              the basis has what the log and the notes say of its key
--     empty_sync w basis ended notes        the notes after a sync that asks for nothing
use Rattle.std.specs.Prelude.{◌≡◌, ℕ, ◌+◌, ◌*◌, ◌≤◌, ◌==◌, nat_lt, Bool, false, not, ◌&&◌, ◌||◌, List, [], ◌∷◌, length, filter, if◌then◌else◌, Option, Some, None}
use Rattle.jc_types.specs.declared.objects.Entry.{Entry}
use Rattle.jc_types.specs.declared.objects.Job.{Job}
use Rattle.jc_types.specs.declared.objects.KeyNames.{KeyNames as Key}
use Rattle.jc_types.specs.declared.syncs.Backoff.{Backoff}
use Rattle.jc_states.specs.declared.bases.Basis.{Basis}
use Rattle.jc_states.specs.Conditions.{has_target}
use Rattle.jc_log.specs.Log.{job_in, jobs_in, pods_under}
use Rattle.jc_log.specs.Range.{as_moment}
use Rattle.jc_control.specs.declared.ends.SyncEnd.TheVariants as end
use Rattle.jc_finish.specs.Starts.{end_after}
use Rattle.jc_plan.specs.Backoffs.{opening}
use Rattle.jc_plan.specs.Plans.{planned}
use Rattle.jc_history.specs.Delays.{delays}
use Rattle.jc_history.specs.Lines.{line}
use Rattle.jc_history.specs.Notes.{Note, Began, Ended, Ticked}
use Rattle.jc_history.specs.Registers.{backoff}
use Rattle.jc_coming.specs.Drafts.{is_ahead}

-- The deadline of a Job by the start time that its status has; none where it is suspended or its end is decided. Of
-- a Job that starts or is resumed only now it is not the one in force: that one moves with the clock.
abbrev pub deadline_by_status : Job → Option ℕ
deadline_by_status job =
    if job.spec.suspend || has_target job.status.conditions then None
    else as_moment (end_after job.spec.deadline job.status.start)

-- The Jobs with such a deadline ahead.
abbrev pub with_deadlines : ℕ → List Entry → List (Key × Job)
with_deadlines now log = filter (λ row. is_ahead now (deadline_by_status row.1)) (jobs_in log)

-- The Jobs that are delayed: the opening of the controller's backoff is ahead.
abbrev pub held_back : ℕ → List Entry → List Note → List (Key × Job)
held_back now log notes = filter (λ row. is_ahead now (opening (backoff row.0 notes))) (jobs_in log)

-- How many moments of Jobs are ahead.
abbrev pub moments_to_come : ℕ → List Entry → List Note → ℕ
moments_to_come now log notes = length (with_deadlines now log) + length (held_back now log notes)

-- The moment is this one.
abbrev pub is_at : Option ℕ → ℕ → Bool
is_at None m = false
is_at (Some second) m = second == m

-- It is the deadline of the Job, or the opening of the backoff.
abbrev pub is_moment_of : Backoff → ℕ → Option Job → Bool
is_moment_of backoff m None = false
is_moment_of backoff m (Some job) = is_at (deadline_by_status job) m || is_at (opening backoff) m

-- It is such a moment of the Job of the key, and ahead.
abbrev pub is_moment_to_come : ℕ → List Entry → List Note → Key → ℕ → Bool
is_moment_to_come now log notes k m =
    nat_lt now m && is_moment_of (backoff k notes) m (job_in k log)

-- The keys that are delayed to another moment: one that has come, or at which nothing is to be done.
abbrev pub astray : ℕ → List Entry → List Note → List (Key × ℕ)
astray now log notes =
    filter (λ row. not (is_moment_to_come now log notes row.0 row.1)) (delays notes)

-- How many turns of keys are still to come, at most. A key that is astray costs one more: once its moment has come
-- it goes into line.
abbrev pub keys_to_come : ℕ → List Entry → List Note → ℕ
keys_to_come now log notes = 2 * length (line notes) + 3 * length (astray now log notes)

-- The clock moves on to the later moment, no key is in line, and no moment passes.
pub record TicksIdly (now later : ℕ) (log : List Entry) (notes : List Note) : Type 0 where
  pub on : now ≤ later
  pub idle : line notes ≡ []
  pub same : moments_to_come later log (Ticked later ∷ notes) ≡ moments_to_come now log notes

-- The basis has the Job and the pods of its key as the log has them, and the key's backoff as the notes have it.
pub record ShowsAll (notes : List Note) (log : List Entry) (basis : Basis) : Type 0 where
  pub job : basis.job ≡ job_in basis.key log
  pub pods : basis.pods ≡ pods_under basis.key log
  pub backed_off : basis.backoff ≡ backoff basis.key notes

-- The notes after a sync that asks for nothing: it began, and ended at this moment.
abbrev pub empty_sync : ℕ → Basis → ℕ → List Note → List Note
empty_sync w basis ended notes =
    Ended w basis (end.Ended (planned basis).next) ended ∷ Began w basis ∷ notes
