-- What a sync on one thread appends: a begin, and the steps of its worker until it has no sync.
--     begin_event c w, stepping_event c w  the events of the system
--     StepsOn c w old new                 from the old to the new the worker made steps alone
--     IsSynced c w old new                so it did after a begin, or nothing happened
--     IsLast reply pasts                  the reply to the newest event
--     tells_begin reply                   a sync began
--     StartsCurrent seen c w k job        nothing keeps a sync of the worker from the key's next status
--     next_seen seen c k job              that status
--     StepsWithoutStatus c w old new      steps that wrote no status
use Rattle.std.specs.Prelude.{◌≡◌, ℕ, Bool, true, false, List, ◌++◌, None, Some, map, slice_get}
use Rattle.std.specs.List.{AllByRecursion as Each}
use Rattle.jc_types.specs.declared.replies.Reply.{Reply}
use Rattle.jc_types.specs.declared.replies.Reply.TheVariants as reply
use Rattle.jc_types.specs.declared.runs.Event.{Event}
use Rattle.jc_types.specs.declared.runs.Event.TheVariants as event
use Rattle.jc_types.specs.declared.runs.Past.{Past}
use Rattle.jc_types.specs.declared.runs.Sys.TheVariants as sys
use Rattle.jc_types.specs.declared.objects.Job.{Job}
use Rattle.jc_types.specs.declared.statuses.JobStatus.{JobStatus}
use Rattle.jc_types.specs.declared.objects.KeyNames.{KeyNames as Key}
use Rattle.jc_types.specs.declared.objects.Kind.{Kind}
use Rattle.jc_runs.specs.Bases.{own_pods}
use Rattle.jc_log.specs.Log.{job_in, pods_under}
use Rattle.jc_team.specs.Schedules.{log_end}
use Rattle.jc_runs.specs.Next.{next_status}
use Rattle.jc_history.specs.Diaries.{moment}
use Rattle.jc_history.specs.Lines.{line}
use Rattle.jc_history.specs.Numbers.{number}
use Rattle.jc_history.specs.Registers.{backoff, pending, register}
use Rattle.jc_runs.specs.QuietRuns.{AreSteps, WritesNoStatus}
use Rattle.jc_runs.specs.Seen.{Seen, deeds_in, deeds_seen, happened, log_seen}
use Rattle.jc_machine.specs.DiariesSeen.{diary_seen}

-- The worker begins a sync, or steps.
abbrev pub begin_event : ℕ → ℕ → Event
begin_event c w = event.System (sys.Begin c w)

abbrev pub stepping_event : ℕ → ℕ → Event
stepping_event c w = event.System (sys.Step c w)

-- The new is the old and steps of the worker alone, each while it had a sync.
pub record StepsOn (c w : ℕ) (old new : Seen) : Type 0 where
  pub run : List Past
  pub script : new.script ≡ old.script
  pub shape : new.shape ≡ old.shape
  pub pasts : new.pasts ≡ run ++ old.pasts
  pub events : Each (λ (past : Past). past.event ≡ stepping_event c w) run
  pub steps : AreSteps old.shape c w (deeds_in old.script run) (deeds_seen old)

-- Nothing happened, or the worker began, and then made steps alone.
pub data IsSynced (c w : ℕ) (old new : Seen) : Type 0 where
  Nothing : new ≡ old → IsSynced c w old new
  Began : StepsOn c w (happened old (begin_event c w)) new → IsSynced c w old new

-- The newest event was replied to so.
abbrev pub IsLast : Reply → List Past → Type 0
IsLast reply pasts = slice_get (map (λ (past : Past). past.reply) pasts) 0 ≡ Some reply

-- A sync began.
abbrev pub tells_begin : Reply → Bool
tells_begin (reply.Begun key jobs_at pods_at) = true
tells_begin other = false

-- The worker is free and meets no fault, both caches have seen the whole log, and the Job of the
-- line's first key is there.
pub record StartsCurrent (seen : Seen) (c w : ℕ) (k : Key) (job : Job) : Type 0 where
  pub free : register w (diary_seen seen c) ≡ None
  pub no_fault : pending w (diary_seen seen c) ≡ None
  pub caches : (kind : Kind) → number kind (diary_seen seen c) ≡ Some (log_end (log_seen seen))
  pub first : slice_get (line (diary_seen seen c)) 0 ≡ Some k
  pub there : job_in k (log_seen seen) ≡ Some job

-- The next status of the Job.
abbrev pub next_seen : Seen → ℕ → Key → Job → JobStatus
next_seen seen c k job =
    next_status (moment seen.shape (deeds_seen seen)) (backoff k (diary_seen seen c)) job
    (own_pods job (pods_under k (log_seen seen)))

-- The new is the old and steps of the worker alone, of which none asked for a status.
pub record StepsWithoutStatus (c w : ℕ) (old new : Seen) : Type 0 where
  pub on : StepsOn c w old new
  pub no_status : Each (λ (past : Past). WritesNoStatus past.reply) on.run
