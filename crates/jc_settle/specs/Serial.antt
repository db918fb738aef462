-- A settle is serial: syncs run one at a time, and each on all that the log has.
--     IsFirst act events                   the act is that of the first of the events
--     IsSettling shape run past            each deed of the run, the newest first, did what was first available
--     SettlesTo shape past now             the deeds that came between these are those of a settle
--     NoneBegan run                        no sync began in the run
--     HasSync shape deeds c w              the worker has a sync under way
--     IsAlone shape deeds c w              no other worker has a sync under way
--     WritesAlone shape c w run past       each deed of the run is a step of the worker, or writes nothing
--     RunsAlone shape run past c w basis   the worker's sync began in the run, alone and on the whole log, and is alone
use Rattle.std.specs.Prelude.{◌≡◌, ◌⊎◌, ℕ, ◌<◌, Bool, true, false, List, [], ◌∷◌, ◌++◌, Some, is_some}
use Rattle.std.specs.List.{AllByRecursion as Each}
use Rattle.jc_types.specs.declared.replies.Reply.TheVariants.{Begun}
use Rattle.jc_types.specs.declared.runs.Shape.{Shape}
use Rattle.jc_types.specs.declared.runs.Sys.{Sys}
use Rattle.jc_states.specs.declared.bases.Basis.{Basis}
use Rattle.jc_control.specs.Schedules.{log_end}
use Rattle.jc_log.specs.Acts as does
use Rattle.jc_log.specs.Acts.{Act}
use Rattle.jc_log.specs.Deeds.{Deed, act_of_system}
use Rattle.jc_history.specs.Available.{available}
use Rattle.jc_history.specs.Diaries.{moment}
use Rattle.jc_history.specs.Fresh.{basis as basis_of}
use Rattle.jc_history.specs.Registers.{register}
use Rattle.jc_history.specs.Replies.{AppendsNothing, diary, log_given}
use Rattle.jc_settle.specs.Comes.{NoSyncIsUnderWay}

-- The act is that of the first of the events.
abbrev pub IsFirst : Act → List Sys → Type 0
IsFirst act [] = ⊥
IsFirst act (event ∷ events) = act_of_system event ≡ act

-- Each deed of the run, the newest first, did what was the first that was available; the run came behind these deeds.
abbrev pub IsSettling : Shape → List Deed → List Deed → Type 0
IsSettling shape [] past = Unit {0}
IsSettling shape (d ∷ run) past =
    IsFirst d.act (available shape (run ++ past) (log_given shape (run ++ past)))
    × IsSettling shape run past

-- The deeds that came between these are those of a settle.
pub record SettlesTo (shape : Shape) (past now : List Deed) : Type 0 where
  pub run : List Deed
  pub are : now ≡ run ++ past
  pub settling : IsSettling shape run past

-- The act is a begin.
abbrev pub is_begin_of_any : Act → Bool
is_begin_of_any (does.Begin controller worker) = true
is_begin_of_any other = false

-- No sync began in the run.
abbrev pub NoneBegan : List Deed → Type 0
NoneBegan run = Each (λ (d : Deed). is_begin_of_any d.act ≡ false) run

-- The worker has a sync under way.
abbrev pub HasSync : Shape → List Deed → ℕ → ℕ → Type 0
HasSync shape deeds c w = is_some (register w (diary shape c deeds)) ≡ true

-- No worker but this one has a sync under way.
abbrev pub IsAlone : Shape → List Deed → ℕ → ℕ → Type 0
IsAlone shape deeds c w =
    (e v : ℕ) → e < shape.controllers → v < shape.workers
    → HasSync shape deeds e v → (c ≡ e) × (w ≡ v)

-- Each deed of the run is a step of the worker, or writes nothing.
abbrev pub WritesAlone : Shape → ℕ → ℕ → List Deed → List Deed → Type 0
WritesAlone shape c w [] past = Unit {0}
WritesAlone shape c w (d ∷ run) past =
    ((d.act ≡ does.Step c w) ⊎ AppendsNothing shape (run ++ past) d)
    × WritesAlone shape c w run past

-- The worker's sync began in the run, where no other was under way. It saw the whole log, what was written since are its
-- own steps, and it is alone.
pub record RunsAlone (shape : Shape) (run past : List Deed) (c w : ℕ) (basis : Basis) : Type 0 where
  pub since : List Deed
  pub begin : Deed
  pub before : List Deed
  pub parts : run ≡ since ++ begin ∷ before
  pub act : begin.act ≡ does.Begin c w
  pub reply : begin.reply ≡ Begun basis.key basis.jobs_at basis.pods_at
  pub none : NoSyncIsUnderWay shape (before ++ past) (log_given shape (before ++ past))
  pub saw : basis
      ≡ basis_of (diary shape c (before ++ past)) (log_given shape (before ++ past))
      (moment shape (before ++ past)) basis.key (log_end (log_given shape (before ++ past)))
      (log_end (log_given shape (before ++ past)))
  pub own : WritesAlone shape c w since (begin ∷ before ++ past)
  pub alone : IsAlone shape (run ++ past) c w

-- A sync that is under way in a settle went on from before it, and none has begun since; or it runs alone.
abbrev pub IsOldOrAlone : Shape → List Deed → List Deed → ℕ → ℕ → Basis → Type 0
IsOldOrAlone shape run past c w basis =
    (NoneBegan run × (register w (diary shape c past) ≡ Some basis))
    ⊎ RunsAlone shape run past c w basis
