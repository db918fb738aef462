-- What the program promises of a history that it prints.
--     IsToldAlone script shape h       no other history of the script has the same lines
--     RestsWell shape deeds log        where nothing is left to do, no ended pod is forgotten
--     WaitsWell shape deeds log        where nothing is left to do, no Job is stuck
--     ReleasesWell shape deeds log     where nothing is left to do, no orphan is left
--     KeepsPromises script shape h     all together
use Rattle.std.specs.Prelude.{◌≡◌, true, List, Some}
use Rattle.jc_types.specs.declared.actions.Script.{Script}
use Rattle.jc_types.specs.declared.objects.Entry.{Entry}
use Rattle.jc_types.specs.declared.objects.Job.{Job}
use Rattle.jc_types.specs.declared.objects.KeyNames.{KeyNames as Key}
use Rattle.jc_types.specs.declared.runs.History.{History}
use Rattle.jc_types.specs.declared.runs.Shape.{Shape}
use Rattle.jc_log.specs.Deeds.{Deed, deeds}
use Rattle.jc_log.specs.Log.{job_in}
use Rattle.jc_runs.specs.Once.{OnceAtEach}
use Rattle.jc_history.specs.Available.{is_quiescent}
use Rattle.jc_history.specs.Legal.{IsHistory}
use Rattle.jc_history.specs.Replies.{log_given}
use Rattle.jc_runs.specs.Conflicts.{AreToldLater}
use Rattle.jc_bounds.specs.Histories.{HoldsBounds}
use Rattle.jc_causes.specs.Causes.{AreCaused}
use Rattle.jc_rest.specs.LetGo.{EndedAreLetGo}
use Rattle.jc_rest.specs.Lost.{AreLostWell}
use Rattle.jc_rest.specs.Orphans.{LeavesNone}
use Rattle.jc_rest.specs.Stuck.{NoneIsStuck}
use Rattle.jc_promise.specs.QuietEnds.{SyncsWell}
use Rattle.jc_lines.specs.Told.{AreEvents, HaveSameLines}

-- The lines of its events tell the history: no other one of the script has the same.
abbrev pub IsToldAlone : Script → Shape → History → Type 0
IsToldAlone script shape history = (other : History) → IsHistory script shape other
    → AreEvents history.events.items → AreEvents other.events.items
    → HaveSameLines script other.events.items history.events.items
    → other.events.items ≡ history.events.items

-- Where nothing is left to do, each pod that has ended, of a Job that is there, has lost its
-- finalizer.
abbrev pub RestsWell : Shape → List Deed → List Entry → Type 0
RestsWell shape past log = is_quiescent shape past log ≡ true
    → (k : Key) (job : Job) → job_in k log ≡ Some job → EndedAreLetGo job log

-- Where nothing is left to do, each Job that is there has ended; or how it will end is not decided, and it waits
-- for something that only the outside can give. So it is for each controller that has added the Job's key since its
-- pod cache last skipped entries of the log.
abbrev pub WaitsWell : Shape → List Deed → List Entry → Type 0
WaitsWell shape past log = is_quiescent shape past log ≡ true → NoneIsStuck shape past log

-- Where nothing is left to do, each pod whose Job is gone has lost its finalizer, if some controller has added the
-- key of its owner since its cache of Jobs had seen the last entry about the pod or a Job of that key.
abbrev pub ReleasesWell : Shape → List Deed → List Entry → Type 0
ReleasesWell shape past log = is_quiescent shape past log ≡ true → LeavesNone shape past log

-- After each of its events each pod of each Job was counted once, and each finalizer that a sync took
-- was taken justly. Each pod that ever was there and is without its finalizer lost it by one of the
-- deeds: to a command that stripped it, or to a sync that had a cause. A conflict that a sync is told
-- is later than what it sent. A quiet sync comes to the Job's next status. Its lines tell the history.
-- Where one controller runs, each pod that is made fits what its Job allows, and a Job that has ended stays so.
-- At rest no ended pod is forgotten, no Job is stuck, and no orphan is left. Each request of a sync has a
-- cause in what the sync saw.
pub record KeepsPromises (script : Script) (shape : Shape) (history : History) : Type 0 where
  pub once : OnceAtEach (deeds script history) (log_given shape (deeds script history))
  pub lost : (k : Key) (job : Job) → job_in k (log_given shape (deeds script history)) ≡ Some job
      → AreLostWell job (deeds script history) (log_given shape (deeds script history))
  pub conflicts : AreToldLater shape (deeds script history)
  pub syncs : SyncsWell shape (deeds script history) (log_given shape (deeds script history))
  pub told : IsToldAlone script shape history
  pub bounds : shape.controllers ≡ 1 → HoldsBounds shape (deeds script history)
  pub rests : RestsWell shape (deeds script history) (log_given shape (deeds script history))
  pub waits : WaitsWell shape (deeds script history) (log_given shape (deeds script history))
  pub releases : ReleasesWell shape (deeds script history) (log_given shape (deeds script history))
  pub causes : AreCaused shape (deeds script history)
