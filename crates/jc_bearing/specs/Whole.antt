-- What a whole sync of a settle does, from its begin to its end.
--     at_version version job        the Job at the version
--     HasAllFor log basis job new   the Job and its own pods are as the plan has them
--     LeavesOthers log basis new    Jobs of other keys, and pods that were made for these, are as they were
--     DoesAll log basis new         both, and all pods are as the plan has them
--     SawLog log basis              the basis is what stands in the log of its key
--     RunsWhole shape past ..       the sync runs alone, does all that it plans, and it is calm again
use Rattle.std.specs.Prelude.{◌≡◌, ◌⊎◌, ℕ, ◌+◌, ◌≤◌, true, false, List, ◌∷◌, ◌++◌, length, Some, None, IfSome}
use Rattle.std.specs.List.{AllByRecursion as Each}
use Rattle.jc_types.specs.declared.numbers.Uid.{Uid}
use Rattle.jc_types.specs.declared.numbers.Version.{Version}
use Rattle.jc_types.specs.declared.objects.Entry.{Entry}
use Rattle.jc_types.specs.declared.objects.Job.{Job}
use Rattle.jc_types.specs.declared.runs.Shape.{Shape}
use Rattle.jc_types.specs.declared.objects.KeyNames.{KeyNames as Key}
use Rattle.jc_types.specs.Keys.{same_key, same_uid}
use Rattle.jc_states.specs.Bases.{own_pods}
use Rattle.jc_states.specs.declared.bases.Basis.{Basis}
use Rattle.jc_log.specs.Acts as does
use Rattle.jc_log.specs.Deeds.{Deed}
use Rattle.jc_log.specs.Log.{job_in, made_for, pods_under}
use Rattle.jc_plan.specs.Plans.{planned}
use Rattle.jc_runs.specs.Diaries.{moment}
use Rattle.jc_runs.specs.Replies.{log_given}
use Rattle.jc_settle.specs.Settles.{IsCalm, is_telling, settled_on}
use Rattle.jc_calm.specs.SettleTurns.{faults_pending}
use Rattle.jc_making.specs.Grants.{AllGranted, LooksNew, job_left}
use Rattle.jc_bearing.specs.Served.{ServesAll}

-- The Job at the version.
abbrev pub at_version : Version → Job → Job
at_version version job = record job { version = version }

-- The Job has the status that the plan leaves, and is else as it was, but for its version. Its own pods are those that
-- were there, as the plan has them, but for some that lost their finalizer and are gone, with the new ones, which look
-- new; of these so many were made as it was to make.
pub record HasAllFor (log : List Entry) (basis : Basis) (job : Job) (new : List Entry) : Type 0 where
  pub version : Version
  pub job_is : job_in basis.key new ≡ Some (at_version version (job_left (planned basis) job))
  pub own : AllGranted (planned basis) (made_for job.uid log) (own_pods job (pods_under basis.key log))
      (own_pods job (pods_under basis.key new))
  pub looks : Each (LooksNew job.spec.template) own.fresh
  pub made : made_for job.uid new ≡ made_for job.uid log + length (planned basis).creates

-- Each Job of another key is as it was, and so are the pods that were made for it; no pod was made for another UID, and
-- where no Job had the key none has it.
pub record LeavesOthers (log : List Entry) (basis : Basis) (new : List Entry) : Type 0 where
  pub jobs : (k : Key) → same_key basis.key k ≡ false → job_in k new ≡ job_in k log
  pub pods : (k : Key) → same_key basis.key k ≡ false → pods_under k new ≡ pods_under k log
  pub made : (u : Uid) → IfSome basis.job (λ job. same_uid job.uid u ≡ false)
      → made_for u new ≡ made_for u log
  pub none : basis.job ≡ None → job_in basis.key new ≡ None

-- All that the plan asks for is so, also of pods whose Job is gone; and Jobs and pods of other keys are as they were.
pub record DoesAll (log : List Entry) (basis : Basis) (new : List Entry) : Type 0 where
  pub its : (job : Job) → basis.job ≡ Some job → HasAllFor log basis job new
  pub others : LeavesOthers log basis new
  pub all : ServesAll log basis new

-- The basis is what stands in the log of its key.
pub record SawLog (log : List Entry) (basis : Basis) : Type 0 where
  pub job : basis.job ≡ job_in basis.key log
  pub pods : basis.pods ≡ pods_under basis.key log

-- The sync that begins there runs alone: after so many events, lists, deliveries and its own steps, it is calm again, and
-- all that it plans is so. The moment is the same, and no fault is new.
pub record RunsWhole (shape : Shape) (past : List Deed) (c w : ℕ) (basis : Basis) (begin : Deed)
    : Type 0 where
  pub events : ℕ
  pub run : List Deed
  pub are : settled_on shape events past ≡ run ++ begin ∷ past
  pub way : Each (λ (d : Deed). (d.act ≡ does.Step c w) ⊎ (is_telling d.act ≡ true)) run
  pub saw : SawLog (log_given shape past) basis
  pub all : DoesAll (log_given shape past) basis (log_given shape (run ++ begin ∷ past))
  pub now_is : moment shape (run ++ begin ∷ past) ≡ moment shape past
  pub calm : IsCalm shape (run ++ begin ∷ past)
  pub faults : faults_pending shape (run ++ begin ∷ past) ≤ faults_pending shape past
