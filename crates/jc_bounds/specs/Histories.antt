-- What whole histories of one controller keep: both bounds.
--     KeepsBounds shape past d    a deed keeps both
--     HoldsBounds shape deeds     each deed of the history does
use Rattle.std.specs.Prelude.{◌≡◌, true, List, ◌∷◌, ◌++◌, Some}
use Rattle.jc_types.specs.declared.objects.Entry.TheVariants.{PodPut}
use Rattle.jc_types.specs.declared.objects.Job.{Job}
use Rattle.jc_types.specs.declared.objects.KeyNames.{KeyNames as Key}
use Rattle.jc_types.specs.declared.objects.Pod.{Pod}
use Rattle.jc_types.specs.declared.runs.Shape.{Shape}
use Rattle.jc_states.specs.Conditions.{has_end}
use Rattle.jc_log.specs.Deeds.{Deed}
use Rattle.jc_log.specs.Log.{Never, job_in, life}
use Rattle.jc_history.specs.Replies.{diary, log_given}
use Rattle.jc_bounds.specs.Fitting.{IsMade}
use Rattle.jc_bounds.specs.KeptEnds.{IsLeftAlone, HasNothingOpen, StatusesStand}

-- A pod that comes into the log with the deed fits. A Job that had ended is left alone. After the
-- deed each Job that has ended has nothing open, and its status is the one with which it ended.
pub record KeepsBounds (shape : Shape) (past : List Deed) (d : Deed) : Type 0 where
  pub fits : (pod : Pod) → log_given shape (d ∷ past) ≡ PodPut pod ∷ log_given shape past
      → life pod.uid (log_given shape past) ≡ Never
      → IsMade shape d.act (log_given shape past) (diary shape 0 past) pod
  pub left : (k : Key) (job : Job) → job_in k (log_given shape past) ≡ Some job
      → has_end job.status.conditions ≡ true
      → IsLeftAlone (log_given shape past) (log_given shape (d ∷ past)) k job
  pub nothing_open : (k : Key) (job : Job) → job_in k (log_given shape (d ∷ past)) ≡ Some job
      → has_end job.status.conditions ≡ true → HasNothingOpen (log_given shape (d ∷ past)) job
  pub stands : StatusesStand (log_given shape (d ∷ past))

-- Each deed of the history keeps both.
abbrev pub HoldsBounds : Shape → List Deed → Type 0
HoldsBounds shape deeds =
    (later past : List Deed) (d : Deed) → deeds ≡ later ++ d ∷ past → KeepsBounds shape past d
