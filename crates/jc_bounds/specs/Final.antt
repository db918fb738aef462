-- What a legal history of one controller keeps of Jobs that have ended, over the log and the
-- controller's notes.
--     IsClosed own               none of the pods is open, or has its finalizer
--     IsFinished log k job       its status is final, its pods closed from the key's last work on
--     IsFinishedAt log k         so is the key's Job, where it has ended
--     IsOverFor ..               what is known of a sync of a Job that is there
--     IsKnownSync log made b     what is known of a worker's sync
--     KnowsEnds log notes        what is known of all Jobs and of all syncs
--     AlwaysHaveIndexTotals log  at each version each Job has index totals
use Rattle.std.specs.Prelude.{◌≡◌, ℕ, ◌≤◌, true, false, List, length, Some}
use Rattle.std.specs.List.{AllByRecursion as Each, list_any}
use Rattle.jc_types.specs.declared.objects.Entry.{Entry}
use Rattle.jc_types.specs.declared.objects.Job.{Job}
use Rattle.jc_types.specs.declared.objects.KeyNames.{KeyNames as Key}
use Rattle.jc_types.specs.declared.objects.Pod.{Pod}
use Rattle.jc_types.specs.declared.replies.Answer.{Answer}
use Rattle.jc_types.specs.declared.replies.Request.{Request}
use Rattle.jc_states.specs.declared.bases.Basis.{Basis}
use Rattle.jc_states.specs.Bases.{own_pods}
use Rattle.jc_states.specs.Conditions.{has_end}
use Rattle.jc_log.specs.Log.{is_never, job_in, life, pods_under, upto}
use Rattle.jc_states.specs.Pods.{is_open, is_tracked}
use Rattle.jc_plan.specs.Plans.{planned}
use Rattle.jc_history.specs.Notes.{Note}
use Rattle.jc_history.specs.Registers.{made, register}
use Rattle.jc_plan.specs.Finishes.{IsFinalStatus, HasIndexTotals}
use Rattle.jc_bounds.specs.Order.{AsksReleasesOnly, Progress}
use Rattle.jc_bounds.specs.Work.{last_work}

-- None of the pods is open, or has its finalizer.
pub record IsClosed (own : List Pod) : Type 0 where
  pub opens : list_any is_open own ≡ false
  pub tracks : list_any is_tracked own ≡ false

-- The status of the Job is final, and from the key's last work on its pods are closed.
pub record IsFinished (log : List Entry) (k : Key) (job : Job) : Type 0 where
  pub final : IsFinalStatus job.status
  pub closed : (m : ℕ) → m ≤ length log → last_work k log ≤ m
      → IsClosed (own_pods job (pods_under k (upto m log)))

-- So is the key's Job, where it has ended.
abbrev pub IsFinishedAt : List Entry → Key → Type 0
IsFinishedAt log k =
    (job : Job) → job_in k log ≡ Some job → has_end job.status.conditions ≡ true
    → IsFinished log k job

-- Where the Job of the basis is there: an end that the sync saw stands, and where an end stands the
-- sync makes no pod and writes no status any more.
pub record IsOverFor (log : List Entry) (made : List (Request × Answer)) (b : Basis) (seen job : Job)
    : Type 0 where
  pub ends : has_end seen.status.conditions ≡ true → has_end job.status.conditions ≡ true
  pub releases_only : has_end job.status.conditions ≡ true → AsksReleasesOnly (planned b) made

-- What is known of a worker's sync: where it stands, that the pods that it releases were made, and
-- how it goes on where its Job is there.
pub record IsKnownSync (log : List Entry) (made : List (Request × Answer)) (b : Basis) : Type 0 where
  pub progress : Progress log (planned b) made
  pub known : Each (λ u. is_never (life u log) ≡ false) (planned b).releases
  pub over : (seen job : Job) → b.job ≡ Some seen → job_in b.key log ≡ Some job → job.uid ≡ seen.uid
      → IsOverFor log made b seen job

-- What is known of all Jobs and of all syncs.
pub record KnowsEnds (log : List Entry) (notes : List Note) : Type 0 where
  pub finished : (k : Key) → IsFinishedAt log k
  pub flights : (w : ℕ) (b : Basis) → register w notes ≡ Some b → IsKnownSync log (made w notes) b

-- At each version the total of each Indexed Job is the number of its completed indexes, and what is said of failed
-- indexes is in order.
abbrev pub AlwaysHaveIndexTotals : List Entry → Type 0
AlwaysHaveIndexTotals log = (n : ℕ) (k : Key) (job : Job) → job_in k (upto n log) ≡ Some job → HasIndexTotals job
