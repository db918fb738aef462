-- What a sync that began in a settle has done once it ends.
--     SyncsInSettle shape run past c w basis    a sync that began in a settle is under way
--     EndsInSettle shape run past c w basis d   the deed ends it
--     IsMarked pod, IsStopped pod     the pod is marked; it is, and has no finalizer
--     HasStatus log basis job status  the Job that the sync saw is there, with the status
--     HasItsPlan log basis            what the plan of the basis asks for is so
--     IsAmong ask left                the request is among these
--     IsDoneOrLeft P u log left ask   the pod is so, and no request that is left is about it; or the request is left
--     makes left                      how many pods these make
--     status_after plan left status   the status once these are made, from this one on
--     ComesToSecond log basis ..      the Job is there, and has the second status once these are made
--     IsDoing log basis left          each request of the plan is done or left
use Rattle.std.specs.Prelude.{◌≡◌, ◌⊎◌, ℕ, ◌+◌, ◌<◌, true, false, List, [], ◌∷◌, ◌++◌, length, Some, IfSome, unwrap_or}
use Rattle.std.specs.List.{AllByRecursion as Each}
use Rattle.jc_types.specs.declared.numbers.Uid.{Uid}
use Rattle.jc_types.specs.declared.objects.Entry.{Entry}
use Rattle.jc_types.specs.declared.objects.Job.{Job}
use Rattle.jc_types.specs.declared.objects.Pod.{Pod}
use Rattle.jc_types.specs.declared.replies.Reply.TheVariants.{Ended}
use Rattle.jc_types.specs.declared.runs.Shape.{Shape}
use Rattle.jc_types.specs.declared.statuses.JobStatus.{JobStatus}
use Rattle.jc_states.specs.Pods.{is_marked}
use Rattle.jc_states.specs.declared.bases.Basis.{Basis}
use Rattle.jc_log.specs.Acts as does
use Rattle.jc_log.specs.Deeds.{Deed}
use Rattle.jc_log.specs.Log.{is_lost, job_in, life, made_for, upto}
use Rattle.jc_plan.specs.Plans.{planned}
use Rattle.jc_plan.specs.Statuses.{second_value}
use Rattle.jc_plan.specs.declared.plans.Planned.{Planned}
use Rattle.jc_history.specs.Legal.{IsLegal, IsLegalNext}
use Rattle.jc_history.specs.Registers.{register}
use Rattle.jc_history.specs.Replies.{diary}
use Rattle.jc_runs.specs.Machines.{AllAskValid}
use Rattle.jc_settle.specs.Serial.{IsSettling, RunsAlone}
use Rattle.jc_sync.specs.Ask.{Ask}
use Rattle.jc_sync.specs.Ask.TheVariants.{MakePod, MarkPod, LetPodGo, WriteFirst, ReleasePod, WriteSecond}
use Rattle.jc_granted.specs.Ready.{IsOther, IsThere}

-- A sync that began in a settle is under way, behind a legal history whose Jobs were created with valid specifications.
pub record SyncsInSettle (shape : Shape) (run past : List Deed) (c w : ℕ) (basis : Basis) : Type 0 where
  pub legal : IsLegal shape (run ++ past)
  pub valid : AllAskValid (run ++ past)
  pub some : 0 < shape.workers
  pub settling : IsSettling shape run past
  pub controller : c < shape.controllers
  pub worker : w < shape.workers
  pub begun : register w (diary shape c (run ++ past)) ≡ Some basis
  pub alone : RunsAlone shape run past c w basis

-- The deed ends it.
pub record EndsInSettle (shape : Shape) (run past : List Deed) (c w : ℕ) (basis : Basis) (d : Deed)
    : Type 0 where
  pub sync : SyncsInSettle shape run past c w basis
  pub next : IsLegalNext shape (run ++ past) d
  pub act : d.act ≡ does.Step c w
  pub reply_is : d.reply ≡ Ended

-- The pod is marked.
abbrev pub IsMarked : Pod → Type 0
IsMarked pod = is_marked pod ≡ true

-- It has no finalizer.
abbrev pub IsUntracked : Pod → Type 0
IsUntracked pod = pod.tracked ≡ false

-- It is marked and has no finalizer.
pub record IsStopped (pod : Pod) : Type 0 where
  pub marked : is_marked pod ≡ true
  pub untracked : pod.tracked ≡ false

-- The Job that the sync saw is there, with the status.
pub record HasStatus (log : List Entry) (basis : Basis) (job : Job) (given : JobStatus) : Type 0 where
  pub current : Job
  pub there : job_in basis.key log ≡ Some current
  pub uid : current.uid ≡ job.uid
  pub status : current.status ≡ given

-- What the plan of the basis asks for is so: each pod to mark is marked, each to let go has lost its finalizer and is
-- marked, each to release has lost it; so many pods more were made as are to be; and the Job has the second status.
pub record HasItsPlan (log : List Entry) (basis : Basis) : Type 0 where
  pub marks : Each (λ u. IsThere IsMarked u log) (planned basis).marks
  pub let_goes : Each (λ row. IsThere IsStopped row.0 log) (planned basis).let_goes
  pub releases : Each (λ u. is_lost (life u log) ≡ true) (planned basis).releases
  pub made : IfSome basis.job (λ job. made_for job.uid log
      ≡ made_for job.uid (upto basis.pods_at.0 log) + length (planned basis).creates)
  pub status : IfSome basis.job (λ job. HasStatus log basis job (second_value job basis))

-- ---- on the way

-- The request is among these.
abbrev pub IsAmong : Ask → List Ask → Type 0
IsAmong ask [] = ⊥
IsAmong ask (other ∷ left) = (other ≡ ask) ⊎ IsAmong ask left

-- The pod is so, and no request that is left is about it; or the request is left.
abbrev pub IsDoneOrLeft : (Pod → Type 0) → Uid → List Entry → List Ask → Ask → Type 0
IsDoneOrLeft P u log left ask = (IsThere P u log × Each (IsOther u) left) ⊎ IsAmong ask left

-- How many pods these make.
abbrev pub makes : List Ask → ℕ
makes [] = 0
makes (MakePod index ∷ left) = makes left + 1
makes (other ∷ left) = makes left

-- The status once these are made, from this one on.
abbrev pub status_after : Planned → List Ask → JobStatus → JobStatus
status_after plan [] status = status
status_after plan (WriteFirst ∷ left) status = status_after plan left (unwrap_or plan.first status)
status_after plan (WriteSecond ∷ left) status = status_after plan left (unwrap_or plan.second status)
status_after plan (other ∷ left) status = status_after plan left status

-- The Job is there, and has the second status once these are made.
pub record ComesToSecond (log : List Entry) (basis : Basis) (left : List Ask) (job : Job) : Type 0 where
  pub current : Job
  pub there : job_in basis.key log ≡ Some current
  pub uid : current.uid ≡ job.uid
  pub comes : status_after (planned basis) left current.status ≡ second_value job basis

-- Each request of the plan is done, or it is left; of a let-go that was made the mark may be left.
pub record IsDoing (log : List Entry) (basis : Basis) (left : List Ask) : Type 0 where
  pub marks : Each (λ u. IsDoneOrLeft IsMarked u log left (MarkPod u)) (planned basis).marks
  pub let_goes :
      Each (λ row. IsDoneOrLeft IsStopped row.0 log left (LetPodGo row.0 row.1)
      ⊎ (IsThere IsUntracked row.0 log × IsAmong (MarkPod row.0) left)) (planned basis).let_goes
  pub releases :
      Each (λ u. (is_lost (life u log) ≡ true) ⊎ IsAmong (ReleasePod u) left)
      (planned basis).releases
  pub made : (job : Job) → basis.job ≡ Some job → made_for job.uid log + makes left
      ≡ made_for job.uid (upto basis.pods_at.0 log) + length (planned basis).creates
  pub status : (job : Job) → basis.job ≡ Some job → ComesToSecond log basis left job
