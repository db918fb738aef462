-- A sync that begins on current caches, and the steps of its worker, one after the other.
--     AreSteps shape c w run past      each deed of the run is a step of the worker's sync
--     BeginsCurrent shape c w d ..     the deed begins a sync on caches that saw the whole log
--     SyncRun                          the deeds of a sync, what came before, and whose it is
--     deeds_at_begin, deeds_at_end     the deeds up to its begin, and up to its last step
--     log_at_begin, log_at_end         the logs of these
--     backoff_at_begin, status_due     the Job's failures at the begin, and the status that was next then
--     IsQuietSync s                    from its begin on came the worker's steps alone
--     IsAtNext log old now ..          the Job has its next status; what had ended and was not left over is released
--     WritesNoStatus reply             the reply tells of no request for a status
use Rattle.std.specs.Prelude.{◌≡◌, ℕ, true, false, List, [], ◌∷◌, ◌++◌, find, Some, None, is_some}
use Rattle.jc_log.specs.Acts as does
use Rattle.jc_plan.specs.Judged.{is_left_over}
use Rattle.jc_plan.specs.Next.{next_status}
use Rattle.jc_plan.specs.Outcomes.{same_outcome, outcome_of}
use Rattle.jc_plan.specs.Outcome.TheVariants.{Alive}
use Rattle.jc_states.specs.Bases.{is_own, own_pods}
use Rattle.jc_types.specs.declared.objects.Entry.{Entry}
use Rattle.jc_types.specs.declared.objects.Job.{Job}
use Rattle.jc_types.specs.declared.objects.Pod.{Pod}
use Rattle.jc_types.specs.declared.replies.Reply.{Reply}
use Rattle.jc_types.specs.declared.replies.Reply.TheVariants as reply
use Rattle.jc_types.specs.declared.runs.Shape.{Shape}
use Rattle.jc_types.specs.declared.statuses.JobStatus.{JobStatus}
use Rattle.jc_types.specs.declared.syncs.Backoff.{Backoff}
use Rattle.jc_log.specs.Deeds.{Deed}
use Rattle.jc_types.specs.declared.objects.KeyNames.{KeyNames as Key}
use Rattle.jc_types.specs.Keys.{same_uid}
use Rattle.jc_log.specs.Log.{is_lost, job_in, life, pods_under}
use Rattle.jc_history.specs.Diaries.{moment}
use Rattle.jc_history.specs.Legal.{IsLegal}
use Rattle.jc_history.specs.Registers.{asks_status, backoff, pending, register}
use Rattle.jc_history.specs.Replies.{diary, log_given}
use Rattle.jc_runs.specs.Machines.{AllAskValid}
use Rattle.jc_control.specs.Schedules.{log_end}

-- Each deed of the run, the newest first, is a step of the worker, whose register is in use before
-- it.
abbrev pub AreSteps : Shape → ℕ → ℕ → List Deed → List Deed → Type 0
AreSteps shape c w [] past = Unit {0}
AreSteps shape c w (d ∷ run) past =
    (d.act ≡ does.Step c w)
    × (is_some (register w (diary shape c (run ++ past))) ≡ true)
    × AreSteps shape c w run past

-- The deed begins a sync of the key's Job; both caches have seen the whole log, and no fault is
-- pending.
pub record BeginsCurrent (shape : Shape) (c w : ℕ) (d : Deed) (past : List Deed) (k : Key)
    (job : Job) : Type 0 where
  pub legal : IsLegal shape (d ∷ past)
  pub act : d.act ≡ does.Begin c w
  pub reply_is : d.reply
      ≡ reply.Begun k (log_end (log_given shape (d ∷ past))) (log_end (log_given shape (d ∷ past)))
  pub there : job_in k (log_given shape (d ∷ past)) ≡ Some job
  pub no_fault : pending w (diary shape c past) ≡ None

-- The deeds of a sync, newest first as all are: those before it, its begin, its steps and the last of them. Whose
-- it is: the controller's, the worker's, and that of the key's Job.
pub record SyncRun : Type 0 where
  pub shape : Shape
  pub controller : ℕ
  pub worker : ℕ
  pub key : Key
  pub job : Job
  pub past : List Deed
  pub begin : Deed
  pub run : List Deed
  pub last : Deed

-- The deeds up to its begin.
abbrev pub deeds_at_begin : SyncRun → List Deed
deeds_at_begin s = s.begin ∷ s.past

-- And up to its last step.
abbrev pub deeds_at_end : SyncRun → List Deed
deeds_at_end s = s.last ∷ s.run ++ s.begin ∷ s.past

-- The log at its begin.
abbrev pub log_at_begin : SyncRun → List Entry
log_at_begin s = log_given s.shape (deeds_at_begin s)

-- And at its end.
abbrev pub log_at_end : SyncRun → List Entry
log_at_end s = log_given s.shape (deeds_at_end s)

-- What the controller knew of the Job's failures as it began.
abbrev pub backoff_at_begin : SyncRun → Backoff
backoff_at_begin s = backoff s.key (diary s.shape s.controller s.past)

-- The status that was next then.
abbrev pub status_due : SyncRun → JobStatus
status_due s =
    next_status (moment s.shape s.past) (backoff_at_begin s) s.job
    (own_pods s.job (pods_under s.key (log_at_begin s)))

-- From its begin on came the steps of the worker alone, up to the last one; then its register is free.
pub record IsQuietSync (s : SyncRun) : Type 0 where
  pub begins : BeginsCurrent s.shape s.controller s.worker s.begin s.past s.key s.job
  pub legal : IsLegal s.shape (deeds_at_end s)
  pub valid : AllAskValid (deeds_at_end s)
  pub steps : AreSteps s.shape s.controller s.worker (s.last ∷ s.run) (deeds_at_begin s)
  pub free : register s.worker (diary s.shape s.controller (deeds_at_end s)) ≡ None

-- The Job has the status that was next when the log was the old one, and each of its pods that had
-- ended then and was not left over is not tracked.
pub record IsAtNext (log old : List Entry) (now : ℕ) (backoff : Backoff) (k : Key) (job : Job)
    : Type 0 where
  pub current : Job
  pub there : job_in k log ≡ Some current
  pub uid : current.uid ≡ job.uid
  pub status : current.status ≡ next_status now backoff job (own_pods job (pods_under k old))
  pub released : (pod : Pod) → find (λ p. same_uid p.uid pod.uid) (pods_under k old) ≡ Some pod
      → is_own job pod ≡ true → same_outcome (outcome_of job.spec pod) Alive ≡ false
      → is_left_over job (own_pods job (pods_under k old)) pod ≡ false
      → is_lost (life pod.uid log) ≡ true

-- The deed's request, where it made one, was none for a status.
abbrev pub WritesNoStatus : Reply → Type 0
WritesNoStatus (reply.Stepped asked given) = asks_status asked ≡ false
WritesNoStatus other = Unit {0}
