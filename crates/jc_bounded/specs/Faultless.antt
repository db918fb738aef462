-- Settles without faults, and how many pods are made in them at most.
--     IsBetweenTurns shape past           a calm state of a legal history
--     IsFaultless shape past              one where no fault is pending
--     puts_fault act, PutsNoFault deeds   the act puts a fault; none of the deeds does
--     ComesFaultless shape past           after so many events of the settle it is such a state
--     SucceedsAtLast shape past ends job  the Job is there, and its pods end so, the last of them with a success
--     made_on shape events past job       how many pods were made for the Job after so many events of the settle
--     AllowsNoMore ends log new job       the Job is there still, and no more pods are made for it at most
--     TurnsOver shape past                after so many events it is as calm, and each Job is allowed no more
--     UsesUpAFault shape past             after so many events it is as calm, and fewer faults are pending
use Rattle.std.specs.Prelude.{◌≡◌, ℕ, ◌<◌, ◌≤◌, Bool, true, false, List, Some}
use Rattle.std.specs.List.{AllByRecursion as Each}
use Rattle.jc_types.specs.declared.actions.End.{End}
use Rattle.jc_types.specs.declared.objects.Entry.{Entry}
use Rattle.jc_types.specs.declared.objects.Job.{Job}
use Rattle.jc_types.specs.declared.objects.KeyNames.{KeyNames as Key}
use Rattle.jc_types.specs.declared.runs.Shape.{Shape}
use Rattle.jc_log.specs.Acts as does
use Rattle.jc_log.specs.Acts.{Act}
use Rattle.jc_log.specs.Deeds.{Deed}
use Rattle.jc_log.specs.Log.{job_in, made_for}
use Rattle.jc_log.specs.Range.{IsMoment}
use Rattle.jc_runs.specs.Legal.{IsLegal}
use Rattle.jc_runs.specs.Machines.{AllAskValid}
use Rattle.jc_runs.specs.Replies.{log_given}
use Rattle.jc_settle.specs.Settles.{IsCalm, settled_on}
use Rattle.jc_calm.specs.SettleTurns.{faults_pending}
use Rattle.jc_making.specs.Making.{LastIsSuccess}
use Rattle.jc_making.specs.Nodes.{fate}
use Rattle.jc_bearing.specs.AtMost.{pods_at_most}

-- The history is legal, and each Job was created with a valid specification; and it is calm.
pub record IsBetweenTurns (shape : Shape) (past : List Deed) : Type 0 where
  pub workers : 0 < shape.workers
  pub start : IsMoment shape.start
  pub legal : IsLegal shape past
  pub valid : AllAskValid past
  pub calm : IsCalm shape past

-- So it is, and no fault is pending.
pub record IsFaultless (shape : Shape) (past : List Deed) : Type 0 where
  pub between : IsBetweenTurns shape past
  pub faults : faults_pending shape past ≡ 0

-- The act puts a fault.
abbrev pub puts_fault : Act → Bool
puts_fault (does.PutFault controller worker fault) = true
puts_fault other = false

-- No deed puts one.
abbrev pub PutsNoFault : List Deed → Type 0
PutsNoFault deeds = Each (λ (d : Deed). puts_fault d.act ≡ false) deeds

-- After so many events of the settle it is so.
pub record ComesFaultless (shape : Shape) (past : List Deed) : Type 0 where
  pub events : ℕ
  pub faultless : IsFaultless shape (settled_on shape events past)

-- The Job is there, its pods end so, one after the other, and the last of these ends is a success.
pub record SucceedsAtLast (shape : Shape) (past : List Deed) (ends : List End) (job : Job) : Type 0 where
  pub there : job_in job.key (log_given shape past) ≡ Some job
  pub fated : fate past job.key ≡ Some ends
  pub last : LastIsSuccess ends

-- How many pods were made for the Job after so many events of the settle.
abbrev pub made_on : Shape → ℕ → List Deed → Job → ℕ
made_on shape events past job = made_for job.uid (log_given shape (settled_on shape events past))

-- The Job is there still, and the pods that were made for it and those that may still be are together no more.
pub record AllowsNoMore (ends : List End) (log new : List Entry) (job : Job) : Type 0 where
  pub now : Job
  pub there : job_in job.key new ≡ Some now
  pub uid : now.uid ≡ job.uid
  pub few : pods_at_most ends new now ≤ pods_at_most ends log job

-- After so many events of the settle, one at least, it is as calm as before, no fault is new, the pods end as they did, and
-- each Job that was there is allowed no more pods.
pub record TurnsOver (shape : Shape) (past : List Deed) : Type 0 where
  pub events : ℕ
  pub now : List Deed
  pub are : settled_on shape events past ≡ now
  pub some : 0 < events
  pub between : IsBetweenTurns shape now
  pub faults : faults_pending shape now ≤ faults_pending shape past
  pub fates : (key : Key) → fate now key ≡ fate past key
  pub jobs : (ends : List End) (job : Job) → SucceedsAtLast shape past ends job
      → AllowsNoMore ends (log_given shape past) (log_given shape now) job

-- After so many events of the settle it is as calm as before, the pods end as they did, and fewer faults are pending.
pub record UsesUpAFault (shape : Shape) (past : List Deed) : Type 0 where
  pub events : ℕ
  pub now : List Deed
  pub are : settled_on shape events past ≡ now
  pub between : IsBetweenTurns shape now
  pub fates : (key : Key) → fate now key ≡ fate past key
  pub fewer : faults_pending shape now < faults_pending shape past
