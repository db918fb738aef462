-- When a settle is finite: the premise on how pods end.
--     SucceedAll ends            each of the ends is a success, and has no more restarts than are counted
--     CountSuccesses ends        each that is a success has no more restarts than are counted
--     RestartsEnd fates act      the act creates no Job whose containers restart for ever
--     SuccessesCount fates act   it creates no Job whose containers restart too often to be counted before they succeed
--     RestartsStop past act      so it is, or the Job that it creates is there to stop them, as none of its key is deleted
--     LastEndCounts fates act    the act creates no Job that ignores the last end of its fate
--     EndInTheEnd past           no act creates such a Job, nor one whose containers restart for ever
--     FailsUnderItsJob ..        an active pod that is restarted after a failure, and fails again, has its Job
--     MakesUnderItsJob ..        a pod that the sync may still make succeeds, or will have its Job
--     StopInTheEnd shape past    no act creates a Job that ignores its last end, and pods that fail have their Jobs
--     StopWhereKept past         so it is, as no Job is ever deleted of a key whose containers may restart for ever
--     LastEndsSucceed fates      the last end of each fate is a success
--     SucceedInTheEnd past       so it is, and no act creates a Job whose containers restart for ever
--     SucceedAlways past         each end of each fate is a success
--     FillsACount shape past     a container that fails has restarted as often as is counted
use Rattle.std.specs.Prelude.{◌≡◌, ◌⊎◌, ℕ, ◌-◌, ◌^◌, ◌≤◌, true, false, List, Option, Some}
use Rattle.std.specs.List.{AllByRecursion as Each}
use Rattle.jc_types.specs.declared.actions.End.{End}
use Rattle.jc_types.specs.declared.objects.Entry.{Entry}
use Rattle.jc_types.specs.declared.objects.Job.{Job}
use Rattle.jc_types.specs.declared.objects.KeyNames.{KeyNames as Key}
use Rattle.jc_types.specs.declared.objects.Pod.{Pod}
use Rattle.jc_types.specs.declared.runs.Shape.{Shape}
use Rattle.jc_states.specs.Pods.{is_active}
use Rattle.jc_log.specs.Acts as does
use Rattle.jc_log.specs.Acts.{Act}
use Rattle.jc_log.specs.Deeds.{Deed}
use Rattle.jc_log.specs.Log.{pod_in, pods_in}
use Rattle.jc_remaining.specs.Decisions.{restarts_on_failure}
use Rattle.jc_remaining.specs.Making.{LastIsSuccess, fails}
use Rattle.jc_remaining.specs.Nodes.{fate, pod_end}
use Rattle.jc_remaining.specs.Remaining.{ends_of}
use Rattle.jc_remaining.specs.Retries.{CountsAtLast}
use Rattle.jc_restarts.specs.Restarts.{HasItsJob, IsPresent, MayMakePods, NeverDeleted}
use Rattle.jc_runs.specs.Basis.{Basis}
use Rattle.jc_runs.specs.Replies.{log_given}
use Rattle.jc_settle.specs.Left.{first_restarts}
use Rattle.jc_settle.specs.Settles.{settled_on}

-- Each of the ends is a success, and has no more restarts than are counted.
abbrev pub SucceedAll : List End → Type 0
SucceedAll ends = Each (λ (end : End). (fails end ≡ false) × (end.restarts ≤ 2 ^ 32 - 1)) ends

-- Each of them that is a success has no more restarts than are counted.
abbrev pub CountSuccesses : List End → Type 0
CountSuccesses ends = Each (λ (end : End). fails end ≡ false → end.restarts ≤ 2 ^ 32 - 1) ends

-- The act creates no Job whose containers restart for ever: under the policy OnFailure a container whose end fails is
-- restarted, and fails again; its pod goes on so where its Job is deleted meanwhile.
abbrev pub RestartsEnd : (Key → Option (List End)) → Act → Type 0
RestartsEnd fates (does.Create key spec) =
    restarts_on_failure spec.template.restart ≡ true → SucceedAll (ends_of fates key)
RestartsEnd fates other = Unit {0}

-- The act creates no Job of which a container, restarted after each failure, succeeds only after more restarts than are
-- counted.
abbrev pub SuccessesCount : (Key → Option (List End)) → Act → Type 0
SuccessesCount fates (does.Create key spec) =
    restarts_on_failure spec.template.restart ≡ true → CountSuccesses (ends_of fates key)
SuccessesCount fates other = Unit {0}

-- The act creates no Job whose containers restart for ever; or no success of the key comes after more restarts than are
-- counted, and no Job of the key is ever deleted: the one that is there stops a container that has restarted as often as its
-- backoff limit allows.
abbrev pub RestartsStop : List Deed → Act → Type 0
RestartsStop past (does.Create key spec) =
    restarts_on_failure spec.template.restart ≡ true
    → SucceedAll (ends_of (fate past) key) ⊎ (CountSuccesses (ends_of (fate past) key) × NeverDeleted key past)
RestartsStop past other = Unit {0}

-- The act creates no Job that ignores the last end of the fate of its key: a failure that is ignored is none of those that
-- the backoff limit allows, and would come again and again. Pods of a key without a fate never end; of these nothing is
-- asked.
abbrev pub LastEndCounts : (Key → Option (List End)) → Act → Type 0
LastEndCounts fates (does.Create key spec) = CountsAtLast (ends_of fates key) spec
LastEndCounts fates other = Unit {0}

-- No such Job was created, and none whose containers restart for ever.
pub record EndInTheEnd (past : List Deed) : Type 0 where
  pub lasts : Each (λ (d : Deed). LastEndCounts (fate past) d.act) past
  pub restarts : Each (λ (d : Deed). RestartsEnd (fate past) d.act) past

-- Where the pod is active, its containers are restarted after a failure and its own end is one, the Job that it was made
-- for is there: so it can be stopped.
abbrev pub FailsUnderItsJob : (Key → Option (List End)) → List Entry → Pod → Type 0
FailsUnderItsJob fates log pod =
    is_active pod ≡ true → restarts_on_failure pod.restart ≡ true
    → (end : End) → pod_end fates pod ≡ Some end → fails end ≡ true → HasItsJob log pod

-- Where the Job that a sync saw is one of OnFailure, each end of its key is a success, or the Job is there: so a pod that
-- the sync makes does not fail, or can be stopped.
abbrev pub MakesUnderItsJob : (Key → Option (List End)) → List Entry → Basis → Type 0
MakesUnderItsJob fates log basis =
    (job : Job) → basis.job ≡ Some job → restarts_on_failure job.spec.template.restart ≡ true
    → SucceedAll (ends_of fates job.key) ⊎ IsPresent log job

-- No Job was created that ignores the last end of its fate, nor one whose containers restart too often to be counted
-- before they succeed. What fails and is restarted can be stopped as things stand now, whatever was deleted before: no
-- active pod that fails again and again is left by a Job that is gone, and no sync under way may still make such a one.
pub record StopInTheEnd (shape : Shape) (past : List Deed) : Type 0 where
  pub lasts : Each (λ (d : Deed). LastEndCounts (fate past) d.act) past
  pub counts : Each (λ (d : Deed). SuccessesCount (fate past) d.act) past
  pub pods : Each (FailsUnderItsJob (fate past) (log_given shape past)) (pods_in (log_given shape past))
  pub syncs : (basis : Basis) → MayMakePods shape past basis
      → MakesUnderItsJob (fate past) (log_given shape past) basis

-- No Job was created that ignores the last end of its fate, nor one whose containers restart for ever, unless no Job of its
-- key was ever deleted.
pub record StopWhereKept (past : List Deed) : Type 0 where
  pub lasts : Each (λ (d : Deed). LastEndCounts (fate past) d.act) past
  pub restarts : Each (λ (d : Deed). RestartsStop past d.act) past

-- The last end of each fate is a success.
abbrev pub LastEndsSucceed : (Key → Option (List End)) → Type 0
LastEndsSucceed fates = (key : Key) → LastIsSuccess (ends_of fates key)

-- So it is, and no Job was created whose containers restart for ever.
pub record SucceedInTheEnd (past : List Deed) : Type 0 where
  pub lasts : LastEndsSucceed (fate past)
  pub restarts : Each (λ (d : Deed). RestartsEnd (fate past) d.act) past

-- Each end of each fate is a success, whatever was created.
abbrev pub SucceedAlways : List Deed → Type 0
SucceedAlways past = (key : Key) (ends : List End) → fate past key ≡ Some ends → SucceedAll ends

-- After so many events of the settle there is an active pod, restarted after a failure that comes again, whose first
-- container has restarted as often as is counted: what the node does to it then changes nothing, and comes again.
pub record FillsACount (shape : Shape) (past : List Deed) : Type 0 where
  pub events : ℕ
  pub pod : Pod
  pub there : pod_in pod.uid (log_given shape (settled_on shape events past)) ≡ Some pod
  pub active : is_active pod ≡ true
  pub policy : restarts_on_failure pod.restart ≡ true
  pub end : End
  pub fated : pod_end (fate past) pod ≡ Some end
  pub failing : fails end ≡ true
  pub full : 2 ^ 32 - 1 ≤ first_restarts pod
