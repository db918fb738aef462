-- Where each request that is left to a sync finds what it asks for. `sends` is the version that its next write of the
-- status sends.
--     IsThere P u log               a pod of the UID is there, and this holds of it
--     JobIsAt log basis version     the Job that the sync saw is there, at the version
--     IsReady log basis sends ask   the request finds what it asks for
--     pod_asked ask                 the pod that the request is about
--     IsOther u ask                 the request is not about the pod of the UID
--     NoneTwice asks                 no two of the requests are about one pod
--     AreReady log flight left      each finds what it asks for, and no two are about one pod
--     Grants asked answered         the answer grants the request, and appends an entry
--     StayReady log step            the step goes on, and so are those that are left then
use Rattle.std.specs.Prelude.{◌≡◌, true, false, List, [], ◌∷◌, Option, Some, None, IfSome, IsSome}
use Rattle.std.specs.List.{AllByRecursion as Each}
use Rattle.jc_types.specs.Keys.{same_uid}
use Rattle.jc_types.specs.declared.numbers.Uid.{Uid}
use Rattle.jc_types.specs.declared.numbers.Version.{Version}
use Rattle.jc_types.specs.declared.objects.Entry.{Entry}
use Rattle.jc_types.specs.declared.objects.Job.{Job}
use Rattle.jc_types.specs.declared.objects.Pod.{Pod}
use Rattle.jc_types.specs.declared.replies.Request.{Request}
use Rattle.jc_states.specs.declared.bases.Basis.{Basis}
use Rattle.jc_states.specs.Pods.{is_active, is_tracked_active}
use Rattle.jc_log.specs.Log.{Live, job_in, life}
use Rattle.jc_log.specs.Requests.{Answered, grown}
use Rattle.jc_sync.specs.Ask.{Ask}
use Rattle.jc_sync.specs.Ask.TheVariants.{MakePod, MarkPod, LetPodGo, WriteFirst, ReleasePod, WriteSecond}
use Rattle.jc_sync.specs.Flight.{Flight}
use Rattle.jc_sync.specs.Quiet.{GoesOnTo}
use Rattle.jc_sync.specs.Steps.{Stepped, as_answer}
use Rattle.jc_granted.specs.Granted.{grants}

-- A pod of the UID is there, and this holds of it.
pub record IsThere (P : Pod → Type 0) (u : Uid) (log : List Entry) : Type 0 where
  pub pod : Pod
  pub there : life u log ≡ Live pod
  pub has : P pod

-- The Job that the sync saw is there, at the version.
pub record JobIsAt (log : List Entry) (basis : Basis) (version : Version) : Type 0 where
  pub job : Job
  pub saw : basis.job ≡ Some job
  pub current : Job
  pub there : job_in basis.key log ≡ Some current
  pub uid : current.uid ≡ job.uid
  pub at : current.version ≡ version

-- The pod is active and has the finalizer, at the version.
pub record IsActiveAt (version : Version) (pod : Pod) : Type 0 where
  pub at : pod.version ≡ version
  pub active : is_tracked_active pod ≡ true

-- The request finds what it asks for: a pod is made for the Job that was seen, which may be gone since; one to mark is
-- active; one to let go is active and has the finalizer, at the version at which it was seen; one to release has the
-- finalizer; and the Job of a status is there, at the version that is sent.
abbrev pub IsReady : List Entry → Basis → Version → Ask → Type 0
IsReady log basis sends (MakePod index) = IsSome basis.job
IsReady log basis sends (MarkPod u) = IsThere (λ pod. is_active pod ≡ true) u log
IsReady log basis sends (LetPodGo u version) = IsThere (IsActiveAt version) u log
IsReady log basis sends WriteFirst = JobIsAt log basis sends
IsReady log basis sends (ReleasePod u) = IsThere (λ pod. pod.tracked ≡ true) u log
IsReady log basis sends WriteSecond = JobIsAt log basis sends

-- The pod that the request is about.
abbrev pub pod_asked : Ask → Option Uid
pod_asked (MarkPod u) = Some u
pod_asked (LetPodGo u version) = Some u
pod_asked (ReleasePod u) = Some u
pod_asked other = None

-- The request is not about the pod of the UID.
abbrev pub IsOther : Uid → Ask → Type 0
IsOther u ask = IfSome (pod_asked ask) (λ v. same_uid u v ≡ false)

-- No two of the requests are about one pod.
abbrev pub NoneTwice : List Ask → Type 0
NoneTwice [] = Unit {0}
NoneTwice (ask ∷ left) = IfSome (pod_asked ask) (λ u. Each (IsOther u) left) × NoneTwice left

-- Each of the requests that are left to the sync finds what it asks for, and no two are about one pod.
pub record AreReady (log : List Entry) (flight : Flight) (left : List Ask) : Type 0 where
  pub each : Each (IsReady log flight.basis flight.sends) left
  pub apart : NoneTwice left

-- The answer grants the request, and appends an entry.
pub record Grants (asked : Request) (answered : Answered) : Type 0 where
  pub granted : grants asked (as_answer answered.reply) ≡ true
  pub appends : IsSome answered.entry

-- The sync goes on after the step, and so are those that are left then.
abbrev pub StayReady : List Entry → Stepped → Type 0
StayReady log step = GoesOnTo step.next (λ s. AreReady (grown log step.entry) s.flight s.left)
