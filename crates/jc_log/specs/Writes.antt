-- Which entry may follow a log, newest first.
--     version_of e          the version that the object in the entry carries
--     Writes older e        the entry is a write of the store: its version is its place, its object is new
--                           or a step from the one that was there
--     IsOwned older e       a pod that the entry makes has a Job that was put before
--     Allowed older e       both
--     Follows A log         A holds of each entry and those before it
--     Stored log            each entry is a write of the store
--     Legal log             each entry is allowed
use Rattle.std.specs.Prelude.{◌≡◌, ℕ, ◌+◌, true, false, List, [], ◌∷◌, length, Option, Some, None}
use Rattle.std.specs.List.{AllByRecursion as Each}
use Rattle.jc_types.specs.declared.objects.Entry.{Entry}
use Rattle.jc_types.specs.declared.objects.Entry.TheVariants.{JobPut, JobGone, PodPut, PodGone}
use Rattle.jc_types.specs.declared.objects.Job.{Job}
use Rattle.jc_types.specs.declared.objects.Phase.TheVariants.{Pending}
use Rattle.jc_types.specs.declared.objects.Pod.{Pod}
use Rattle.jc_log.specs.Log.{Life, Never, Live, Gone, job_in, life, has_job, births, made_for}
use Rattle.jc_log.specs.Requests.{empty_status}
use Rattle.jc_states.specs.ObjectChanges.{JobStep, PodStep}
use Rattle.jc_states.specs.Pods.{goes}

-- The version that the object in the entry carries.
abbrev pub version_of : Entry → ℕ
version_of (JobPut job) = job.version.0
version_of (JobGone job) = job.version.0
version_of (PodPut pod) = pod.version.0
version_of (PodGone pod) = pod.version.0

-- A Job as it is made: the next UID, and the empty status.
pub record IsNewJob (older : List Entry) (job : Job) : Type 0 where
  pub uid : job.uid.0 ≡ births older + 1
  pub status : job.status ≡ empty_status

-- A pod as it is made: the next UID, and pending, tracked and unmarked, without exit codes.
pub record IsNewPod (older : List Entry) (pod : Pod) : Type 0 where
  pub uid : pod.uid.0 ≡ births older + 1
  pub serial : pod.serial ≡ made_for pod.owner_uid older
  pub phase : pod.phase ≡ Pending
  pub exits : Each (λ container. container.exit ≡ None) pod.containers
  pub conditions : pod.conditions ≡ []
  pub marked : pod.marked ≡ None
  pub tracked : pod.tracked ≡ true

-- A Job may be put: where its key has none it is made, else it is a step from that one.
abbrev pub CanJob : List Entry → Option Job → Job → Type 0
CanJob older None job = IsNewJob older job
CanJob older (Some old) job = JobStep old job

-- A Job may be written over: it is there.
abbrev pub StepsFrom : Option Job → Job → Type 0
StepsFrom None job = ⊥
StepsFrom (Some old) job = JobStep old job

-- A Job may go: it is there.
abbrev pub CanEnd : Option Job → Job → Type 0
CanEnd None job = ⊥
CanEnd (Some old) job = (JobStep old job) × (job.spec ≡ old.spec) × (job.status ≡ old.status)

-- A pod may be put: it is made, or it is a step from the one that is there. A UID never comes
-- back.
abbrev pub CanPut : List Entry → Life → Pod → Type 0
CanPut older Never pod = IsNewPod older pod
CanPut older (Live old) pod = PodStep old pod
CanPut older Gone pod = ⊥

-- A pod may go: it is a step from the one that is there.
abbrev pub CanGo : Life → Pod → Type 0
CanGo Never pod = ⊥
CanGo (Live old) pod = PodStep old pod
CanGo Gone pod = ⊥

-- What the entry puts or takes may be put or taken there.
abbrev pub Can : List Entry → Entry → Type 0
Can older (JobPut job) = CanJob older (job_in job.key older) job
Can older (JobGone job) = CanEnd (job_in job.key older) job
Can older (PodPut pod) = CanPut older (life pod.uid older) pod × (goes pod ≡ false)
Can older (PodGone pod) = CanGo (life pod.uid older) pod × (goes pod ≡ true)

-- The entry is a write of the store: its version is its place.
pub record Writes (older : List Entry) (e : Entry) : Type 0 where
  pub version : version_of e ≡ length (e ∷ older)
  pub can : Can older e

-- A pod that the entry makes has a Job that was put before, under the pod's owner key.
abbrev pub IsOwned : List Entry → Entry → Type 0
IsOwned older (JobPut job) = Unit {0}
IsOwned older (JobGone job) = Unit {0}
IsOwned older (PodPut pod) =
    life pod.uid older ≡ Never → has_job pod.owner_uid pod.owner older ≡ true
IsOwned older (PodGone pod) = Unit {0}

-- The entry is a write of the store, and a pod that it makes has its Job.
pub record Allowed (older : List Entry) (e : Entry) : Type 0 where
  pub writes : Writes older e
  pub owned : IsOwned older e

-- It holds of each entry and those that were written before it.
abbrev pub Follows : (List Entry → Entry → Type 0) → List Entry → Type 0
Follows A [] = Unit {0}
Follows A (e ∷ older) = A older e × Follows A older

-- Each entry is a write of the store.
abbrev pub Stored : List Entry → Type 0
Stored log = Follows Writes log

-- Each entry is allowed.
abbrev pub Legal : List Entry → Type 0
Legal log = Follows Allowed log
