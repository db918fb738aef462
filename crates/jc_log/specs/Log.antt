-- What a log says. A log is read NEWEST FIRST: in `e ∷ older` the entry e was written last. The
-- version of an entry is the number of entries up to it, itself among them, so the length of the
-- log that ends with it.
--     upto n log          the first n entries that were written
--     entry_at v log      the entry of version v
--     job_in k log        the Job of the key, as the last entry about it says
--     life u log          the life of a pod's UID: never there, there as this pod, or gone
--     pod_in u log        the pod of the UID, as the last entry about it says
--     is_lost life        the pod was there, and is without its finalizer or gone
--     jobs_in log         the Jobs that are there, by key, in the order in which their keys came
--     pods_in log         the pods that are there, in ascending UID
--     pods_of j log       those among them that were made for the Job of UID j
--     pods_under k log    those among them that were made for a Job of the key
--     is_born j log       a Job of this UID was put
--     has_job j k log     a Job of this UID was put under this key
--     births log           how many Jobs and pods were made
--     made_for j log      how many pods were made for the Job of UID j
--     next_uid log        the UID of the next Job or pod
--     next_version log    the version of the next entry
use Rattle.std.specs.Prelude.{ℕ, ◌+◌, ◌≤◌, ◌==◌, nat_lt, Bool, true, false, not, ◌&&◌, List, [], ◌∷◌, length, if◌then◌else◌, Option, Some, None, filter}
use Rattle.jc_types.specs.declared.numbers.Uid.{Uid}
use Rattle.jc_types.specs.declared.numbers.Version.{Version}
use Rattle.jc_types.specs.declared.objects.Entry.{Entry}
use Rattle.jc_types.specs.declared.objects.Entry.TheVariants.{JobPut, JobGone, PodPut, PodGone}
use Rattle.jc_types.specs.declared.objects.Job.{Job}
use Rattle.jc_types.specs.declared.objects.Pod.{Pod}
use Rattle.jc_types.specs.declared.objects.KeyNames.{KeyNames as Key}
use Rattle.jc_types.specs.Keys.{same_key, same_uid}
use Rattle.jc_log.specs.Tables.{puts, takes}
use Rattle.jc_states.specs.PodLists.{put_pod, drop_pod}

module _ {A : Type 0} where
  -- The first n that were written.
  abbrev pub upto : ℕ → List A → List A
  upto n [] = []
  upto n (e ∷ older) = if nat_lt (length older) n then e ∷ older else upto n older

  -- That of version v, counted from 1.
  abbrev pub entry_at : ℕ → List A → Option A
  entry_at v [] = None
  entry_at v (e ∷ older) = if length (e ∷ older) == v then Some e else entry_at v older

-- ---- the Job of a key

-- The Job of the key after one more entry.
abbrev pub job_after : Key → Entry → Option Job → Option Job
job_after k (JobPut job) before = if same_key job.key k then Some job else before
job_after k (JobGone job) before = if same_key job.key k then None else before
job_after k (PodPut pod) before = before
job_after k (PodGone pod) before = before

-- The Job of the key.
abbrev pub job_in : Key → List Entry → Option Job
job_in k [] = None
job_in k (e ∷ older) = job_after k e (job_in k older)

-- The Job, if there is one, has this UID.
abbrev pub is_job_of : Uid → Option Job → Bool
is_job_of j None = false
is_job_of j (Some job) = same_uid job.uid j

-- ---- the life of a pod's UID

-- No pod had the UID, or this one has it, or it had one that is gone.
pub data Life : Type 0 where
  Never : Life
  Live : Pod → Life
  Gone : Life

-- The life after one more entry.
abbrev pub life_after : Uid → Entry → Life → Life
life_after u (JobPut job) before = before
life_after u (JobGone job) before = before
life_after u (PodPut pod) before = if same_uid pod.uid u then Live pod else before
life_after u (PodGone pod) before = if same_uid pod.uid u then Gone else before

-- The life of the UID.
abbrev pub life : Uid → List Entry → Life
life u [] = Never
life u (e ∷ older) = life_after u e (life u older)

-- The pod that lives.
abbrev pub living : Life → Option Pod
living Never = None
living (Live pod) = Some pod
living Gone = None

-- The pod of the UID.
abbrev pub pod_in : Uid → List Entry → Option Pod
pod_in u log = living (life u log)

-- There was no pod.
abbrev pub is_never : Life → Bool
is_never Never = true
is_never (Live pod) = false
is_never Gone = false

-- The pod was there, and is without its finalizer or gone.
abbrev pub is_lost : Life → Bool
is_lost Never = false
is_lost (Live pod) = not pod.tracked
is_lost Gone = true

-- ---- the tables

-- The table of Jobs after one more entry.
abbrev pub jobs_after : Entry → List (Key × Job) → List (Key × Job)
jobs_after (JobPut job) table = puts same_key table job.key job
jobs_after (JobGone job) table = takes same_key table job.key
jobs_after (PodPut pod) table = table
jobs_after (PodGone pod) table = table

-- The Jobs that are there, by key, in the order in which their keys came.
abbrev pub jobs_in : List Entry → List (Key × Job)
jobs_in [] = []
jobs_in (e ∷ older) = jobs_after e (jobs_in older)

-- The Jobs are in ascending UID, none twice, and none below the bound.
abbrev pub RowsRise : ℕ → List (Key × Job) → Type 0
RowsRise low [] = Unit {0}
RowsRise low (row ∷ rows) = (low ≤ row.1.uid.0) × RowsRise (row.1.uid.0 + 1) rows

-- The list of pods after one more entry.
abbrev pub pods_after : Entry → List Pod → List Pod
pods_after (JobPut job) pods = pods
pods_after (JobGone job) pods = pods
pods_after (PodPut pod) pods = put_pod pod pods
pods_after (PodGone pod) pods = drop_pod pod.uid pods

-- The pods that are there, in ascending UID.
abbrev pub pods_in : List Entry → List Pod
pods_in [] = []
pods_in (e ∷ older) = pods_after e (pods_in older)

-- Those that were made for the Job of this UID.
abbrev pub pods_of : Uid → List Entry → List Pod
pods_of j log = filter (λ pod. same_uid pod.owner_uid j) (pods_in log)

-- Those that were made for a Job of this key.
abbrev pub pods_under : Key → List Entry → List Pod
pods_under k log = filter (λ pod. same_key pod.owner k) (pods_in log)

-- ---- what was made

-- A Job of this UID was put.
abbrev pub is_born : Uid → List Entry → Bool
is_born j [] = false
is_born j (JobPut job ∷ older) = if same_uid job.uid j then true else is_born j older
is_born j (JobGone job ∷ older) = is_born j older
is_born j (PodPut pod ∷ older) = is_born j older
is_born j (PodGone pod ∷ older) = is_born j older

-- A Job of this UID was put under this key.
abbrev pub has_job : Uid → Key → List Entry → Bool
has_job j k [] = false
has_job j k (JobPut job ∷ older) =
    if same_uid job.uid j && same_key job.key k then true else has_job j k older
has_job j k (JobGone job ∷ older) = has_job j k older
has_job j k (PodPut pod ∷ older) = has_job j k older
has_job j k (PodGone pod ∷ older) = has_job j k older

-- How many Jobs and pods were made: the entries that are the first about their UID.
abbrev pub births : List Entry → ℕ
births [] = 0
births (JobPut job ∷ older) = if is_born job.uid older then births older else births older + 1
births (JobGone job ∷ older) = births older
births (PodPut pod ∷ older) =
    if is_never (life pod.uid older) then births older + 1 else births older
births (PodGone pod ∷ older) = births older

-- How many pods were made for the Job of this UID.
abbrev pub made_for : Uid → List Entry → ℕ
made_for j [] = 0
made_for j (JobPut job ∷ older) = made_for j older
made_for j (JobGone job ∷ older) = made_for j older
made_for j (PodPut pod ∷ older) =
    if same_uid pod.owner_uid j && is_never (life pod.uid older)
    then made_for j older + 1 else made_for j older
made_for j (PodGone pod ∷ older) = made_for j older

-- The UID of the next Job or pod: one more than the number of those that were made.
abbrev pub next_uid : List Entry → Uid
next_uid log = record { 0 = births log + 1 }

-- The version of the next entry.
abbrev pub next_version : List Entry → Version
next_version log = record { 0 = length log + 1 }
