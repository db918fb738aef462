-- What the syncs of a key have done to a log, as the log alone tells it: only syncs make pods and
-- write statuses.
--     is_birth k e older     the entry makes a pod for a Job of the key
--     old_status before      the status that the Job had; where it is new, the empty one
--     has_new_status ..      the entry gives the Job another status
--     is_work k e older      it does, or it gives the key's Job another status
--     last_work k log        the version of the last such entry; 0 where there is none
--     pods_made k log        how many pods were made for Jobs of the key
--     count f log            how many of the pods that are there pass the test
use Rattle.std.specs.Prelude.{ℕ, ◌+◌, Bool, false, not, ◌&&◌, List, [], ◌∷◌, length, filter, if◌then◌else◌, Option, Some, None}
use Rattle.jc_types.specs.declared.objects.Entry.{Entry}
use Rattle.jc_types.specs.declared.objects.Entry.TheVariants.{JobPut, PodPut}
use Rattle.jc_types.specs.declared.objects.Job.{Job}
use Rattle.jc_types.specs.declared.objects.Pod.{Pod}
use Rattle.jc_types.specs.declared.statuses.JobStatus.{JobStatus}
use Rattle.jc_log.specs.Requests.{empty_status}
use Rattle.jc_types.specs.declared.objects.KeyNames.{KeyNames as Key}
use Rattle.jc_types.specs.Keys.{same_key}
use Rattle.jc_log.specs.Log.{is_never, job_in, life, pods_in}
use Rattle.jc_types.specs.Equality.{same_status}

-- The entry makes a pod for a Job of the key.
abbrev pub is_birth : Key → Entry → List Entry → Bool
is_birth k (PodPut pod) older = same_key pod.owner k && is_never (life pod.uid older)
is_birth k other older = false

-- The status that the Job had before; where it is new, the empty one.
abbrev pub old_status : Option Job → JobStatus
old_status None = empty_status
old_status (Some old) = old.status

abbrev pub has_new_status : Job → Option Job → Bool
has_new_status job before = not (same_status (old_status before) job.status)

-- The entry makes a pod for a Job of the key, or gives the key's Job another status.
abbrev pub is_work : Key → Entry → List Entry → Bool
is_work k (JobPut job) older = same_key job.key k && has_new_status job (job_in k older)
is_work k (PodPut pod) older = same_key pod.owner k && is_never (life pod.uid older)
is_work k other older = false

-- The version of the last such entry.
abbrev pub last_work : Key → List Entry → ℕ
last_work k [] = 0
last_work k (e ∷ older) = if is_work k e older then length (e ∷ older) else last_work k older

-- How many pods were made for Jobs of the key.
abbrev pub pods_made : Key → List Entry → ℕ
pods_made k [] = 0
pods_made k (e ∷ older) = if is_birth k e older then pods_made k older + 1 else pods_made k older

-- How many of the pods that are there pass the test.
abbrev pub count : (Pod → Bool) → List Entry → ℕ
count f log = length (filter f (pods_in log))
