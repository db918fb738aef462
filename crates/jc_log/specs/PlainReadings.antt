-- The plain reading of a log that is written OLDEST FIRST: what the last entry about an object
-- says, among the first n. The words of `Log` are proved to say the same.
--     job_at n k es      the Job of the key
--     pod_at n u es      the pod of the UID
use Rattle.std.specs.Prelude.{ℕ, Bool, false, List, Option, Some, None, take, reverse, find, option_and_then}
use Rattle.jc_types.specs.declared.numbers.Uid.{Uid}
use Rattle.jc_types.specs.declared.objects.Entry.{Entry}
use Rattle.jc_types.specs.declared.objects.Entry.TheVariants.{JobPut, JobGone, PodPut, PodGone}
use Rattle.jc_types.specs.declared.objects.Job.{Job}
use Rattle.jc_types.specs.declared.objects.Pod.{Pod}
use Rattle.jc_types.specs.declared.objects.KeyNames.{KeyNames as Key}
use Rattle.jc_types.specs.Keys.{same_key, same_uid}

-- The entry is about the Job of the key.
abbrev pub is_about_job : Key → Entry → Bool
is_about_job k (JobPut job) = same_key job.key k
is_about_job k (JobGone job) = same_key job.key k
is_about_job k (PodPut pod) = false
is_about_job k (PodGone pod) = false

-- The entry is about the pod of the UID.
abbrev pub is_about_pod : Uid → Entry → Bool
is_about_pod u (JobPut job) = false
is_about_pod u (JobGone job) = false
is_about_pod u (PodPut pod) = same_uid pod.uid u
is_about_pod u (PodGone pod) = same_uid pod.uid u

-- The Job that the entry puts.
abbrev pub job_put : Entry → Option Job
job_put (JobPut job) = Some job
job_put (JobGone job) = None
job_put (PodPut pod) = None
job_put (PodGone pod) = None

-- The pod that the entry puts.
abbrev pub pod_put : Entry → Option Pod
pod_put (JobPut job) = None
pod_put (JobGone job) = None
pod_put (PodPut pod) = Some pod
pod_put (PodGone pod) = None

-- The Job that the last entry about the key, among the first n, puts.
abbrev pub job_at : ℕ → Key → List Entry → Option Job
job_at n k es = option_and_then job_put (find (is_about_job k) (reverse (take n es)))

-- The pod that the last entry about the UID, among the first n, puts.
abbrev pub pod_at : ℕ → Uid → List Entry → Option Pod
pod_at n u es = option_and_then pod_put (find (is_about_pod u) (reverse (take n es)))
