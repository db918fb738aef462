-- A cache lags behind the log of the store. Its number is the version up to which it has seen the log;
-- without a number it has seen nothing yet, or must see it anew.
--     CachedJobs              a cache of Jobs: its number, and its Jobs by key
--     CachedPods              a cache of pods: its number, and its pods apart by owner key
--     IsNext number v         v is the version after the number
--     job_rows jobs            each Job under its key, in the order given
--     AreApart jobs           no two of the Jobs have the same key
--     pods_at k rows          the pods under the owner key
--     HasFewPods rows         under each owner key one more pod fits
--     owned_after k e pods    the pods under the owner key after one more entry
--     TakesIn e old new       new has under each owner key the pods of old after one more entry
--     HoldsByOwner pods rows  the rows have the pods, each under the key of its owner
use Rattle.std.specs.Prelude.{◌≡◌, ◌+◌, ◌-◌, ◌<◌, ◌^◌, false, List, [], ◌∷◌, length, map, Option, Some, None, filter, if◌then◌else◌}
use Rattle.std.specs.List.{AllByRecursion as Each}
use Rattle.std.specs.Option.{option_map_or}
use Rattle.jc_types.specs.declared.numbers.Version.{Version}
use Rattle.jc_types.specs.declared.objects.Entry.{Entry}
use Rattle.jc_types.specs.declared.objects.Entry.TheVariants.{JobPut, JobGone, PodPut, PodGone}
use Rattle.jc_types.specs.declared.objects.Job.{Job}
use Rattle.jc_types.specs.declared.objects.Pod.{Pod}
use Rattle.jc_types.specs.declared.objects.KeyNames.{KeyNames as Key}
use Rattle.jc_types.specs.Keys.{same_key}
use Rattle.jc_states.specs.PodLists.{put_pod, drop_pod}
use Rattle.jc_log.specs.Tables.{at}

-- A cache of Jobs: its number, and its Jobs by key in the order in which their keys came.
pub record CachedJobs : Type 0 where
  pub number : Option Version
  pub jobs : List (Key × Job)

-- A cache of pods: its number, and for each owner key that has a row its pods, in ascending UID. An owner
-- without pods may have a row.
pub record CachedPods : Type 0 where
  pub number : Option Version
  pub rows : List (Key × List Pod)

-- The version is the one after the number.
abbrev pub IsNext : Option Version → Version → Type 0
IsNext None version = ⊥
IsNext (Some number) version = version.0 ≡ number.0 + 1

-- Each Job under its key, in the order given.
abbrev pub job_rows : List Job → List (Key × Job)
job_rows jobs = map (λ job. (job.key, job)) jobs

-- No two of the Jobs have the same key.
abbrev pub AreApart : List Job → Type 0
AreApart [] = Unit {0}
AreApart (job ∷ jobs) = Each (λ other. same_key job.key other.key ≡ false) jobs × AreApart jobs

-- The pods under the owner key: none where it has no row.
abbrev pub pods_at : Key → List (Key × List Pod) → List Pod
pods_at k rows = option_map_or (λ pods. pods) (at same_key rows k) []

-- Under each owner key there are fewer pods than 2 ^ 32 - 1, so that one more is counted in 32 bits. A cache
-- with fewer pods in all has as few.
abbrev pub HasFewPods : List (Key × List Pod) → Type 0
HasFewPods rows = (k : Key) → length (pods_at k rows) < 2 ^ 32 - 1

-- The pods under the owner key after one more entry.
abbrev pub owned_after : Key → Entry → List Pod → List Pod
owned_after k (JobPut job) pods = pods
owned_after k (JobGone job) pods = pods
owned_after k (PodPut pod) pods = if same_key pod.owner k then put_pod pod pods else pods
owned_after k (PodGone pod) pods = if same_key pod.owner k then drop_pod pod.uid pods else pods

-- The new rows have under each owner key the pods of the old rows after one more entry.
abbrev pub TakesIn : Entry → List (Key × List Pod) → List (Key × List Pod) → Type 0
TakesIn e old new = (k : Key) → pods_at k new ≡ owned_after k e (pods_at k old)

-- The rows have the pods, each under the key of its owner.
abbrev pub HoldsByOwner : List Pod → List (Key × List Pod) → Type 0
HoldsByOwner pods rows = (k : Key) → pods_at k rows ≡ filter (λ pod. same_key pod.owner k) pods
