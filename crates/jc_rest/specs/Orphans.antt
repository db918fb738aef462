-- Pods whose Job is gone.
--     is_about pod e               the entry is about the pod, or about a Job of its owner's key
--     last_about pod log           the version of the last such entry; 0 where there is none
--     has_reached n number         the cache has seen the version
--     is_sure_of pod n notes       the key of its owner was added since the cache of Jobs had seen the version
--     LeavesNone shape deeds log   an orphan of which some controller is sure has lost its finalizer
use Rattle.std.specs.Prelude.{◌≡◌, ◌<◌, ℕ, nat_le, Bool, true, false, ◌&&◌, ◌||◌, List, [], ◌∷◌, length, if◌then◌else◌, Option, Some, None}
use Rattle.jc_control.specs.Queued.{has_key}
use Rattle.jc_types.specs.declared.numbers.Version.{Version}
use Rattle.jc_types.specs.declared.objects.Entry.{Entry}
use Rattle.jc_types.specs.declared.objects.Entry.TheVariants.{JobPut, JobGone, PodPut, PodGone}
use Rattle.jc_types.specs.declared.objects.Kind.TheVariants.{Jobs}
use Rattle.jc_types.specs.declared.objects.Pod.{Pod}
use Rattle.jc_types.specs.declared.runs.Shape.{Shape}
use Rattle.jc_types.specs.Keys.{same_key, same_uid}
use Rattle.jc_states.specs.Owners.{is_foreign}
use Rattle.jc_log.specs.Deeds.{Deed}
use Rattle.jc_log.specs.Log.{Live, job_in, life}
use Rattle.jc_history.specs.Diaries.{notes}
use Rattle.jc_history.specs.Lines.{adds}
use Rattle.jc_history.specs.Notes.{Note}
use Rattle.jc_history.specs.Numbers.{number}

-- The entry is about the pod, or about a Job of its owner's key.
abbrev pub is_about : Pod → Entry → Bool
is_about pod (JobPut job) = same_key job.key pod.owner
is_about pod (JobGone job) = same_key job.key pod.owner
is_about pod (PodPut new) = same_uid new.uid pod.uid
is_about pod (PodGone new) = same_uid new.uid pod.uid

-- The version of the last such entry; 0 where there is none.
abbrev pub last_about : Pod → List Entry → ℕ
last_about pod [] = 0
last_about pod (e ∷ older) = if is_about pod e then length (e ∷ older) else last_about pod older

-- The cache has seen the version.
abbrev pub has_reached : ℕ → Option Version → Bool
has_reached n None = false
has_reached n (Some at) = nat_le n at.0

-- The key of the pod's owner was added to the line since the cache of Jobs had seen the version: by a list or a
-- delivery, by the clock, or as a begin found a cache behind.
abbrev pub is_sure_of : Pod → ℕ → List Note → Bool
is_sure_of pod n [] = false
is_sure_of pod n (note ∷ older) =
    has_key pod.owner (adds note older) && has_reached n (number Jobs (note ∷ older))
    || is_sure_of pod n older

-- Each pod that is there and whose Job is gone has lost its finalizer, if some controller has added the key of its
-- owner since its cache of Jobs had seen the last entry about the pod or a Job of that key.
abbrev pub LeavesNone : Shape → List Deed → List Entry → Type 0
LeavesNone shape deeds log = (c : ℕ) → c < shape.controllers → (pod : Pod)
    → life pod.uid log ≡ Live pod → is_foreign (job_in pod.owner log) pod ≡ true
    → is_sure_of pod (last_about pod log) (notes shape c deeds log) ≡ true → pod.tracked ≡ false
