-- Where a log speaks of whom: the places of its entries, counted from 0, oldest first.
--     owns j u older          a pod of the UID lives, and was made for the Job
--     touches j e older       the entry puts a pod of the Job, or the pod that it is about was one
--     places_where test log   the places of the entries of which the test is true; newest first
--     touching_places j log           those at which the pods of the Job change; the log oldest first
--     job_places k log              those about the Job of the key; the log oldest first
--     was_owned before now j   the Job that had the pod before is this one, and another than now
--     ArePlaces log places    the lists are those of the log
--     IsCut n ps count        so many places are below the number, and the others are not
use Rattle.std.specs.Prelude.{◌≡◌, ℕ, ◌<◌, ◌≤◌, Bool, false, not, ◌&&◌, ◌||◌, List, [], ◌∷◌, ◌++◌, length, get_or, reverse, if◌then◌else◌, Option, option_map}
use Rattle.std.specs.Option.{option_map_or}
use Rattle.jc_types.specs.declared.numbers.Uid.{Uid}
use Rattle.jc_types.specs.declared.objects.Entry.{Entry}
use Rattle.jc_types.specs.declared.objects.Entry.TheVariants.{JobPut, JobGone, PodPut, PodGone}
use Rattle.jc_types.specs.declared.objects.Pod.{Pod}
use Rattle.jc_types.specs.declared.objects.KeyNames.{KeyNames as Key}
use Rattle.jc_types.specs.Keys.{same_key, same_uid}
use Rattle.jc_log.specs.Log.{pod_in}
use Rattle.jc_log.specs.PlainReadings.{is_about_job}
use Rattle.jc_log.specs.Tables.{at}
use Rattle.jc_verdicts.specs.ByUid.{places_under, owner_in, places_at}
use Rattle.jc_verdicts.specs.declared.places.Places.{Places}

-- A pod of the UID lives, and was made for the Job.
abbrev pub owns : Uid → Uid → List Entry → Bool
owns j u older = option_map_or (λ (pod : Pod). same_uid pod.owner_uid j) (pod_in u older) false

-- The entry puts a pod of the Job, or the pod that it is about was one of the Job's.
abbrev pub touches : Uid → Entry → List Entry → Bool
touches j (JobPut job) older = false
touches j (JobGone job) older = false
touches j (PodPut pod) older = same_uid pod.owner_uid j || owns j pod.uid older
touches j (PodGone pod) older = owns j pod.uid older

-- The places of the entries of which the test is true, in a log newest first.
abbrev pub places_where : (Entry → List Entry → Bool) → List Entry → List ℕ
places_where test [] = []
places_where test (e ∷ older) =
    if test e older then places_where test older ++ length older ∷ [] else places_where test older

-- The places of the entries that touch the pods of the Job.
abbrev pub touching_places : Uid → List Entry → List ℕ
touching_places j log = places_where (touches j) (reverse log)

-- The places of the entries about the Job of the key.
abbrev pub job_places : Key → List Entry → List ℕ
job_places k log = places_where (λ e older. is_about_job k e) (reverse log)

-- The Job that a pod was made for before is this one, and not the one that it is made for now.
abbrev pub was_owned : Option Uid → Uid → Uid → Bool
was_owned before owner j =
    option_map_or (λ other. not (same_uid other owner) && same_uid other j) before false

-- The lists are those of the log, newest first, and each pod that lives has its owner.
pub record ArePlaces (log : List Entry) (places : Places) : Type 0 where
  pub pods : (j : Uid) → places_under places.pods j ≡ places_where (touches j) log
  pub jobs : (k : Key) → places_at same_key places.jobs.entries k
      ≡ places_where (λ e older. is_about_job k e) log
  pub owners : (u : Uid) → owner_in places.owners u
      ≡ option_map (λ (pod : Pod). pod.owner_uid) (pod_in u log)

-- So many places are below the number, and the others are not.
pub record IsCut (n : ℕ) (places : List ℕ) (count : ℕ) : Type 0 where
  pub within : count ≤ length places
  pub below : (i : ℕ) → i < count → get_or places i 0 < n
  pub above : (i : ℕ) → count ≤ i → i < length places → n ≤ get_or places i 0
