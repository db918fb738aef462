-- Why a key finds no rest while something of it is left to do. The Job of the key came at version
-- a, and a pod of it had ended by version b, and both are so to this day.
--     HasCacheSeen number v           the cache has seen the version
--     point kind a b                  the version that a cache of the kind has to see
--     StoodBefore number v            the cache stood just before the version
--     AddsOrRetries k a b note older  a cache that comes to see one of both adds the key, and the end of a
--                                     sync that saw both adds a delay, or forgets the caches
--     AllAddOrRetry k a b notes       so it is with each note
--     IsBusy k a b notes              the key is dirty, or delayed, or has a sync that saw both
--     Stands k a b log                the log lists the key from these versions on, and tells of it at them
--     EndsRestless, AllEndRestless    the end of a sync that saw both does, by one note or by all of them
--     has_job_of k log                a Job of the key is there
--     has_forgotten k j u log         the pod u of the Job j is there, tracked, and has ended
--     StandTogether k j u log         the versions since when both are so
--     FailsIf k a b note              a sync that saw both fails
use Rattle.std.specs.Prelude.{◌≡◌, ℕ, ◌+◌, ◌≤◌, Bool, true, false, ◌&&◌, min, List, [], ◌∷◌, length, Option, Some, None, is_some, option_and_then, ◌⊎◌}
use Rattle.jc_control.specs.ControllerCalls.{forgets_caches, told}
use Rattle.jc_queue.specs.Queued.{has_key}
use Rattle.jc_types.specs.declared.numbers.Version.{Version}
use Rattle.jc_types.specs.declared.objects.Entry.{Entry}
use Rattle.jc_types.specs.declared.objects.Kind.{Kind}
use Rattle.jc_types.specs.declared.objects.Kind.TheVariants.{Jobs, Pods}
use Rattle.jc_states.specs.declared.bases.Basis.{Basis}
use Rattle.jc_types.specs.declared.objects.KeyNames.{KeyNames as Key}
use Rattle.jc_types.specs.Keys.{same_key, same_uid}
use Rattle.jc_types.specs.declared.numbers.Uid.{Uid}
use Rattle.jc_types.specs.declared.objects.Pod.{Pod}
use Rattle.jc_log.specs.Log.{entry_at, pod_in, upto}
use Rattle.jc_states.specs.Pods.{is_final}
use Rattle.std.specs.Option.{option_map_or}
use Rattle.jc_history.specs.Diaries.{listed_keys}
use Rattle.jc_history.specs.Delays.{added_by_end, delay, is_retried, tries}
use Rattle.jc_history.specs.Lines.{is_dirty}
use Rattle.jc_history.specs.Notes.{Note, Listed, Told, Began, Ended}
use Rattle.jc_history.specs.Numbers.{number}
use Rattle.jc_history.specs.Registers.{register}

-- The cache has seen the version.
abbrev pub HasCacheSeen : Option Version → ℕ → Type 0
HasCacheSeen None v = ⊥
HasCacheSeen (Some number) v = v ≤ number.0

-- The version that a cache of the kind has to see.
abbrev pub point : Kind → ℕ → ℕ → ℕ
point Jobs a b = a
point Pods a b = b

-- The cache stood just before the version.
abbrev pub StoodBefore : Option Version → Version → Type 0
StoodBefore None version = ⊥
StoodBefore (Some before) version = version.0 ≡ before.0 + 1

-- A cache that comes to see the entry of one of both adds the key; a delivery tells the next entry, and a sync begins with
-- what the caches have seen; and the end of a sync that saw both adds a delay of the key, or forgets the caches.
abbrev pub AddsOrRetries : Key → ℕ → ℕ → Note → List Note → Type 0
AddsOrRetries k a b (Listed kind at keys) older = point kind a b ≤ at.0 → has_key k keys ≡ true
AddsOrRetries k a b (Told kind version key) older =
    StoodBefore (number kind older) version × (version.0 ≡ point kind a b → key ≡ Some k)
AddsOrRetries k a b (Began w basis) older =
    (number Jobs older ≡ Some basis.jobs_at) × (number Pods older ≡ Some basis.pods_at)
AddsOrRetries k a b (Ended w basis end now) older =
    same_key basis.key k ≡ true → a ≤ basis.jobs_at.0 → b ≤ basis.pods_at.0
    → (forgets_caches end ≡ true)
    ⊎ (is_some (added_by_end end now (min (tries k older + 1) 7)) ≡ true)
AddsOrRetries k a b note older = Unit {0}

-- So it is with each note.
abbrev pub AllAddOrRetry : Key → ℕ → ℕ → List Note → Type 0
AllAddOrRetry k a b [] = Unit {0}
AllAddOrRetry k a b (note ∷ older) = AddsOrRetries k a b note older × AllAddOrRetry k a b older

-- The key is dirty, it is delayed, or a sync of it is under way that saw both.
pub data IsBusy (k : Key) (a b : ℕ) (notes : List Note) : Type 0 where
  Dirty : is_dirty k notes ≡ true → IsBusy k a b notes
  Waiting : is_some (delay k notes) ≡ true → IsBusy k a b notes
  Syncing : (w : ℕ) (basis : Basis) → register w notes ≡ Some basis → same_key basis.key k ≡ true
      → a ≤ basis.jobs_at.0 → b ≤ basis.pods_at.0 → IsBusy k a b notes

-- ---- the log

-- From version a on the key is among those of the Jobs, and from version b on among those of the
-- pods' owners; the entries of these versions are of the key.
pub record Stands (k : Key) (a b : ℕ) (log : List Entry) : Type 0 where
  pub listed : (kind : Kind) (n : ℕ) → point kind a b ≤ n → n ≤ length log
      → has_key k (listed_keys kind (upto n log)) ≡ true
  pub told_at : (kind : Kind) → point kind a b ≤ length log
      → option_and_then (told kind) (entry_at (point kind a b) log) ≡ Some k

-- The end of a sync that saw both adds a delay of the key, or forgets the caches.
abbrev pub EndsRestless : Key → ℕ → ℕ → Note → List Note → Type 0
EndsRestless k a b (Ended w basis end now) older = AddsOrRetries k a b (Ended w basis end now) older
EndsRestless k a b note older = Unit {0}

-- So does each.
abbrev pub AllEndRestless : Key → ℕ → ℕ → List Note → Type 0
AllEndRestless k a b [] = Unit {0}
AllEndRestless k a b (note ∷ older) = EndsRestless k a b note older × AllEndRestless k a b older

-- A Job of the key is there.
abbrev pub has_job_of : Key → List Entry → Bool
has_job_of k log = has_key k (listed_keys Jobs log)

-- The pod of the UID u is there, made for the Job of the UID j under the key, tracked, and has
-- ended.
abbrev pub is_forgotten : Key → Uid → Pod → Bool
is_forgotten k j pod =
    same_key pod.owner k && (same_uid pod.owner_uid j && (pod.tracked && is_final pod.phase))

abbrev pub has_forgotten : Key → Uid → Uid → List Entry → Bool
has_forgotten k j u log = option_map_or (is_forgotten k j) (pod_in u log) false

-- Since when both are so.
pub record StandTogether (k : Key) (j u : Uid) (log : List Entry) : Type 0 where
  pub job_from : ℕ
  pub pod_from : ℕ
  pub job_by : job_from ≤ length log
  pub pod_by : pod_from ≤ length log
  pub job_since : (n : ℕ) → job_from ≤ n → n ≤ length log → has_job_of k (upto n log) ≡ true
  pub pod_since : (n : ℕ) → pod_from ≤ n → n ≤ length log → has_forgotten k j u (upto n log) ≡ true
  pub stands : Stands k job_from pod_from log

-- ---- how syncs end

-- A sync of the key that saw both fails.
abbrev pub FailsIf : Key → ℕ → ℕ → Note → Type 0
FailsIf k a b (Ended w basis end now) =
    same_key basis.key k ≡ true → a ≤ basis.jobs_at.0 → b ≤ basis.pods_at.0 → is_retried end ≡ true
FailsIf k a b note = Unit {0}
