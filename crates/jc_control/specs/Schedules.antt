-- What one controller knows.
--     Schedule                    its caches' numbers, its queue and delays, what it knows of each key
--     ControllerView              the same beside the tables of its caches
--     idle                        nothing is known
--     known_of k schedule         what is known of the key; so its floor and its backoff
--     number_of kind schedule     the number of the cache
--     AreKnown keys known         each of the keys has a row
--     AreSupplied keys supplies   each of the keys has the copies that the end of its sync needs
--     IsProvided q d known supplies   the processing keys have them, and there is room for the ends
--     MirrorsLog log c            the caches have what a log has at their numbers
use Rattle.std.specs.Prelude.{◌≡◌, ◌+◌, ◌≤◌, true, List, [], length, Option, Some, None, is_some}
use Rattle.std.specs.Option.{unwrap_or}
use Rattle.jc_cache.specs.Caches.{pods_at}
use Rattle.jc_control.specs.declared.controller.Known.{Known}
use Rattle.jc_queue.specs.Delayed.{Delayed, RoomedDelays}
use Rattle.jc_queue.specs.Queued.{Queued, RoomedQueue, has_key}
use Rattle.jc_types.specs.declared.numbers.Version.{Version}
use Rattle.jc_types.specs.declared.objects.Entry.{Entry}
use Rattle.jc_types.specs.declared.objects.Job.{Job}
use Rattle.jc_types.specs.declared.objects.Kind.{Kind}
use Rattle.jc_types.specs.declared.objects.Kind.TheVariants.{Jobs, Pods}
use Rattle.jc_types.specs.declared.objects.Pod.{Pod}
use Rattle.jc_types.specs.declared.syncs.Backoff.{Backoff}
use Rattle.jc_types.specs.declared.objects.KeyNames.{KeyNames as Key}
use Rattle.jc_types.specs.Keys.{same_key}
use Rattle.jc_log.specs.Log.{jobs_in, pods_under, upto}
use Rattle.jc_log.specs.Tables.{at}

-- The numbers of both caches, the queue and the delays, and what is known of each key.
pub record Schedule : Type 0 where
  pub jobs_at : Option Version
  pub pods_at : Option Version
  pub queue : Queued
  pub delays : Delayed
  pub known : List (Key × Known)

-- The same beside the Jobs of the one cache, by key, and the pods of the other, by owner key.
pub record ControllerView : Type 0 where
  pub schedule : Schedule
  pub jobs : List (Key × Job)
  pub rows : List (Key × List Pod)

-- No cache has a number, no key waits or is delayed, and nothing is known of any.
abbrev pub idle : Schedule
idle = record {
  jobs_at = None;
  pods_at = None;
  queue = record { line = []; dirty = []; processing = [] };
  delays = record { moments = []; failures = [] };
  known = [];
}

-- What is known of a key that has no row: its floor is 0, and it has not failed.
abbrev pub unknown : Known
unknown = record { floor = record { 0 = 0 }; backoff = record { failures = 0; last = None } }

-- What is known of the key.
abbrev pub known_of : Key → Schedule → Known
known_of k schedule = unwrap_or (at same_key schedule.known k) unknown

-- The greatest version that an answer to a request for the key had.
abbrev pub floor_of : Key → Schedule → Version
floor_of k schedule = (known_of k schedule).floor

-- The failures of the key in a row.
abbrev pub backoff_of : Key → Schedule → Backoff
backoff_of k schedule = (known_of k schedule).backoff

-- The number of the cache.
abbrev pub number_of : Kind → Schedule → Option Version
number_of Jobs schedule = schedule.jobs_at
number_of Pods schedule = schedule.pods_at

-- Each of the keys has a row.
abbrev pub AreKnown : List Key → List (Key × Known) → Type 0
AreKnown keys known = (k : Key) → has_key k keys ≡ true → is_some (at same_key known k) ≡ true

-- Each of the keys has a supply of its copies.
abbrev pub AreSupplied : List Key → List Key → Type 0
AreSupplied keys supplies = (k : Key) → has_key k keys ≡ true → has_key k supplies ≡ true

-- Each processing key has a row and a supply. The delays have room for each of them, and the queue for each
-- of them beside each key that has a moment.
pub record IsProvided (q : RoomedQueue) (d : RoomedDelays) (rows : List (Key × Known)) (supplies : List Key) : Type 0 where
  pub known : AreKnown q.queue.processing rows
  pub supplied : AreSupplied q.queue.processing supplies
  pub for_delays : length q.queue.processing ≤ d.room
  pub for_queue : length d.delays.moments + length q.queue.processing ≤ q.room

-- As much room as there are moments fewer went from the queue, and that of the delays stays.
abbrev pub RoomMoves : RoomedQueue → RoomedDelays → RoomedQueue → RoomedDelays → Type 0
RoomMoves q d left less =
    (left.room + length d.delays.moments ≡ q.room + length less.delays.moments)
    × (less.room ≡ d.room)

-- The version of the log's last entry.
abbrev pub log_end : List Entry → Version
log_end log = record { 0 = length log }

-- The cached Jobs are those that the log has at the cache's number; there are none without a number.
abbrev pub MirrorsJobs : List Entry → Option Version → List (Key × Job) → Type 0
MirrorsJobs log None jobs = jobs ≡ []
MirrorsJobs log (Some n) jobs = (n.0 ≤ length log) × (jobs ≡ jobs_in (upto n.0 log))

-- The same of the cached pods.
abbrev pub MirrorsPods : List Entry → Option Version → List (Key × List Pod) → Type 0
MirrorsPods log None rows = (k : Key) → pods_at k rows ≡ []
MirrorsPods log (Some n) rows =
    (n.0 ≤ length log) × ((k : Key) → pods_at k rows ≡ pods_under k (upto n.0 log))

-- The caches have what the log has at their numbers.
pub record MirrorsLog (log : List Entry) (c : ControllerView) : Type 0 where
  pub jobs : MirrorsJobs log c.schedule.jobs_at c.jobs
  pub pods : MirrorsPods log c.schedule.pods_at c.rows
