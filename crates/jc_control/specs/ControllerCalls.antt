-- What each call leaves of what one controller knows.
--     job_keys jobs, pod_owners pods  the keys that a list adds
--     listed_jobs, listed_pods        a cache is filled: its number, and the keys of the list
--     DeliversPods kind e old new     the pods under each owner key after a delivery
--     delivered schedule kind e v     a cache is told of an entry
--     forgot schedule kind            a cache is forgotten
--     clocked schedule now            the keys that are due go from the delays to the queue
--     need_of kind k c                how far the cache must have seen the log before the key's next sync
--     lag k c j p                     the first cache that has not, Jobs before Pods
--     can_begin c                     the next begin starts a sync
--     begun now c                     the answer of a begin, and what is left
--     followed schedule answer        what the answer of a begin leaves
--     TakesFirst answer line          the key of a sync that begins is the first of the line
--     TakesKey answer before after    the key of a sync that begins is processing, and was not before
--     is_begun answer                 a sync begins
--     IsFresh c basis                 the caches have seen all that the sync must know
--     answered, kept_backoff          a greater floor, another backoff
--     ended schedule k end now        the sync of the key has ended
use Rattle.std.specs.Prelude.{◌≡◌, ◌≤◌, ℕ, Bool, true, false, nat_lt, max, List, [], ◌∷◌, map, fold, Option, Some, None, IfSome, is_none, slice_get, if◌then◌else◌}
use Rattle.jc_cache.specs.Caches.{owned_after, pods_at}
use Rattle.jc_control.specs.Schedules.{ControllerView, Schedule, backoff_of, floor_of, unknown}
use Rattle.jc_control.specs.declared.begins.Begin.{Begin}
use Rattle.jc_control.specs.declared.begins.Begin.TheVariants.{NotSynced, NoKey, Behind, Begun}
use Rattle.jc_control.specs.declared.begins.Lag.{Lag}
use Rattle.jc_control.specs.declared.ends.SyncEnd.{SyncEnd}
use Rattle.jc_control.specs.declared.ends.SyncEnd.TheVariants.{Ended, Retry, Gone, Unavailable}
use Rattle.jc_control.specs.declared.controller.Known.{Known}
use Rattle.jc_queue.specs.Delayed.{Delayed, delayed, due_keys, forgotten, left_after, retried}
use Rattle.jc_queue.specs.Queued.{Queued, added, finished, got, has_key, sent_back}
use Rattle.jc_types.specs.declared.numbers.Version.{Version}
use Rattle.jc_types.specs.declared.objects.Entry.{Entry}
use Rattle.jc_types.specs.declared.objects.Entry.TheVariants.{JobPut, JobGone, PodPut, PodGone}
use Rattle.jc_types.specs.declared.objects.Job.{Job}
use Rattle.jc_types.specs.declared.objects.Kind.{Kind}
use Rattle.jc_types.specs.declared.objects.Kind.TheVariants.{Jobs, Pods}
use Rattle.jc_types.specs.declared.objects.Pod.{Pod}
use Rattle.jc_types.specs.declared.syncs.Backoff.{Backoff}
use Rattle.jc_states.specs.declared.bases.Basis.{Basis}
use Rattle.jc_types.specs.declared.objects.KeyNames.{KeyNames as Key}
use Rattle.jc_types.specs.Keys.{same_key}
use Rattle.jc_log.specs.Log.{jobs_after}
use Rattle.jc_log.specs.Tables.{at, puts}

-- ---- caches

-- The queue with the keys added, one after the other.
abbrev pub all_added : Queued → List Key → Queued
all_added q keys = fold added q keys

-- The keys of the Jobs, in their order.
abbrev pub job_keys : List Job → List Key
job_keys jobs = map (λ job. job.key) jobs

-- The keys of the pods' owners, in the order of the pods.
abbrev pub pod_owners : List Pod → List Key
pod_owners pods = map (λ pod. pod.owner) pods

-- The job cache is filled, and the keys of the Jobs are added in the order of the list.
abbrev pub listed_jobs : Schedule → List Job → Version → Schedule
listed_jobs schedule jobs at = record schedule {
  jobs_at = Some at;
  queue = all_added schedule.queue (job_keys jobs);
}

-- The pod cache is filled, and the keys of the pods' owners are added in the order of the list.
abbrev pub listed_pods : Schedule → List Pod → Version → Schedule
listed_pods schedule pods at = record schedule {
  pods_at = Some at;
  queue = all_added schedule.queue (pod_owners pods);
}

-- The key that a cache of the kind adds where it is told of the entry: that of the Job, or of the pod's owner.
abbrev pub told : Kind → Entry → Option Key
told Jobs (JobPut job) = Some job.key
told Jobs (JobGone job) = Some job.key
told Jobs (PodPut pod) = None
told Jobs (PodGone pod) = None
told Pods (JobPut job) = None
told Pods (JobGone job) = None
told Pods (PodPut pod) = Some pod.owner
told Pods (PodGone pod) = Some pod.owner

-- The queue with the key, where there is one.
abbrev pub added_if : Queued → Option Key → Queued
added_if q None = q
added_if q (Some k) = added q k

-- The cache's number is the version.
abbrev pub numbered : Schedule → Kind → Option Version → Schedule
numbered schedule Jobs number = record schedule { jobs_at = number }
numbered schedule Pods number = record schedule { pods_at = number }

-- The cache is told of the entry of the version. An entry of the other kind moves the number alone.
abbrev pub delivered : Schedule → Kind → Entry → Version → Schedule
delivered schedule kind entry version = record (numbered schedule kind (Some version)) {
  queue = added_if schedule.queue (told kind entry);
}

-- The cached Jobs after a delivery to the cache of the kind.
abbrev pub jobs_delivered : Kind → Entry → List (Key × Job) → List (Key × Job)
jobs_delivered Jobs entry jobs = jobs_after entry jobs
jobs_delivered Pods entry jobs = jobs

-- The cached pods of the key after a delivery to the cache of the kind.
abbrev pub pods_delivered : Kind → Key → Entry → List Pod → List Pod
pods_delivered Jobs k entry pods = pods
pods_delivered Pods k entry pods = owned_after k entry pods

-- The new rows have under each owner key the pods of the old rows after the delivery.
abbrev pub DeliversPods : Kind → Entry → List (Key × List Pod) → List (Key × List Pod) → Type 0
DeliversPods kind entry old new = (k : Key) → pods_at k new ≡ pods_delivered kind k entry (pods_at k old)

-- The cache has no number.
abbrev pub forgot : Schedule → Kind → Schedule
forgot schedule kind = numbered schedule kind None

-- The cached Jobs, and the rows of the cached pods, after the cache of the kind was forgotten.
abbrev pub jobs_kept : Kind → List (Key × Job) → List (Key × Job)
jobs_kept Jobs jobs = []
jobs_kept Pods jobs = jobs

abbrev pub rows_kept : Kind → List (Key × List Pod) → List (Key × List Pod)
rows_kept Jobs rows = rows
rows_kept Pods rows = []

-- ---- the clock

-- The keys that are due at the moment leave the delays and are added, in the order in which they are due.
abbrev pub clocked : Schedule → ℕ → Schedule
clocked schedule now = record schedule {
  queue = all_added schedule.queue (due_keys schedule.delays now);
  delays = left_after schedule.delays now;
}

-- ---- the begin of a sync

-- The later of two versions.
abbrev pub later : Version → Version → Version
later a b = record { 0 = max a.0 b.0 }

-- The pod cache must have seen the version of the cached Job besides.
abbrev pub pods_need : Version → Option Job → Version
pods_need floor None = floor
pods_need floor (Some job) = later floor job.version

-- How far the cache must have seen the log before the key's next sync.
abbrev pub need_of : Kind → Key → ControllerView → Version
need_of Jobs k c = floor_of k c.schedule
need_of Pods k c = pods_need (floor_of k c.schedule) (at same_key c.jobs k)

-- The cache is behind what it must have seen.
abbrev pub behind : Kind → Version → Version → Option Lag
behind kind need have =
    if nat_lt have.0 need.0 then Some (record { kind = kind; need = need; have = have }) else None

-- The first that is there.
abbrev pub first_lag : Option Lag → Option Lag → Option Lag
first_lag None other = other
first_lag (Some lag) other = Some lag

-- The first cache that is behind, Jobs before Pods, where the caches have these numbers.
abbrev pub lag : Key → ControllerView → Version → Version → Option Lag
lag k c j p = first_lag (behind Jobs (need_of Jobs k c) j) (behind Pods (need_of Pods k c) p)

-- Both caches have numbers, and neither is behind for the first key of the line.
abbrev pub ready_at : ControllerView → Option Version → Option Version → List Key → Bool
ready_at c None number line = false
ready_at c (Some j) None line = false
ready_at c (Some j) (Some p) [] = false
ready_at c (Some j) (Some p) (k ∷ rest) = is_none (lag k c j p)

abbrev pub can_begin : ControllerView → Bool
can_begin c = ready_at c c.schedule.jobs_at c.schedule.pods_at c.schedule.queue.line

-- What a sync of the key starts from.
abbrev pub basis_of : ℕ → ControllerView → Version → Version → Key → Basis
basis_of now c j p k = record {
  key = k;
  job = at same_key c.jobs k;
  pods = pods_at k c.rows;
  jobs_at = j;
  pods_at = p;
  now = now;
  backoff = backoff_of k c.schedule;
}

-- With a row for the key, where it has none.
abbrev pub noted_at : Option Known → List (Key × Known) → Key → List (Key × Known)
noted_at None rows k = puts same_key rows k unknown
noted_at (Some known) rows k = rows

abbrev pub noted : List (Key × Known) → Key → List (Key × Known)
noted rows k = noted_at (at same_key rows k) rows k

-- The answer of a begin, and what is left.
pub record Beginning : Type 0 where
  pub answer : Begin
  pub schedule : Schedule

abbrev pub unchanged : Schedule → Begin → Beginning
unchanged schedule answer = record { answer = answer; schedule = schedule }

-- A key for which a cache is behind goes to the line's end. The sync of another begins.
abbrev pub begun_unless : ℕ → ControllerView → Version → Version → Key → Option Lag → Beginning
begun_unless now c j p k (Some lag) = record {
  answer = Behind lag.kind lag.need lag.have;
  schedule = record c.schedule { queue = sent_back c.schedule.queue };
}
begun_unless now c j p k None = record {
  answer = Begun (basis_of now c j p k);
  schedule = record c.schedule { queue = got c.schedule.queue; known = noted c.schedule.known k };
}

abbrev pub begun_first : ℕ → ControllerView → Version → Version → List Key → Beginning
begun_first now c j p [] = unchanged c.schedule NoKey
begun_first now c j p (k ∷ rest) = begun_unless now c j p k (lag k c j p)

abbrev pub begun_at : ℕ → ControllerView → Option Version → Option Version → Beginning
begun_at now c None number = unchanged c.schedule NotSynced
begun_at now c (Some j) None = unchanged c.schedule NotSynced
begun_at now c (Some j) (Some p) = begun_first now c j p c.schedule.queue.line

-- The answer of a begin, and what is left: nothing changes where a cache has no number or the line is empty.
abbrev pub begun : ℕ → ControllerView → Beginning
begun now c = begun_at now c c.schedule.jobs_at c.schedule.pods_at

-- What is left where the sync of the key begins.
abbrev pub taken : Schedule → Key → Schedule
taken schedule k = record schedule { queue = got schedule.queue; known = noted schedule.known k }

-- What the answer of a begin leaves: a key for which a cache is behind goes to the line's end, and the key of
-- a sync that begins is got.
abbrev pub followed : Schedule → Begin → Schedule
followed schedule NotSynced = schedule
followed schedule NoKey = schedule
followed schedule (Behind kind need have) = record schedule { queue = sent_back schedule.queue }
followed schedule (Begun basis) = taken schedule basis.key

-- The key of a sync that begins is the first of the line.
abbrev pub TakesFirst : Begin → List Key → Type 0
TakesFirst NotSynced line = Unit {0}
TakesFirst NoKey line = Unit {0}
TakesFirst (Behind kind need have) line = Unit {0}
TakesFirst (Begun basis) line = Some basis.key ≡ slice_get line 0

-- A sync begins.
abbrev pub is_begun : Begin → Bool
is_begun NotSynced = false
is_begun NoKey = false
is_begun (Behind kind need have) = false
is_begun (Begun basis) = true

-- The caches have seen the log up to the key's floor, and the pod cache up to the version of the Job that the
-- job cache has.
pub record IsFresh (c : ControllerView) (basis : Basis) : Type 0 where
  pub jobs_number : c.schedule.jobs_at ≡ Some basis.jobs_at
  pub pods_number : c.schedule.pods_at ≡ Some basis.pods_at
  pub jobs_floor : (floor_of basis.key c.schedule).0 ≤ basis.jobs_at.0
  pub pods_floor : (floor_of basis.key c.schedule).0 ≤ basis.pods_at.0
  pub job : IfSome basis.job (λ job. job.version.0 ≤ basis.pods_at.0)

-- The key of a sync that begins was not among these keys before, and is among those now.
abbrev pub TakesKey : Begin → List Key → List Key → Type 0
TakesKey NotSynced before after = Unit {0}
TakesKey NoKey before after = Unit {0}
TakesKey (Behind kind need have) before after = Unit {0}
TakesKey (Begun basis) before after =
    (has_key basis.key before ≡ false) × (has_key basis.key after ≡ true)

-- ---- the steps and the end of a sync

-- With this known of the key.
abbrev pub with_known : Schedule → Key → Known → Schedule
with_known schedule k known = record schedule { known = puts same_key schedule.known k known }

-- The floor of the key is the later of itself and the version.
abbrev pub answered : Schedule → Key → Version → Schedule
answered schedule k version = with_known schedule k (record {
  floor = later (floor_of k schedule) version;
  backoff = backoff_of k schedule;
})

-- The backoff of the key is this one.
abbrev pub kept_backoff : Schedule → Key → Backoff → Schedule
kept_backoff schedule k backoff = with_known schedule k (record {
  floor = floor_of k schedule;
  backoff = backoff;
})

-- The key is due at the moment, where there is one.
abbrev pub delayed_if : Delayed → Key → Option ℕ → Delayed
delayed_if d k None = d
delayed_if d k (Some moment) = delayed d k moment

-- The delays after the end: the key has failed once more, or its failures are forgotten.
abbrev pub delays_after : Delayed → Key → SyncEnd → ℕ → Delayed
delays_after d k (Ended next) now = delayed_if (forgotten d k) k next
delays_after d k Retry now = retried d k now
delays_after d k Gone now = forgotten d k
delays_after d k Unavailable now = retried d k now

-- The end forgets both caches.
abbrev pub forgets_caches : SyncEnd → Bool
forgets_caches (Ended next) = false
forgets_caches Retry = false
forgets_caches Gone = false
forgets_caches Unavailable = true

abbrev pub number_after : SyncEnd → Option Version → Option Version
number_after end number = if forgets_caches end then None else number

module _ {A : Type 0} where
  abbrev pub rows_after : SyncEnd → List A → List A
  rows_after end rows = if forgets_caches end then [] else rows

-- The sync of the key has ended: the key is done, and the delays are as the end says.
abbrev pub ended : Schedule → Key → SyncEnd → ℕ → Schedule
ended schedule k end now = record schedule {
  jobs_at = number_after end schedule.jobs_at;
  pods_at = number_after end schedule.pods_at;
  queue = finished schedule.queue k;
  delays = delays_after schedule.delays k end now;
}
