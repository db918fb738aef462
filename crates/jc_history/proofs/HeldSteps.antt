-- What the turns of a controller leave is what one more note says.
use Rattle.std.proofs.Common.{◌≡◌, ℕ, Bool, true, false, cond, not, ◌&&◌, List, [], ◌∷◌, map, Option, Some, None, refl, sym, ap, ◌∙◌, subst}
use Rattle.std.specs.List.{IsDistinct}
use Rattle.std.specs.Map.{keys_of}
use Rattle.std.specs.Option.{option_or, option_to_list, unwrap_or}
use Rattle.jc_asks.specs.Steps.{floor_given}
use Rattle.jc_control.proofs.LawFacts.{known_of-same}
use Rattle.jc_control.specs.declared.ends.SyncEnd.{SyncEnd}
use Rattle.jc_control.specs.declared.ends.SyncEnd.TheVariants as how
use Rattle.jc_control.specs.declared.controller.Known.{Known}
use Rattle.jc_control.specs.Schedules.{Schedule, backoff_of, floor_of, idle, known_of, number_of, unknown}
use Rattle.jc_control.specs.ControllerCalls.{added_if, all_added, answered, clocked, delays_after, delivered, ended, forgot, forgets_caches, kept_backoff, later, listed_jobs, listed_pods, told, with_known}
use Rattle.jc_plan.specs.Plans.{planned}
use Rattle.jc_types.specs.declared.actions.Fault.{Fault}
use Rattle.jc_types.specs.declared.numbers.Version.{Version}
use Rattle.jc_types.specs.declared.objects.Entry.{Entry}
use Rattle.jc_types.specs.declared.objects.Job.{Job}
use Rattle.jc_types.specs.declared.objects.Kind.{Kind}
use Rattle.jc_types.specs.declared.objects.Kind.TheVariants.{Jobs, Pods}
use Rattle.jc_types.specs.declared.objects.Pod.{Pod}
use Rattle.jc_types.specs.declared.replies.Answer.{Answer}
use Rattle.jc_types.specs.declared.replies.Request.{Request}
use Rattle.jc_states.specs.declared.bases.Basis.{Basis}
use Rattle.jc_types.specs.declared.objects.KeyNames.{KeyNames as Key}
use Rattle.jc_types.specs.Keys.{same_key}
use Rattle.jc_log.specs.Tables.{at}
use Rattle.jc_types.proofs.KeyFacts.{same_key-eq, same_key-itself}
use Rattle.jc_log.proofs.TableFacts.{Apart, Apart-puts, Apart-takes, Sets-puts}
use Rattle.jc_queue.proofs.QueueFacts.{added_is, empty_is, finished_is}
use Rattle.jc_queue.specs.Delayed.{Delayed, delayed, due_keys, failed, is_due}
use Rattle.jc_queue.specs.Queued.{IsQueue, Queued, added, has_key}
use Rattle.jc_history.specs.Agrees.{AreDelayed, IsScheduleOf}
use Rattle.jc_history.specs.Delays.{keys_due}
use Rattle.jc_history.specs.Notes.{Note, Listed, Told, Expired, Asked, Ended, Faulted, Ticked, newest}
use Rattle.jc_history.specs.Numbers.{number, number_told}
use Rattle.jc_history.specs.Registers.{backoff, floor, is_first, asks_status, tells_written, later_if}
use Rattle.jc_history.proofs.DelayFacts.{apart-filter, delay-ended, delay-ticked, due_is, failures-ended}
use Rattle.jc_history.proofs.QueueSteps.{queued-added, queued-ended}
use Rattle.jc_queue.proofs.OrderFacts.{apart, distinct}

-- ---- at the start

pub held-idle : IsScheduleOf [] idle
unfolding IsDistinct
held-idle = record {
  number_is = none;
  queued = record { line_is = refl; dirty_is = λ k. refl; processing_is = λ k. refl };
  delayed = record { moment_is = λ k. refl; failures_are = λ k. refl };
  floor_is = λ k. refl;
  backoff_is = λ k. refl;
  queue = empty_is;
  moments_once = tt;
  failures_once = tt;
}
  where
    none : (kind : Kind) → number_of kind idle ≡ number kind []
    none Jobs = refl
    none Pods = refl

-- ---- caches

-- Keys that are added leave a queue.
pub all_added_is : (q : Queued) (keys : List Key) → IsQueue q → IsQueue (all_added q keys)
all_added_is q [] s = s
all_added_is q (k ∷ keys) s = all_added_is (added q k) keys (added_is q k s)

pub held-listed_jobs : (older : List Note) (schedule : Schedule) (jobs : List Job) (at : Version) → IsScheduleOf older schedule → IsScheduleOf (Listed Jobs at (map (λ job. job.key) jobs) ∷ older) (listed_jobs schedule jobs at)
held-listed_jobs older schedule jobs at h = record {
  number_is = numbers;
  queued = queued-added _ older (map (λ job. job.key) jobs) schedule _ (record { added = refl; got = λ k. refl; neither = λ k. refl; ended = refl }) h.queued refl;
  delayed = record { moment_is = h.delayed.moment_is; failures_are = h.delayed.failures_are };
  floor_is = h.floor_is;
  backoff_is = h.backoff_is;
  queue = all_added_is schedule.queue (map (λ job. job.key) jobs) h.queue;
  moments_once = h.moments_once;
  failures_once = h.failures_once;
}
  where
    numbers : (kind : Kind) → number_of kind (listed_jobs schedule jobs at) ≡ number kind (Listed Jobs at (map (λ job. job.key) jobs) ∷ older)
    numbers Jobs = refl
    numbers Pods = h.number_is Pods

pub held-listed_pods : (older : List Note) (schedule : Schedule) (pods : List Pod) (at : Version) → IsScheduleOf older schedule → IsScheduleOf (Listed Pods at (map (λ pod. pod.owner) pods) ∷ older) (listed_pods schedule pods at)
held-listed_pods older schedule pods at h = record {
  number_is = numbers;
  queued = queued-added _ older (map (λ pod. pod.owner) pods) schedule _ (record { added = refl; got = λ k. refl; neither = λ k. refl; ended = refl }) h.queued refl;
  delayed = record { moment_is = h.delayed.moment_is; failures_are = h.delayed.failures_are };
  floor_is = h.floor_is;
  backoff_is = h.backoff_is;
  queue = all_added_is schedule.queue (map (λ pod. pod.owner) pods) h.queue;
  moments_once = h.moments_once;
  failures_once = h.failures_once;
}
  where
    numbers : (kind : Kind) → number_of kind (listed_pods schedule pods at) ≡ number kind (Listed Pods at (map (λ pod. pod.owner) pods) ∷ older)
    numbers Jobs = h.number_is Jobs
    numbers Pods = refl

-- A key that may be there is added.
if_added : (q : Queued) (o : Option Key) → added_if q o ≡ all_added q (option_to_list o)
if_added q None = refl
if_added q (Some k) = refl

pub held-told : (older : List Note) (schedule : Schedule) (kind : Kind) (entry : Entry) (version : Version) → IsScheduleOf older schedule → IsScheduleOf (Told kind version (told kind entry) ∷ older) (delivered schedule kind entry version)
held-told older schedule kind entry version h = record {
  number_is = numbers kind;
  queued = queued-added _ older (option_to_list (told kind entry)) schedule _ (record { added = refl; got = λ k. refl; neither = λ k. refl; ended = refl }) h.queued (if_added schedule.queue (told kind entry));
  delayed = of_kind kind;
  floor_is = λ k. floors kind k;
  backoff_is = λ k. backoffs kind k;
  queue = subst IsQueue (sym (if_added schedule.queue (told kind entry))) (all_added_is schedule.queue (option_to_list (told kind entry)) h.queue);
  moments_once = moments kind;
  failures_once = counts kind;
}
  where
    numbers : (kind : Kind) (other : Kind) → number_of other (delivered schedule kind entry version) ≡ number other (Told kind version (told kind entry) ∷ older)
    numbers Jobs Jobs = refl
    numbers Jobs Pods = h.number_is Pods
    numbers Pods Jobs = h.number_is Jobs
    numbers Pods Pods = refl

    of_kind : (kind : Kind) → AreDelayed (Told kind version (told kind entry) ∷ older) (delivered schedule kind entry version)
    of_kind Jobs = record { moment_is = h.delayed.moment_is; failures_are = h.delayed.failures_are }
    of_kind Pods = record { moment_is = h.delayed.moment_is; failures_are = h.delayed.failures_are }

    floors : (kind : Kind) (k : Key) → floor_of k (delivered schedule kind entry version) ≡ floor k (Told kind version (told kind entry) ∷ older)
    floors Jobs k = h.floor_is k
    floors Pods k = h.floor_is k

    backoffs : (kind : Kind) (k : Key) → backoff_of k (delivered schedule kind entry version) ≡ backoff k (Told kind version (told kind entry) ∷ older)
    backoffs Jobs k = h.backoff_is k
    backoffs Pods k = h.backoff_is k

    moments : (kind : Kind) → IsDistinct same_key (keys_of (delivered schedule kind entry version).delays.moments)
    moments Jobs = h.moments_once
    moments Pods = h.moments_once

    counts : (kind : Kind) → IsDistinct same_key (keys_of (delivered schedule kind entry version).delays.failures)
    counts Jobs = h.failures_once
    counts Pods = h.failures_once

pub held-expired : (older : List Note) (schedule : Schedule) (kind : Kind) → IsScheduleOf older schedule → IsScheduleOf (Expired kind ∷ older) (forgot schedule kind)
held-expired older schedule Jobs h = record {
  number_is = numbers;
  queued = queued-added _ older [] schedule _ (record { added = refl; got = λ k. refl; neither = λ k. refl; ended = refl }) h.queued refl;
  delayed = record { moment_is = h.delayed.moment_is; failures_are = h.delayed.failures_are };
  floor_is = h.floor_is;
  backoff_is = h.backoff_is;
  queue = h.queue;
  moments_once = h.moments_once;
  failures_once = h.failures_once;
}
  where
    numbers : (other : Kind) → number_of other (forgot schedule Jobs) ≡ number other (Expired Jobs ∷ older)
    numbers Jobs = refl
    numbers Pods = h.number_is Pods
held-expired older schedule Pods h = record {
  number_is = numbers;
  queued = queued-added _ older [] schedule _ (record { added = refl; got = λ k. refl; neither = λ k. refl; ended = refl }) h.queued refl;
  delayed = record { moment_is = h.delayed.moment_is; failures_are = h.delayed.failures_are };
  floor_is = h.floor_is;
  backoff_is = h.backoff_is;
  queue = h.queue;
  moments_once = h.moments_once;
  failures_once = h.failures_once;
}
  where
    numbers : (other : Kind) → number_of other (forgot schedule Pods) ≡ number other (Expired Pods ∷ older)
    numbers Jobs = h.number_is Jobs
    numbers Pods = refl

-- ---- the clock

pub held-ticked : (older : List Note) (schedule : Schedule) (now : ℕ) → IsScheduleOf older schedule → IsScheduleOf (Ticked now ∷ older) (clocked schedule now)
held-ticked older schedule now h = record {
  number_is = numbers;
  queued = queued-added _ older (keys_due now older) schedule _ (record { added = refl; got = λ k. refl; neither = λ k. refl; ended = refl }) h.queued (ap (all_added schedule.queue) (sym keys));
  delayed = record { moment_is = delay-ticked now older schedule.delays (apart schedule.delays.moments h.moments_once) h.delayed.moment_is; failures_are = h.delayed.failures_are };
  floor_is = h.floor_is;
  backoff_is = h.backoff_is;
  queue = all_added_is schedule.queue (due_keys schedule.delays now) h.queue;
  moments_once = distinct _ (apart-filter (λ row. not (is_due now row)) schedule.delays.moments (apart schedule.delays.moments h.moments_once));
  failures_once = h.failures_once;
}
  where
    keys : keys_due now older ≡ due_keys schedule.delays now
    keys = due_is now older schedule.delays (apart schedule.delays.moments h.moments_once) h.delayed.moment_is

    numbers : (other : Kind) → number_of other (clocked schedule now) ≡ number other (Ticked now ∷ older)
    numbers Jobs = h.number_is Jobs
    numbers Pods = h.number_is Pods

-- ---- faults

pub held-faulted : (older : List Note) (schedule : Schedule) (worker : ℕ) (fault : Fault) → IsScheduleOf older schedule → IsScheduleOf (Faulted worker fault ∷ older) schedule
held-faulted older schedule worker fault h = record {
  number_is = h.number_is;
  queued = queued-added _ older [] schedule _ (record { added = refl; got = λ k. refl; neither = λ k. refl; ended = refl }) h.queued refl;
  delayed = record { moment_is = h.delayed.moment_is; failures_are = h.delayed.failures_are };
  floor_is = h.floor_is;
  backoff_is = h.backoff_is;
  queue = h.queue;
  moments_once = h.moments_once;
  failures_once = h.failures_once;
}

-- ---- answers

-- What is known of each key after one was written.
pub known-by : (key k : Key) (schedule : Schedule) (known : Known) → known_of k (with_known schedule key known) ≡ cond (same_key key k) known (known_of k schedule)
known-by key k schedule known =
    ap (λ o. unwrap_or o unknown) (Sets-puts same_key same_key-eq same_key-itself key known schedule.known k) ∙ by (same_key key k)
  where
    by : (m : Bool) → unwrap_or (cond m (Some known) (at same_key schedule.known k)) unknown ≡ cond m known (known_of k schedule)
    by true = refl
    by false = refl

module _ (older : List Note) (schedule : Schedule) (worker : ℕ) (basis : Basis) (request : Request) (answer : Answer) (h : IsScheduleOf older schedule) where
  -- The note keeps the backoff of its sync.
  abbrev pub is_kept : Bool
  is_kept = asks_status request && tells_written answer && is_first worker basis older

  backoff-asked : (k : Key) → backoff k (Asked worker basis request answer ∷ older) ≡ cond (same_key basis.key k) (cond is_kept (planned basis).backoff (backoff k older)) (backoff k older)
  backoff-asked k = by (same_key basis.key k)
    where
      by : (m : Bool) → cond (m && is_kept) (planned basis).backoff (backoff k older) ≡ cond m (cond is_kept (planned basis).backoff (backoff k older)) (backoff k older)
      by true = refl
      by false = refl

  -- What is known of the key is what the note leaves of it; all else is as it was.
  pub held-asked : (rows : List (Key × Known)) (known : Known) → ((k : Key) → known_of k (record schedule { known = rows }) ≡ cond (same_key basis.key k) known (known_of k schedule))
      → known.floor ≡ later_if (floor basis.key older) (floor_given answer) → known.backoff ≡ cond is_kept (planned basis).backoff (backoff basis.key older)
      → IsScheduleOf (Asked worker basis request answer ∷ older) (record schedule { known = rows })
  held-asked rows known e f b = record {
    number_is = numbers;
    queued = queued-added _ older [] schedule _ (record { added = refl; got = λ k. refl; neither = λ k. refl; ended = refl }) h.queued refl;
    delayed = record { moment_is = h.delayed.moment_is; failures_are = h.delayed.failures_are };
    floor_is = λ k. ap (λ (known : Known). known.floor) (e k) ∙ floors k (same_key basis.key k) refl;
    backoff_is = λ k. ap (λ (known : Known). known.backoff) (e k) ∙ backoffs k (same_key basis.key k) refl ∙ sym (backoff-asked k);
    queue = h.queue;
    moments_once = h.moments_once;
    failures_once = h.failures_once;
  }
    where
      numbers : (other : Kind) → number_of other (record schedule { known = rows }) ≡ number other (Asked worker basis request answer ∷ older)
      numbers Jobs = h.number_is Jobs
      numbers Pods = h.number_is Pods

      floors : (k : Key) (m : Bool) → same_key basis.key k ≡ m → (cond {A = Known} m known (known_of k schedule)).floor ≡ later_if (floor k older) (cond m (floor_given answer) None)
      floors k true t = f ∙ ap (λ z. later_if (floor z older) (floor_given answer)) (same_key-eq basis.key k t)
      floors k false t = h.floor_is k

      backoffs : (k : Key) (m : Bool) → same_key basis.key k ≡ m → (cond {A = Known} m known (known_of k schedule)).backoff ≡ cond m (cond is_kept (planned basis).backoff (backoff k older)) (backoff k older)
      backoffs k true t = b ∙ ap (λ z. cond is_kept (planned basis).backoff (backoff z older)) (same_key-eq basis.key k t)
      backoffs k false t = h.backoff_is k

  -- An answer with no version.
  pub held-unversioned : floor_given answer ≡ None → is_kept ≡ false → IsScheduleOf (Asked worker basis request answer ∷ older) schedule
  held-unversioned none unkept =
      held-asked schedule.known (known_of basis.key schedule) (λ k. by k (same_key basis.key k) refl)
      (h.floor_is basis.key ∙ sym (ap (later_if (floor basis.key older)) none))
      (h.backoff_is basis.key ∙ sym (ap (λ b. cond b (planned basis).backoff (backoff basis.key older)) unkept))
    where
      by : (k : Key) (m : Bool) → same_key basis.key k ≡ m → known_of k schedule ≡ cond m (known_of basis.key schedule) (known_of k schedule)
      by k true t = ap (λ z. known_of z schedule) (sym (same_key-eq basis.key k t))
      by k false t = refl

  -- An answer with a version, but to the first status.
  pub held-answered : (version : Version) → floor_given answer ≡ Some version → is_kept ≡ false → IsScheduleOf (Asked worker basis request answer ∷ older) (answered schedule basis.key version)
  held-answered version some unkept =
      held-asked _ (record { floor = later (floor_of basis.key schedule) version; backoff = backoff_of basis.key schedule }) (λ k. known-by basis.key k schedule _)
      (ap (λ f. later f version) (h.floor_is basis.key) ∙ sym (ap (later_if (floor basis.key older)) some))
      (h.backoff_is basis.key ∙ sym (ap (λ b. cond b (planned basis).backoff (backoff basis.key older)) unkept))

  -- The first status was written.
  pub held-first : (version : Version) → floor_given answer ≡ Some version → is_kept ≡ true → IsScheduleOf (Asked worker basis request answer ∷ older) (kept_backoff (answered schedule basis.key version) basis.key (planned basis).backoff)
  held-first version some kept =
      held-asked _ (record { floor = later (floor_of basis.key schedule) version; backoff = (planned basis).backoff }) twice
      (ap (λ f. later f version) (h.floor_is basis.key) ∙ sym (ap (later_if (floor basis.key older)) some))
      (sym (ap (λ b. cond b (planned basis).backoff (backoff basis.key older)) kept))
    where
      twice : (k : Key) → known_of k (kept_backoff (answered schedule basis.key version) basis.key
          (planned basis).backoff) ≡ cond (same_key basis.key k)
          (record { floor = later (floor_of basis.key schedule) version; backoff = (planned basis).backoff })
          (known_of k schedule)
      twice k =
          known-by basis.key k (answered schedule basis.key version) _
          ∙ (λ i. cond (same_key basis.key k) (record {
            floor = (known_of-same basis.key schedule
                (record { floor = later (floor_of basis.key schedule) version; backoff = backoff_of basis.key schedule })
                i).floor;
            backoff = (planned basis).backoff;
          })
          (known-by basis.key k schedule (record {
            floor = later (floor_of basis.key schedule) version;
            backoff =
                backoff_of basis.key schedule;
          }) i))
          ∙ by (same_key basis.key k)
        where
          by : (m : Bool) → cond {A = Known} m (record
              { floor = later (floor_of basis.key schedule) version; backoff = (planned basis).backoff })
              (cond m (record {
                floor = later (floor_of basis.key schedule) version;
                backoff = backoff_of basis.key
                    schedule;
              }) (known_of k schedule))
              ≡ cond m (record { floor = later (floor_of basis.key schedule) version; backoff = (planned basis).backoff }) (known_of k schedule)
          by true = refl
          by false = refl

-- ---- the end of a sync

pub held-ended : (older : List Note) (schedule : Schedule) (worker : ℕ) (basis : Basis) (end : SyncEnd) (now : ℕ)
    → IsScheduleOf older schedule → has_key basis.key schedule.queue.processing ≡ true
    → IsScheduleOf (Ended worker basis end now ∷ older) (ended schedule basis.key end now)
held-ended older schedule worker basis end now h busy = record {
  number_is = numbers;
  queued = queued-ended older schedule _ worker basis end now h.queue h.queued busy refl;
  delayed = record {
    moment_is = delay-ended basis older schedule.delays worker now moments counts h.delayed.moment_is h.delayed.failures_are end;
    failures_are = failures-ended basis older schedule.delays worker now moments counts h.delayed.moment_is h.delayed.failures_are end;
  };
  floor_is = h.floor_is;
  backoff_is = h.backoff_is;
  queue = finished_is schedule.queue basis.key h.queue busy;
  moments_once = distinct _ (moments-after end);
  failures_once = distinct _ (counts-after end);
}
  where
    moments : Apart same_key schedule.delays.moments
    moments = apart schedule.delays.moments h.moments_once

    counts : Apart same_key schedule.delays.failures
    counts = apart schedule.delays.failures h.failures_once

    told-end : (kind : Kind) (b : Bool) → cond b None (number_of kind schedule) ≡ unwrap_or (option_or (cond b (Some None) None) (newest (number_told kind) older)) None
    told-end kind true = refl
    told-end kind false = h.number_is kind

    numbers : (kind : Kind) → number_of kind (ended schedule basis.key end now) ≡ number kind (Ended worker basis end now ∷ older)
    numbers Jobs = told-end Jobs (forgets_caches end)
    numbers Pods = told-end Pods (forgets_caches end)

    within-apart : (t : Bool) (d : Delayed) (k : Key) (moment : ℕ) → Apart same_key d.moments → Apart same_key (cond {A = Delayed} t (delayed d k moment) d).moments
    within-apart true d k moment a = Apart-puts same_key same_key-eq same_key-itself k _ d.moments a
    within-apart false d k moment a = a

    within-counts : (t : Bool) (d : Delayed) (k : Key) (moment : ℕ) → Apart same_key d.failures → Apart same_key (cond {A = Delayed} t (delayed d k moment) d).failures
    within-counts true d k moment a = a
    within-counts false d k moment a = a

    moments-after : (end : SyncEnd) → Apart same_key (delays_after schedule.delays basis.key end now).moments
    moments-after (how.Ended None) = moments
    moments-after (how.Ended (Some moment)) = Apart-puts same_key same_key-eq same_key-itself basis.key _ schedule.delays.moments moments
    moments-after how.Retry = within-apart _ (failed schedule.delays basis.key) basis.key _ moments
    moments-after how.Gone = moments
    moments-after how.Unavailable = within-apart _ (failed schedule.delays basis.key) basis.key _ moments

    counts-after : (end : SyncEnd) → Apart same_key (delays_after schedule.delays basis.key end now).failures
    counts-after (how.Ended None) = Apart-takes same_key same_key-eq same_key-itself basis.key schedule.delays.failures counts
    counts-after (how.Ended (Some moment)) = Apart-takes same_key same_key-eq same_key-itself basis.key schedule.delays.failures counts
    counts-after how.Retry = within-counts _ (failed schedule.delays basis.key) basis.key _ (Apart-puts same_key same_key-eq same_key-itself basis.key _ schedule.delays.failures counts)
    counts-after how.Gone = Apart-takes same_key same_key-eq same_key-itself basis.key schedule.delays.failures counts
    counts-after how.Unavailable = within-counts _ (failed schedule.delays basis.key) basis.key _ (Apart-puts same_key same_key-eq same_key-itself basis.key _ schedule.delays.failures counts)
