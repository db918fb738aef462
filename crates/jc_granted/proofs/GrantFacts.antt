-- A request that finds what it asks for is granted, and leaves those of other pods so.
use Rattle.std.proofs.Common.{◌≡◌, ℕ, ◌+◌, ◌==◌, Bool, true, false, not, cond, ◌&&◌, List, ◌∷◌, Option, Some, None, is_some, refl, sym, ap, ◌∙◌, subst, eq-eqb, true≢false, arith}
use Rattle.std.specs.Option.{unwrap_or}
use Rattle.std.specs.List.{AllByRecursion as Each}
use Rattle.std.proofs.Math.Bool.{and-false}
use Rattle.std.proofs.lemmas.Bool.{and_from, and_parts, cond-true, false_from_ne_true, not-true}
use Rattle.jc_types.proofs.KeyFacts.{same_key-itself, same_uid-either_way, same_uid-eq, same_uid-itself}
use Rattle.jc_types.proofs.ListFacts.{Each-both, Each-weaker}
use Rattle.jc_types.specs.Keys.{same_key, same_uid}
use Rattle.jc_types.specs.declared.numbers.Uid.{Uid}
use Rattle.jc_types.specs.declared.numbers.Version.{Version}
use Rattle.jc_types.specs.declared.objects.Entry.{Entry}
use Rattle.jc_types.specs.declared.objects.Entry.TheVariants.{JobPut, JobGone, PodPut, PodGone}
use Rattle.jc_types.specs.declared.objects.Job.{Job}
use Rattle.jc_types.specs.declared.objects.Pod.{Pod}
use Rattle.jc_types.specs.declared.replies.Reply.TheVariants as reply
use Rattle.jc_types.specs.declared.statuses.JobStatus.{JobStatus}
use Rattle.jc_states.specs.declared.bases.Basis.{Basis}
use Rattle.jc_states.specs.Pods.{goes, is_active, is_final, is_marked, is_open, is_tracked}
use Rattle.jc_log.specs.Log.{Life, Never, Live, Gone, is_lost, is_never, job_in, life, living, made_for, next_uid, next_version}
use Rattle.jc_log.specs.Requests.{Answered, accepted, create_pod_gives, grown, let_go_at, let_go_gives, made_pod, mark_pod_at, mark_pod_gives, pod_entry, refused, release_at, release_gives, released, with_mark, with_status, without_finalizer}
use Rattle.jc_log.specs.Writes.{Stored}
use Rattle.jc_log.proofs.BirthFacts.{fresh_never}
use Rattle.jc_log.proofs.WriteFacts.{job_in-key, life-uid}
use Rattle.jc_ledger.specs.EventKinds.{pod_of}
use Rattle.jc_plan.specs.Plans.{planned}
use Rattle.jc_sync.specs.Ask.{Ask}
use Rattle.jc_sync.specs.Ask.TheVariants.{MakePod, MarkPod, LetPodGo, WriteFirst, ReleasePod, WriteSecond}
use Rattle.jc_sync.specs.Asks.{as_request, asks_after, unchanged_of}
use Rattle.jc_sync.specs.Flight.{Flight}
use Rattle.jc_sync.specs.Flights.{Flies}
use Rattle.jc_sync.specs.SyncPlaces.{IsAt}
use Rattle.jc_sync.specs.Quiet.{GoesOnTo}
use Rattle.jc_sync.specs.Steps.{answered_to, as_answer, make_gives, next_after, status_gives, stepped_at, written_gives}
use Rattle.jc_sync.proofs.ApiFacts.{StatusCases, Accepted, Same, Conflicts, Absent, status_cases}
use Rattle.jc_sync.proofs.ConflictFacts.{status_changes}
use Rattle.jc_sync.proofs.EntryFacts.{pod_entry-pod}
use Rattle.jc_sync.proofs.PlaceFacts.{IsFirstAsk, IsSecondAsk, at_first, at_second}
use Rattle.jc_granted.specs.SyncsDone.{ComesToSecond, IsUntracked, makes, status_after}
use Rattle.jc_granted.specs.Ready.{NoneTwice, AreReady, Grants, IsOther, IsReady, IsThere, JobIsAt, IsActiveAt, StayReady}

-- ---- what a write of a pod leaves

-- The life of another pod.
other-lives : (u : Uid) (e : Entry) (log : List Entry) (pod : Pod) → pod_of e ≡ Some pod → same_uid pod.uid u ≡ false → life u (e ∷ log) ≡ life u log
other-lives u (JobPut job) log pod is other = refl
other-lives u (JobGone job) log pod is other = refl
other-lives u (PodPut new) log pod is other = ap (λ b. cond b (Live new) (life u log)) (ap (λ (o : Option Pod). same_uid (unwrap_or o pod).uid u) is ∙ other)
other-lives u (PodGone new) log pod is other = ap (λ b. cond b Gone (life u log)) (ap (λ (o : Option Pod). same_uid (unwrap_or o pod).uid u) is ∙ other)

module _ (log : List Entry) (basis : Basis) (sends : Version) where
  there-still : (P : Pod → Type 0) (e : Entry) (pod : Pod) (u : Uid) → pod_of e ≡ Some pod → same_uid pod.uid u ≡ false → IsThere P u log → IsThere P u (e ∷ log)
  there-still P e pod u is other h = record { pod = h.pod; there = other-lives u e log pod is other ∙ h.there; has = h.has }

  job-still : (e : Entry) (pod : Pod) → pod_of e ≡ Some pod → JobIsAt log basis sends → JobIsAt (e ∷ log) basis sends
  job-still (JobPut job) pod is h = absurd (true≢false (sym (ap is_some is)))
  job-still (JobGone job) pod is h = absurd (true≢false (sym (ap is_some is)))
  job-still (PodPut new) pod is h = record { job = h.job; saw = h.saw; current = h.current; there = h.there; uid = h.uid; at = h.at }
  job-still (PodGone new) pod is h = record { job = h.job; saw = h.saw; current = h.current; there = h.there; uid = h.uid; at = h.at }

  -- So a request of another pod still finds what it asks for.
  ready-still : (e : Entry) (pod : Pod) → pod_of e ≡ Some pod → (ask : Ask) → IsOther pod.uid ask → IsReady log basis sends ask → IsReady (e ∷ log) basis sends ask
  ready-still e pod is (MakePod index) other h = h
  ready-still e pod is (MarkPod u) other h = there-still (λ p. is_active p ≡ true) e pod u is other h
  ready-still e pod is (LetPodGo u version) other h = there-still (IsActiveAt version) e pod u is other h
  ready-still e pod is WriteFirst other h = job-still e pod is h
  ready-still e pod is (ReleasePod u) other h = there-still (λ p. p.tracked ≡ true) e pod u is other h
  ready-still e pod is WriteSecond other h = job-still e pod is h

  all-still : (e : Entry) (pod : Pod) → pod_of e ≡ Some pod → (left : List Ask) → Each (IsOther pod.uid) left → Each (IsReady log basis sends) left → Each (IsReady (e ∷ log) basis sends) left
  all-still e pod is left others h =
      Each-weaker (λ ask. IsOther pod.uid ask × IsReady log basis sends ask) (IsReady (e ∷ log) basis sends) (λ ask x. ready-still e pod is ask x.0 x.1) left
      (Each-both (IsOther pod.uid) (IsReady log basis sends) left others h)

  -- A pod that is made is none of theirs.
  never-there : (P : Pod → Type 0) (u v : Uid) → life u log ≡ Never → IsThere P v log → same_uid u v ≡ false
  never-there P u v never h =
      false_from_ne_true (same_uid u v)
      (λ same. true≢false (sym (ap is_never never) ∙ ap (λ x. is_never (life x log)) (same_uid-eq u v same) ∙ ap is_never h.there))

  new-other : (u : Uid) → life u log ≡ Never → (ask : Ask) → IsReady log basis sends ask → IsOther u ask
  new-other u never (MakePod index) h = tt
  new-other u never (MarkPod v) h = never-there (λ p. is_active p ≡ true) u v never h
  new-other u never (LetPodGo v version) h = never-there (IsActiveAt version) u v never h
  new-other u never WriteFirst h = tt
  new-other u never (ReleasePod v) h = never-there (λ p. p.tracked ≡ true) u v never h
  new-other u never WriteSecond h = tt

  -- ---- what a write of the status leaves

  module _ (job current : Job) (status : JobStatus) (saw : basis.job ≡ Some job) (there : job_in basis.key log ≡ Some current) (own : current.uid ≡ job.uid) where
    abbrev written : List Entry
    written = JobPut (with_status log current status) ∷ log

    job-written : JobIsAt written basis (next_version log)
    job-written = record {
      job = job;
      saw = saw;
      current = with_status log current status;
      there =
          cond-true (same_key current.key basis.key) (Some (with_status log current status)) (job_in basis.key log)
          (ap (λ q. same_key q basis.key) (job_in-key basis.key log current there) ∙ same_key-itself basis.key);
      uid = own;
      at = refl;
    }

    ready-written : (ask : Ask) → IsReady log basis sends ask → IsReady written basis (next_version log) ask
    ready-written (MakePod index) h = h
    ready-written (MarkPod u) h = record { pod = h.pod; there = h.there; has = h.has }
    ready-written (LetPodGo u version) h = record { pod = h.pod; there = h.there; has = h.has }
    ready-written WriteFirst h = job-written
    ready-written (ReleasePod u) h = record { pod = h.pod; there = h.there; has = h.has }
    ready-written WriteSecond h = job-written

-- ---- what it does

-- A pod is the one that was there, and marked.
pub record IsMarkOf (old pod : Pod) : Type 0 where
  pub marked : is_marked pod ≡ true
  pub tracked : pod.tracked ≡ old.tracked

-- A pod that was there is marked.
pub record Marks (log new : List Entry) (u : Uid) : Type 0 where
  pub old : Pod
  pub was : life u log ≡ Live old
  pub now : IsThere (IsMarkOf old) u new

-- What the request does to its pod.
abbrev pub DoesTo : List Entry → List Entry → Ask → Type 0
DoesTo log new (MarkPod u) = Marks log new u
DoesTo log new (LetPodGo u version) = IsThere IsUntracked u new
DoesTo log new (ReleasePod u) = is_lost (life u new) ≡ true
DoesTo log new other = Unit {0}

-- And that it leaves each other pod that was there.
pub record Does (log new : List Entry) (ask : Ask) : Type 0 where
  pub own : DoesTo log new ask
  pub others : (u : Uid) (pod : Pod) → life u log ≡ Live pod → IsOther u ask → life u new ≡ Live pod

-- What it does to the number of pods and to the Job.
pub record Counts (log new : List Entry) (basis : Basis) (before after : List Ask) (job : Job) : Type 0 where
  pub made : made_for job.uid new + makes after ≡ made_for job.uid log + makes before
  pub status : ComesToSecond log basis before job → ComesToSecond new basis after job

-- What is so of the pod that is put, and of one that is gone.
own-life : (test : Life → Bool) (u : Uid) (pod : Pod) (log : List Entry) → pod.uid ≡ u → test (Live pod) ≡ true → test Gone ≡ true → test (life u (pod_entry pod ∷ log)) ≡ true
own-life test u pod log uid live gone = by (goes pod)
  where
    same : same_uid pod.uid u ≡ true
    same = ap (λ v. same_uid v u) uid ∙ same_uid-itself u

    by : (b : Bool) → test (life u (cond b (PodGone pod) (PodPut pod) ∷ log)) ≡ true
    by true = ap test (cond-true (same_uid pod.uid u) Gone (life u log) same) ∙ gone
    by false = ap test (cond-true (same_uid pod.uid u) (Live pod) (life u log) same) ∙ live

-- A pod that does not go is put.
put-lives : (u : Uid) (pod : Pod) (log : List Entry) → pod.uid ≡ u → goes pod ≡ false → life u (pod_entry pod ∷ log) ≡ Live pod
put-lives u pod log uid stays =
    ap (λ b. life u (cond b (PodGone pod) (PodPut pod) ∷ log)) stays
    ∙ cond-true (same_uid pod.uid u) (Live pod) (life u log) (ap (λ v. same_uid v u) uid ∙ same_uid-itself u)

-- A write of the pod leaves each other one.
others-live : (v : Uid) (new : Pod) (log : List Entry) → new.uid ≡ v → (u : Uid) (pod : Pod) → life u log ≡ Live pod → same_uid u v ≡ false → life u (pod_entry new ∷ log) ≡ Live pod
others-live v new log uid u pod there other =
    other-lives u (pod_entry new) log new (pod_entry-pod new) (ap (λ w. same_uid w u) uid ∙ same_uid-either_way v u ∙ other) ∙ there

-- A write of a pod that is there makes none, and leaves the Job.
counts-still : (log : List Entry) (basis : Basis) (before after : List Ask) (job : Job) (pod old : Pod) → life pod.uid log ≡ Live old → makes after ≡ makes before
    → ((status : JobStatus) → status_after (planned basis) after status ≡ status_after (planned basis) before status) → Counts log (pod_entry pod ∷ log) basis before after job
counts-still log basis before after job pod old there same-makes same-status = by (goes pod)
  where
    none : made_for job.uid (PodPut pod ∷ log) ≡ made_for job.uid log
    none = ap (λ l. cond (same_uid pod.owner_uid job.uid && is_never l) (made_for job.uid log + 1) (made_for job.uid log)) there ∙ ap (λ b. cond b (made_for job.uid log + 1) (made_for job.uid log)) (and-false (same_uid pod.owner_uid job.uid))

    by : (b : Bool) → Counts log (cond b (PodGone pod) (PodPut pod) ∷ log) basis before after job
    by true = record {
      made = ap (λ n. made_for job.uid log + n) same-makes;
      status = λ h. record { current = h.current; there = h.there; uid = h.uid; comes = same-status h.current.status ∙ h.comes };
    }
    by false = record {
      made = (λ i. none i + same-makes i);
      status = λ h. record { current = h.current; there = h.there; uid = h.uid; comes = same-status h.current.status ∙ h.comes };
    }

-- ---- a request is granted

-- The answer grants the request, and after it the sync goes on with what it finds.
record GoesWell (log : List Entry) (flight : Flight) (ask : Ask) (left : List Ask) (a : Answered) : Type 0 where
  granted : Grants (as_request ask) a
  onward : GoesOnTo (next_after flight ask left (as_answer a.reply)) (λ s. AreReady (grown log a.entry) s.flight s.left)
  does : Does log (grown log a.entry) ask
  counts : (job : Job) → flight.basis.job ≡ Some job
      → Counts log (grown log a.entry) flight.basis (ask ∷ left) (asks_after ask (as_answer a.reply) left) job

-- The status is put.
record IsPut (log : List Entry) (basis : Basis) (status : JobStatus) (a : Answered) : Type 0 where
  job : Job
  saw : basis.job ≡ Some job
  current : Job
  there : job_in basis.key log ≡ Some current
  uid : current.uid ≡ job.uid
  is : a ≡ accepted (reply.Written (next_version log)) (JobPut (with_status log current status))

module _ (log : List Entry) (now : ℕ) (flight : Flight) (stored : Stored log) where
  abbrev Well : Ask → List Ask → Answered → Type 0
  Well ask left a = GoesWell log flight ask left a

  -- What is left is of other pods than that of the entry.
  rest : (e : Entry) (pod : Pod) (left : List Ask) → pod_of e ≡ Some pod → Each (IsOther pod.uid) left → Each (IsReady log flight.basis flight.sends) left → NoneTwice left
      → AreReady (e ∷ log) flight left
  rest e pod left is others ready apart = record { each = all-still log flight.basis flight.sends e pod is left others ready; apart = apart }

  made : (index : Option ℕ) (left : List Ask) → AreReady log flight (MakePod index ∷ left) → Well (MakePod index) left (answered_to log now flight (MakePod index))
  made index left h = by flight.basis.job refl h.each.0
    where
      new : (job : Job) → flight.basis.job ≡ Some job → Well (MakePod index) left (create_pod_gives log job index now)
      new job this = record {
        granted = record { granted = refl; appends = refl };
        onward =
            rest (PodPut (made_pod log job index now)) (made_pod log job index now) left refl
            (Each-weaker (IsReady log flight.basis flight.sends) (IsOther (next_uid log)) (new-other log flight.basis flight.sends (next_uid log) (fresh_never (next_uid log) log stored refl)) left h.each.1)
            h.each.1 h.apart.1;
        does = record {
          own = tt;
          others = λ u pod there other.
              other-lives u (PodPut (made_pod log job index now)) log (made_pod log job index now) refl
              (never-there log flight.basis flight.sends (λ p. Unit {0}) (next_uid log) u (fresh_never (next_uid log) log stored refl) (record { pod = pod; there = there; has = tt })) ∙ there;
        };
        counts = λ owner saw. record {
          made = let one = one-more owner saw in omega (arith, one);
          status = λ s. record { current = s.current; there = s.there; uid = s.uid; comes = s.comes };
        };
      }
        where
          one-more : (owner : Job) → flight.basis.job ≡ Some owner → made_for owner.uid (PodPut (made_pod log job index now) ∷ log) ≡ made_for owner.uid log + 1
          one-more owner saw =
              ap (λ b. cond b (made_for owner.uid log + 1) (made_for owner.uid log))
              (and_from (same_uid job.uid owner.uid) (is_never (life (next_uid log) log))
              (ap (λ (o : Option Job). same_uid (unwrap_or o job).uid owner.uid) (sym this ∙ saw) ∙ same_uid-itself owner.uid)
              (ap is_never (fresh_never (next_uid log) log stored refl)))

      by : (o : Option Job) → flight.basis.job ≡ o → is_some o ≡ true → Well (MakePod index) left (answered_to log now flight (MakePod index))
      by None is some = absurd (true≢false (sym some))
      by (Some job) is some = subst (λ o. Well (MakePod index) left (make_gives log index now o)) (sym is) (new job is)

  -- A pod that is there and is active can be marked.
  unmarked : (pod : Pod) → is_active pod ≡ true → is_marked pod ≡ false
  unmarked pod active = not-true (is_marked pod) (and_parts (is_open pod) (not (is_marked pod)) active).1

  marked : (u : Uid) (left : List Ask) → AreReady log flight (MarkPod u ∷ left) → Well (MarkPod u) left (answered_to log now flight (MarkPod u))
  marked u left h = subst (Well (MarkPod u) left) (sym is) (record {
    granted = record { granted = refl; appends = refl };
    onward = rest entry new left (pod_entry-pod new) (subst (λ v. Each (IsOther v) left) (sym uid) h.apart.0) h.each.1 h.apart.1;
    does = record {
      own = record {
        old = found.pod;
        was = found.there;
        now = record { pod = with_mark log found.pod now; there = put-lives u (with_mark log found.pod now) log uid stays; has = record { marked = refl; tracked = refl } };
      };
      others = others-live u (with_mark log found.pod now) log uid;
    };
    counts = λ job saw. counts-still log flight.basis (MarkPod u ∷ left) left job new found.pod (ap (λ v. life v log) uid ∙ found.there) refl (λ status. refl);
  })
    where
      found : IsThere (λ pod. is_active pod ≡ true) u log
      found = h.each.0

      new : Pod
      new = with_mark log found.pod now

      entry : Entry
      entry = pod_entry (with_mark log found.pod now)

      uid : found.pod.uid ≡ u
      uid = life-uid u log found.pod found.there

      -- It stays, since it is open.
      stays : goes (with_mark log found.pod now) ≡ false
      stays = ap (λ b. not found.pod.tracked && b) (not-true (is_final found.pod.phase) (and_parts (is_open found.pod) (not (is_marked found.pod)) found.has).0) ∙ and-false (not found.pod.tracked)

      is : mark_pod_gives log u now ≡ accepted (reply.Written (next_version log)) (pod_entry (with_mark log found.pod now))
      is =
          ap (λ l. mark_pod_at log now (living l)) found.there
          ∙ ap (λ b. cond b (refused (reply.Unchanged found.pod.version)) (accepted (reply.Written (next_version log)) (pod_entry (with_mark log found.pod now)))) (unmarked found.pod found.has)

  -- One that has the finalizer can lose it.
  let-go : (u : Uid) (version : Version) (left : List Ask) → AreReady log flight (LetPodGo u version ∷ left) → Well (LetPodGo u version) left (answered_to log now flight (LetPodGo u version))
  let-go u version left h = subst (Well (LetPodGo u version) left) (sym is) (record {
    granted = record { granted = refl; appends = refl };
    onward = record {
      each = (mark-ready, others.each);
      apart = (h.apart.0, others.apart);
    };
    does = record {
      own = record { pod = without_finalizer log found.pod; there = put-lives u (without_finalizer log found.pod) log uid stays; has = refl };
      others = others-live u (without_finalizer log found.pod) log uid;
    };
    counts = λ job saw. counts-still log flight.basis (LetPodGo u version ∷ left) (MarkPod u ∷ left) job new found.pod (ap (λ v. life v log) uid ∙ found.there) refl (λ status. refl);
  })
    where
      found : IsThere (IsActiveAt version) u log
      found = h.each.0

      new : Pod
      new = without_finalizer log found.pod

      uid : found.pod.uid ≡ u
      uid = life-uid u log found.pod found.there

      parts : (is_active found.pod ≡ true) × (is_tracked found.pod ≡ true)
      parts = and_parts (is_active found.pod) (is_tracked found.pod) found.has.active

      same : (n : ℕ) → (n == n) ≡ true
      same n = eq-eqb n n refl

      is : let_go_gives log u version ≡ released log found.pod
      is =
          ap (λ l. let_go_at log version (living l)) found.there
          ∙ ap (λ b. cond (not b) (refused (reply.Conflict found.pod.version)) (cond found.pod.tracked (released log found.pod) (refused reply.NotTracked)))
          (ap (λ (v : Version). v.0 == version.0) found.has.at ∙ same version.0)
          ∙ ap (λ b. cond b (released log found.pod) (refused reply.NotTracked)) parts.1

      -- It stays, since it is not marked.
      stays : goes (without_finalizer log found.pod) ≡ false
      stays = ap (λ b. b && is_final found.pod.phase) (unmarked found.pod parts.0)

      mark-ready : IsThere (λ pod. is_active pod ≡ true) u (pod_entry (without_finalizer log found.pod) ∷ log)
      mark-ready = record { pod = without_finalizer log found.pod; there = put-lives u (without_finalizer log found.pod) log uid stays; has = parts.0 }

      others : AreReady (pod_entry (without_finalizer log found.pod) ∷ log) flight left
      others =
          rest (pod_entry (without_finalizer log found.pod)) new left (pod_entry-pod new)
          (subst (λ v. Each (IsOther v) left) (sym uid) h.apart.0) h.each.1 h.apart.1

  release : (u : Uid) (left : List Ask) → AreReady log flight (ReleasePod u ∷ left) → Well (ReleasePod u) left (answered_to log now flight (ReleasePod u))
  release u left h = subst (Well (ReleasePod u) left) (sym is) (record {
    granted = record { granted = refl; appends = refl };
    onward = record { each = others.each; apart = others.apart };
    does = record {
      own = own-life is_lost u new log (life-uid u log found.pod found.there) refl refl;
      others = others-live u (without_finalizer log found.pod) log (life-uid u log found.pod found.there);
    };
    counts = λ job saw. counts-still log flight.basis (ReleasePod u ∷ left) left job new found.pod (ap (λ v. life v log) (life-uid u log found.pod found.there) ∙ found.there) refl (λ status. refl);
  })
    where
      found : IsThere (λ pod. pod.tracked ≡ true) u log
      found = h.each.0

      new : Pod
      new = without_finalizer log found.pod

      is : release_gives log u ≡ released log found.pod
      is =
          ap (λ l. release_at log (living l)) found.there
          ∙ ap (λ b. cond b (released log found.pod) (refused reply.NotTracked)) found.has

      others : AreReady (pod_entry (without_finalizer log found.pod) ∷ log) flight left
      others =
          rest (pod_entry (without_finalizer log found.pod)) new left (pod_entry-pod new)
          (subst (λ v. Each (IsOther v) left) (sym (life-uid u log found.pod found.there)) h.apart.0) h.each.1 h.apart.1

  -- ---- a status

  module _ (flies : Flies log flight) where
    -- The Job that is there is the one that the sync saw, at the version that it sends.
    module _ (at : JobIsAt log flight.basis flight.sends) where
      only : (other : Job) → job_in flight.basis.key log ≡ Some other → other.version ≡ flight.sends
      only other is = ap (λ (o : Option Job). (unwrap_or o other).version) (sym is ∙ at.there) ∙ at.at

      cases-at : (status : JobStatus) (o : Option JobStatus) → o ≡ Some status → StatusCases log flight.basis.key at.job.uid flight.sends status (written_gives log flight o)
      cases-at status o is =
          subst (λ p. StatusCases log flight.basis.key at.job.uid flight.sends status (written_gives log flight p)) (sym is)
          (subst (λ p. StatusCases log flight.basis.key at.job.uid flight.sends status (status_gives log flight status p)) (sym at.saw)
          (status_cases log flight.basis.key at.job.uid flight.sends status))

      -- What differs from the status that is there is written.
      put : (status : JobStatus) (a : Answered) → unchanged_of (as_answer a.reply) ≡ None → StatusCases log flight.basis.key at.job.uid flight.sends status a → IsPut log flight.basis status a
      put status a changes (Accepted current there own version differs is) = record { job = at.job; saw = at.saw; current = current; there = there; uid = own; is = is }
      put status a changes (Same current there own version same is) = absurd (true≢false (ap is_some (sym (ap (λ (x : Answered). unchanged_of (as_answer x.reply)) is) ∙ changes)))
      put status a changes (Conflicts current there own other is) = absurd (other (ap (λ (v : Version). v.0) (only current there)))
      put status a changes (Absent gone is) = absurd (gone at.current at.there at.uid)

    counts-written : (ask : Ask) (left : List Ask) (status : JobStatus) (job seen current : Job) → flight.basis.job ≡ Some job → flight.basis.job ≡ Some seen → job_in flight.basis.key log ≡ Some current → current.uid ≡ seen.uid
        → makes (ask ∷ left) ≡ makes left → ((old : JobStatus) → status_after (planned flight.basis) left status ≡ status_after (planned flight.basis) (ask ∷ left) old)
        → Counts log (JobPut (with_status log current status) ∷ log) flight.basis (ask ∷ left) left job
    unfolding job-written
    counts-written ask left status job seen current saw this there own none same = record {
      made = ap (λ n. made_for job.uid log + n) (sym none);
      status = λ h.
          let it = job-written log flight.basis flight.sends seen current status this there own in
          record {
            current = with_status log current status;
            there = it.there;
            uid = own ∙ ap (λ (o : Option Job). (unwrap_or o seen).uid) (sym this ∙ saw);
            comes = same h.current.status ∙ h.comes;
          };
    }

    first : (left : List Ask) → IsAt flight (WriteFirst ∷ left) → AreReady log flight (WriteFirst ∷ left) → Well WriteFirst left (answered_to log now flight WriteFirst)
    first left at h = subst (Well WriteFirst left) (sym p.is) (record {
      granted = record { granted = refl; appends = refl };
      onward = record {
        each =
            Each-weaker (IsReady log flight.basis flight.sends) (IsReady (JobPut (with_status log p.current ask.status) ∷ log) flight.basis (next_version log))
            (ready-written log flight.basis flight.sends p.job p.current ask.status p.saw p.there p.uid) left h.each.1;
        apart = h.apart.1;
      };
      does = record { own = tt; others = λ u pod there other. there };
      counts = λ job saw. counts-written WriteFirst left ask.status job p.job p.current saw p.saw p.there p.uid refl
          (λ old. ap (λ (o : Option JobStatus). status_after (planned flight.basis) left (unwrap_or o old)) (sym ask.first));
    })
      where
        ask : IsFirstAsk flight left
        ask = at_first flight left at

        p : IsPut log flight.basis ask.status (answered_to log now flight WriteFirst)
        p =
            put h.each.0 ask.status (answered_to log now flight WriteFirst) (status_changes log now flight stored flies WriteFirst left at refl)
            (cases-at h.each.0 ask.status (planned flight.basis).first ask.first)

    second : (left : List Ask) → IsAt flight (WriteSecond ∷ left) → AreReady log flight (WriteSecond ∷ left) → Well WriteSecond left (answered_to log now flight WriteSecond)
    second left at h = subst (Well WriteSecond left) (sym p.is) (record {
      granted = record { granted = refl; appends = refl };
      onward = record {
        each = subst (λ l. Each (IsReady (JobPut (with_status log p.current ask.status) ∷ log) flight.basis flight.sends) l) (sym ask.is) tt;
        apart = h.apart.1;
      };
      does = record { own = tt; others = λ u pod there other. there };
      counts = λ job saw. counts-written WriteSecond left ask.status job p.job p.current saw p.saw p.there p.uid refl
          (λ old. ap (λ (o : Option JobStatus). status_after (planned flight.basis) left (unwrap_or o old)) (sym ask.second));
    })
      where
        ask : IsSecondAsk flight left
        ask = at_second flight left at

        p : IsPut log flight.basis ask.status (answered_to log now flight WriteSecond)
        p =
            put h.each.0 ask.status (answered_to log now flight WriteSecond) (status_changes log now flight stored flies WriteSecond left at refl)
            (cases-at h.each.0 ask.status (planned flight.basis).second ask.second)

    -- ---- each request

    goes-well : (ask : Ask) (left : List Ask) → IsAt flight (ask ∷ left) → AreReady log flight (ask ∷ left) → Well ask left (answered_to log now flight ask)
    goes-well (MakePod index) left at h = made index left h
    goes-well (MarkPod u) left at h = marked u left h
    goes-well (LetPodGo u version) left at h = let-go u version left h
    goes-well WriteFirst left at h = first left at h
    goes-well (ReleasePod u) left at h = release u left h
    goes-well WriteSecond left at h = second left at h

    -- What its grant does.
    pub does-well : (ask : Ask) (left : List Ask) → IsAt flight (ask ∷ left) → AreReady log flight (ask ∷ left) → Does log (grown log (answered_to log now flight ask).entry) ask
    does-well ask left at h = (goes-well ask left at h).does

    pub counts-well : (ask : Ask) (left : List Ask) → IsAt flight (ask ∷ left) → AreReady log flight (ask ∷ left) → (job : Job) → flight.basis.job ≡ Some job
        → Counts log (grown log (answered_to log now flight ask).entry) flight.basis (ask ∷ left) (asks_after ask (as_answer (answered_to log now flight ask).reply) left) job
    counts-well ask left at h = (goes-well ask left at h).counts

    pub is-granted : (ask : Ask) (left : List Ask) → IsAt flight (ask ∷ left) → AreReady log flight (ask ∷ left) → Grants (as_request ask) (answered_to log now flight ask)
    is-granted ask left at h = (goes-well ask left at h).granted

    pub stays-ready : (ask : Ask) (left : List Ask) → IsAt flight (ask ∷ left) → AreReady log flight (ask ∷ left) → StayReady log (stepped_at now None log flight (ask ∷ left))
    stays-ready ask left at h = (goes-well ask left at h).onward
