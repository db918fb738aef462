-- A Job is created, updated or deleted, and a pod is written.
use Rattle.std.proofs.Common.{IsSome, ◌≡◌, ℕ, suc, ◌+◌, ◌≤◌, Bool, true, false, ◌&&◌, List, [], ◌∷◌, length, map, Option, Some, None, is_some, refl, sym, ap, ◌∙◌, subst, arith, true≢false}
use Rattle.std.proofs.lemmas.Bool.{cond-true, not_from_false}
use Rattle.std.proofs.lemmas.List.{append-nil}
use Rattle.std.proofs.lemmas.Option.{same_Some}
use Rattle.jc_ranges.specs.Sets.{IsIncreasing}
use Rattle.jc_types.specs.declared.limits.TheConstants.{MOST_UNCOUNTED}
use Rattle.jc_types.specs.declared.numbers.Uid.{Uid}
use Rattle.jc_types.specs.declared.objects.Entry.{Entry}
use Rattle.jc_types.specs.declared.objects.Entry.TheVariants.{JobPut, JobGone, PodPut, PodGone}
use Rattle.jc_types.specs.declared.objects.Job.{Job}
use Rattle.jc_types.specs.declared.objects.Pod.{Pod}
use Rattle.jc_types.specs.declared.statuses.IndexCount.{IndexCount}
use Rattle.jc_types.specs.declared.specifications.Mode.TheVariants.{Indexed}
use Rattle.jc_types.specs.declared.statuses.JobStatus.{JobStatus}
use Rattle.jc_log.specs.Deeds.{Deed}
use Rattle.jc_types.specs.Keys.{same_uid}
use Rattle.jc_log.specs.Log.{entry_at, job_in}
use Rattle.jc_states.specs.UidLists.{Ascends, is_in}
use Rattle.jc_states.specs.ObjectChanges.{JobStep}
use Rattle.jc_log.specs.Writes.{CanJob, Stored, Legal}
use Rattle.jc_log.proofs.BirthFacts.{fresh_unborn}
use Rattle.jc_types.proofs.KeyFacts.{same_uid-eq, same_uid-itself}
use Rattle.jc_log.proofs.PlaceFacts.{job_in-entry, job_in-within}
use Rattle.jc_log.proofs.WriteFacts.{lost_on, Stored-from_legal}
use Rattle.jc_failpol.specs.Policies.{WaitsForEnd}
use Rattle.jc_failpol.specs.declared.outcomes.Outcome.TheVariants.{Succeeded, Failed}
use Rattle.jc_states.specs.Listed.{is_listed}
use Rattle.jc_ledger.specs.declared.flights.Flight.{Flight}
use Rattle.jc_ledger.specs.EventKinds.{IsWritten, IsPlain, IsEmpty, CreatesJob, UpdatesJob, DeletesJob, pod_of, WritesPod}
use Rattle.jc_ledger.specs.Ledger.{fails_of, Record, record_of, Ledger, ledger_of}
use Rattle.jc_account.specs.Rooms.{joins_list}
use Rattle.jc_ledger.specs.Once.{SaysFails, taking_of}
use Rattle.jc_ledger.specs.Syncs.{request_of}
use Rattle.jc_ledger.specs.Tied.{made_as, made_after, HasOrderedLists, IsListing, IsCurrent, TiesJob, Ties, PodsHaveIndexes, TakesWell, Tied}
use Rattle.jc_ledger.proofs.FrameFacts.{AllFly-more, puts_other, Ties-more, PodsHaveIndexes-job, PodsHaveIndexes-pod, PodsHaveIndexes-more, PodsHaveIndexes-now, grow}
use Rattle.jc_ledger.proofs.LedgerFacts.{ledger_of-more, ledger_of-other}
use Rattle.jc_states.proofs.ObjectChangeFacts.{JobStep-itself}
use Rattle.jc_ledger.proofs.MadeFacts.{made_as-more, made_as-unborn, put-was_made, job_in-was_made}
use Rattle.jc_ledger.proofs.OnceFacts.{once_more}
use Rattle.jc_ledger.proofs.PutFacts.{Puts, Placed, Here, Below, job_in-newest, placed, ties_put, ties_of, ties_from}
use Rattle.jc_ledger.proofs.QuietFacts.{IfSome-absent}
use Rattle.jc_ledger.proofs.RecordFacts.{IsJudged-later}
use Rattle.jc_ledger.proofs.TotalFacts.{totals_more}

-- ---- a deed that appended an entry, is no write of a status and takes no finalizer

-- It judges nothing.
pub ledger_of-plain : (j : Uid) (d : Deed) (past : List Deed) (e : Entry) (log : List Entry) (flights : List Flight) → Tied past log flights → IsPlain d → ledger_of j (d ∷ past) (e ∷ log) ≡ ledger_of j past log
ledger_of-plain j d past e log flights t p = ledger_of-other j d past (e ∷ log) p.status ∙ ledger_of-more j past e log t.within

-- A deed that takes no finalizer took none ill.
pub TakesWell-none : (d : Deed) (past : List Deed) (log : List Entry) → taking_of (request_of d.reply) ≡ None → TakesWell d past log
TakesWell-none d past log none = IfSome-absent (taking_of (request_of d.reply)) _ none

-- What ties the Jobs, and that pods have indexes, is all that is to be shown.
pub tied_plain : (d : Deed) (past : List Deed) (e : Entry) (log : List Entry) (flights : List Flight) → Tied past log flights → IsWritten d log e → IsPlain d
    → (Legal (e ∷ log) → (j : Uid) → Ties (made_as j (e ∷ log)) (e ∷ log) (ledger_of j past log)) → (Legal (e ∷ log) → PodsHaveIndexes (e ∷ log)) → Tied (d ∷ past) (e ∷ log) flights
tied_plain d past e log flights t w p jobs numbered =
    let g = grow d past e log flights t w in
    let all : (j : Uid) → Ties (made_as j (e ∷ log)) (e ∷ log) (ledger_of j (d ∷ past) (e ∷ log)) =
    λ j. subst (Ties (made_as j (e ∷ log)) (e ∷ log)) (sym (ledger_of-plain j d past e log flights t p)) (jobs g.legal j) in
    record {
      legal = g.legal;
      reached = g.reached;
      within = g.within;
      jobs = all;
      numbered = PodsHaveIndexes-more e log t.numbered (numbered g.legal);
      totals = totals_more d past e log g.legal all t.totals;
      once = once_more e past log flights t;
      taken = (TakesWell-none d past (e ∷ log) p.taking, g.taken);
      flying = AllFly-more e log flights g.legal t.flying;
    }

-- An entry that puts a Job: the other Jobs stay tied, so what ties this one is to be shown.
tied_job : (d : Deed) (past : List Deed) (log : List Entry) (flights : List Flight) (job : Job) → Tied past log flights → IsWritten d log (JobPut job) → IsPlain d
    → (Legal (JobPut job ∷ log) → Ties (made_as job.uid (JobPut job ∷ log)) (JobPut job ∷ log) (ledger_of job.uid past log)) → Tied (d ∷ past) (JobPut job ∷ log) flights
tied_job d past log flights job t w p own =
    tied_plain d past (JobPut job) log flights t w p (λ legal j. by legal j (same_uid job.uid j) refl) (λ legal. PodsHaveIndexes-job (JobPut job) log legal refl (PodsHaveIndexes-now log t.numbered))
  where
    by : Legal (JobPut job ∷ log) → (j : Uid) → (b : Bool) → same_uid job.uid j ≡ b → Ties (made_as j (JobPut job ∷ log)) (JobPut job ∷ log) (ledger_of j past log)
    by legal j true s = subst (λ (u : Uid). Ties (made_as u (JobPut job ∷ log)) (JobPut job ∷ log) (ledger_of u past log)) (same_uid-eq job.uid j s) (own legal)
    by legal j false s = Ties-more j (JobPut job) log (ledger_of j past log) legal (not_from_false (same_uid job.uid j) s) (t.jobs j)

-- ---- a Job is created

-- The empty ledger.
abbrev pub blank : Ledger
blank = record { records = []; done = []; failed = [] }

-- Nothing is found in it.
nothing_found : (u : Uid) (r : Record) → record_of u [] ≡ Some r → ⊥
nothing_found u r h = true≢false (sym (ap is_some h))

-- Nothing is in an empty list.
in_empty : (u : Uid) (uids : List Uid) → uids ≡ [] → is_in u uids ≡ false
in_empty u uids empty = ap (is_in u) empty

-- The lists of a new status are ordered.
HasOrderedLists-new : (job : Job) → IsEmpty job.status → HasOrderedLists job
HasOrderedLists-new job e = record {
  failed = subst Ascends (sym e.uncounted_failed) tt;
  succeeded = subst Ascends (sym e.uncounted_succeeded) tt;
  apart = λ u. ap (λ b. b && is_in u job.status.uncounted_failed) (in_empty u job.status.uncounted_succeeded e.uncounted_succeeded);
  few = omega (arith, ap (λ (l : List Uid). length l) e.uncounted_succeeded, ap (λ (l : List Uid). length l) e.uncounted_failed);
  none = λ m. e.uncounted_succeeded;
  size = λ m. e.succeeded ∙ sym (ap (λ (l : List ℕ). length l) e.completed);
  plain = λ m. e.completed;
  counts = subst (λ counts. IsIncreasing (map (λ (count : IndexCount). count.index) counts)) (sym e.index_failures) tt;
}

-- It lists nothing.
IsListing-new : (v : ℕ) (job : Job) → IsEmpty job.status → IsListing [] v job.status
IsListing-new v job e = record {
  failed = λ u h. absurd (true≢false (sym h ∙ in_empty u job.status.uncounted_failed e.uncounted_failed));
  succeeded = λ u h. absurd (true≢false (sym h ∙ in_empty u job.status.uncounted_succeeded e.uncounted_succeeded));
}

-- It counts nothing.
IsCurrent-new : (log : List Entry) (job : Job) → IsEmpty job.status → IsCurrent log blank job
IsCurrent-new log job e = record {
  lost = λ u r found. absurd (nothing_found u r found);
  failed = sum job.status.failed job.status.uncounted_failed e.failed e.uncounted_failed;
  succeeded = λ m. sum job.status.succeeded job.status.uncounted_succeeded e.succeeded e.uncounted_succeeded;
  completed = λ m. e.completed;
  seen = λ u r found. absurd (nothing_found u r found);
  by_index = says job.spec.per_index;
}
  where
    says : (o : Option ℕ) → SaysFails o job blank
    says None = (e.index_failures, e.failed_indexes)
    says (Some limit) = (e.index_failures, e.failed_indexes)

    sum : (n : ℕ) (uids : List Uid) → n ≡ 0 → uids ≡ [] → n + length uids ≡ 0
    sum n uids z empty = let none : length uids ≡ 0 = ap (λ (l : List Uid). length l) empty in omega (arith, z, none)

-- No entry puts a Job that was not made.
unmade_unput : (v : ℕ) (log : List Entry) (j : Uid) (job : Job) → Stored log → made_as j log ≡ None → job.uid ≡ j → entry_at v log ≡ Some (JobPut job) → ⊥
unmade_unput v log j job stored none uid h =
    let was = put-was_made v log job stored h in
    true≢false (ap is_some (sym was.is_made ∙ ap (λ u. made_as u log) uid ∙ none))

-- The Job of a key after an entry that puts it.
job_in-put : (log : List Entry) (new job : Job) → job_in new.key (JobPut new ∷ log) ≡ Some job → new ≡ job
job_in-put log new job h = same_Some new job (sym (job_in-newest new.key log new refl) ∙ h)

-- What ties the ledger of a new Job.
TiesJob-new : (log : List Entry) (job : Job) → Stored log → made_as job.uid log ≡ None → WaitsForEnd job.spec → (IsSome job.spec.per_index → job.spec.mode ≡ Indexed) → IsEmpty job.status → TiesJob job (JobPut job ∷ log) blank
TiesJob-new log job stored none waits limited empty = record {
  waits = waits;
  limited = limited;
  sound = λ u r found. absurd (nothing_found u r found);
  tidy = λ v other put uid. tidy_at v other uid (placed v log job other put);
  listed = λ v other put uid. listed_at v other uid (placed v log job other put);
  now = λ other there uid. subst (IsCurrent (JobPut job ∷ log) blank) (job_in-put log job other there) (IsCurrent-new (JobPut job ∷ log) job empty);
}
  where
    tidy_at : (v : ℕ) (other : Job) → other.uid ≡ job.uid → Placed v log job other → HasOrderedLists other
    tidy_at v other uid (Here place is) = subst HasOrderedLists is (HasOrderedLists-new job empty)
    tidy_at v other uid (Below put) = absurd (unmade_unput v log job.uid other stored none uid put)

    listed_at : (v : ℕ) (other : Job) → other.uid ≡ job.uid → Placed v log job other → IsListing [] v other.status
    listed_at v other uid (Here place is) = subst (λ (x : Job). IsListing [] v x.status) is (IsListing-new v job empty)
    listed_at v other uid (Below put) = absurd (unmade_unput v log job.uid other stored none uid put)

-- A Job that was not made has an empty ledger.
ledger-blank : (made : Option Job) (log : List Entry) (ledger : Ledger) → made ≡ None → Ties made log ledger → ledger ≡ blank
ledger-blank made log ledger none ties =
    let parts : (ledger.records ≡ []) × (ledger.done ≡ []) × (ledger.failed ≡ []) = subst (λ (o : Option Job). Ties o log ledger) none ties in
    λ i. record { records = parts.0 i; done = parts.1 i; failed = parts.2 i }

-- A new Job is made.
made_as-new : (log : List Entry) (job : Job) → made_as job.uid log ≡ None → made_as job.uid (JobPut job ∷ log) ≡ Some job
made_as-new log job none =
    ap (made_after job.uid job) none ∙ cond-true (same_uid job.uid job.uid) (Some job) None (same_uid-itself job.uid)

-- A Job is created.
pub tied_created : (d : Deed) (past : List Deed) (log : List Entry) (flights : List Flight) (job : Job) → Tied past log flights → CreatesJob d log job → Tied (d ∷ past) (JobPut job ∷ log) flights
tied_created d past log flights job t c = tied_job d past log flights job t c.written c.plain own
  where
    own : Legal (JobPut job ∷ log) → Ties (made_as job.uid (JobPut job ∷ log)) (JobPut job ∷ log) (ledger_of job.uid past log)
    own legal =
        let stored = Stored-from_legal log t.legal in
        let fresh = subst (λ (o : Option Job). CanJob log o job) c.absent legal.0.writes.can in
        let none = made_as-unborn job.uid log (fresh_unborn job.uid log stored fresh.uid) in
        let empty = ledger-blank (made_as job.uid log) log (ledger_of job.uid past log) none (t.jobs job.uid) in
        subst (λ (o : Option Job). Ties o (JobPut job ∷ log) (ledger_of job.uid past log)) (sym (made_as-new log job none))
        (subst (TiesJob job (JobPut job ∷ log)) (sym empty) (TiesJob-new log job stored none c.waits c.limited c.empty))

-- ---- a Job is updated

-- Ordered lists stay so.
HasOrderedLists-same : (old job : Job) → job.status ≡ old.status → job.spec.mode ≡ old.spec.mode → HasOrderedLists old → HasOrderedLists job
HasOrderedLists-same old job status mode t = record {
  failed = subst (λ (st : JobStatus). Ascends st.uncounted_failed) (sym status) t.failed;
  succeeded = subst (λ (st : JobStatus). Ascends st.uncounted_succeeded) (sym status) t.succeeded;
  apart = subst (λ (st : JobStatus). (u : Uid) → (is_in u st.uncounted_succeeded && is_in u st.uncounted_failed) ≡ false) (sym status) t.apart;
  few = subst (λ (st : JobStatus). length st.uncounted_succeeded + length st.uncounted_failed ≤ MOST_UNCOUNTED) (sym status) t.few;
  none = λ m. ap (λ (st : JobStatus). st.uncounted_succeeded) status ∙ t.none (sym mode ∙ m);
  size = λ m. subst (λ (st : JobStatus). st.succeeded ≡ length st.completed) (sym status) (t.size (sym mode ∙ m));
  plain = λ m. ap (λ (st : JobStatus). st.completed) status ∙ t.plain (sym mode ∙ m);
  counts = subst (λ (st : JobStatus). IsIncreasing (map (λ (count : IndexCount). count.index) st.index_failures)) (sym status) t.counts;
}

-- An update puts the Job and judges no pod.
Puts-updated : (made : Job) (log : List Entry) (ledger : Ledger) (old job : Job) → Legal (JobPut job ∷ log) → made_as made.uid log ≡ Some made → TiesJob made log ledger
    → job_in made.key log ≡ Some old → JobStep made old → JobStep old job → job.status ≡ old.status → Puts made log ledger ledger made [] 0 old job
Puts-updated made log ledger old job legal is_made ties there was step status = record {
  legal = legal;
  is_made = is_made;
  ties = ties;
  there = there;
  uid = was.uid;
  key = step.key ∙ was.key;
  seen = omega arith;
  step = JobStep-itself made;
  records = sym (append-nil ledger.records);
  each = tt;
  tidy = HasOrderedLists-same old job status step.mode (ties.tidy old.version.0 old place was.uid);
  listed = record {
    failed = λ u h. IsJudged-later u ledger.records Failed old.version.0 (suc (length log)) before (listing.failed u (subst (λ (st : JobStatus). is_in u st.uncounted_failed ≡ true) status h));
    succeeded = λ u h. IsJudged-later u ledger.records Succeeded old.version.0 (suc (length log)) before (listing.succeeded u (subst (λ (st : JobStatus). is_in u st.uncounted_succeeded ≡ true) status h));
  };
  lost = λ u r found listable unlisted.
      lost_on u old.version.0 log stored
      (current.lost u r found
      (subst (λ m. joins_list m r.outcome ≡ true) step.mode listable) (subst (λ (st : JobStatus). is_listed st u ≡ false) status unlisted));
  failed = ap (λ (st : JobStatus). st.failed + length st.uncounted_failed) status ∙ current.failed;
  succeeded = λ m. ap (λ (st : JobStatus). st.succeeded + length st.uncounted_succeeded) status ∙ current.succeeded (sym step.mode ∙ m);
  completed = λ m. ap (λ (st : JobStatus). st.completed) status ∙ current.completed (sym step.mode ∙ m);
  by_index = subst (λ (o : Option ℕ). SaysFails o job ledger) (sym step.per_index) (says old.spec.per_index current.by_index);
}
  where
    stored : Stored log
    stored = Stored-from_legal log legal.1

    place : entry_at old.version.0 log ≡ Some (JobPut old)
    place = job_in-entry made.key log old stored there

    within : old.version.0 ≤ length log
    within = job_in-within made.key log old stored there

    before : old.version.0 ≤ suc (length log)
    before = omega (arith, within)

    listing : IsListing ledger.records old.version.0 old.status
    listing = ties.listed old.version.0 old place was.uid

    says : (o : Option ℕ) → SaysFails o old ledger → SaysFails o job ledger
    says None h = (ap (λ (st : JobStatus). st.index_failures) status ∙ h.0, ap (λ (st : JobStatus). st.failed_indexes) status ∙ h.1)
    says (Some limit) h = (
      ap (λ (st : JobStatus). st.index_failures) status ∙ h.0 ∙ ap (λ failure. fails_of failure ledger.records) (sym step.failure),
      ap (λ (st : JobStatus). st.failed_indexes) status ∙ h.1,
    )

    current : IsCurrent log ledger old
    current = ties.now old there was.uid

-- A Job is updated.
pub tied_updated : (d : Deed) (past : List Deed) (log : List Entry) (flights : List Flight) (old job : Job) → Tied past log flights → UpdatesJob d log old job → Tied (d ∷ past) (JobPut job ∷ log) flights
tied_updated d past log flights old job t up = tied_job d past log flights job t up.written up.plain own
  where
    own : Legal (JobPut job ∷ log) → Ties (made_as job.uid (JobPut job ∷ log)) (JobPut job ∷ log) (ledger_of job.uid past log)
    own legal =
        let was = job_in-was_made job.key log old (Stored-from_legal log t.legal) up.there in
        let made = was.made in
        let step = subst (λ (o : Option Job). CanJob log o job) up.there legal.0.writes.can in
        let is_made = ap (λ u. made_as u log) (sym was.step.uid) ∙ was.is_made in
        let ledger = ledger_of made.uid past log in
        let ties = ties_of past log flights made t is_made in
        let there = ap (λ k. job_in k log) (sym (step.key ∙ was.step.key)) ∙ up.there in
        let puts = Puts-updated made log ledger old job legal is_made ties there was.step step up.status in
        let more = ties_put made log ledger ledger made [] 0 old job puts in
        subst (λ (u : Uid). Ties (made_as u (JobPut job ∷ log)) (JobPut job ∷ log) (ledger_of u past log)) (sym (step.uid ∙ was.step.uid))
        (ties_from (JobPut job ∷ log) ledger made (made_as-more made.uid (JobPut job) log made is_made) more)

-- ---- a Job is deleted

-- A Job is deleted.
pub tied_deleted : (d : Deed) (past : List Deed) (log : List Entry) (flights : List Flight) (job : Job) → Tied past log flights → DeletesJob d log job → Tied (d ∷ past) (JobGone job ∷ log) flights
tied_deleted d past log flights job t g =
    tied_plain d past (JobGone job) log flights t g.written g.plain
    (λ legal j. Ties-more j (JobGone job) log (ledger_of j past log) legal refl (t.jobs j)) (λ legal. PodsHaveIndexes-job (JobGone job) log legal refl (PodsHaveIndexes-now log t.numbered))

-- ---- a pod is written

-- An entry of a pod puts no Job.
pub puts_other-pod : (j : Uid) (e : Entry) (pod : Pod) → pod_of e ≡ Some pod → puts_other j e ≡ true
puts_other-pod j (JobPut job) pod h = absurd (true≢false (sym (ap is_some h)))
puts_other-pod j (JobGone job) pod h = refl
puts_other-pod j (PodPut other) pod h = refl
puts_other-pod j (PodGone other) pod h = refl

-- A pod is made, marked, changed or stripped.
pub tied_pod : (d : Deed) (past : List Deed) (log : List Entry) (flights : List Flight) (e : Entry) (pod : Pod) → Tied past log flights → WritesPod d log e pod → Tied (d ∷ past) (e ∷ log) flights
tied_pod d past log flights e pod t w =
    tied_plain d past e log flights t w.written w.plain
    (λ legal j. Ties-more j e log (ledger_of j past log) legal (puts_other-pod j e pod w.is_pod) (t.jobs j)) (λ legal. PodsHaveIndexes-pod e log pod legal w.is_pod w.numbered (PodsHaveIndexes-now log t.numbered))
