-- Whatever is tied counts once.
use Rattle.std.proofs.Common.{◌≡◌, ℕ, ◌≤◌, Bool, true, List, [], ◌∷◌, length, Some, sym, ap, ◌∙◌, subst, arith}
use Rattle.std.proofs.lemmas.Option.{IfSome_then}
use Rattle.jc_types.specs.declared.numbers.Uid.{Uid}
use Rattle.jc_types.specs.declared.objects.Entry.{Entry}
use Rattle.jc_types.specs.declared.objects.Entry.TheVariants.{JobPut}
use Rattle.jc_types.specs.declared.objects.Job.{Job}
use Rattle.jc_types.specs.declared.objects.KeyNames.{KeyNames as Key}
use Rattle.jc_types.specs.declared.objects.Pod.{Pod}
use Rattle.jc_log.specs.Deeds.{Deed}
use Rattle.jc_log.specs.Log.{Live, upto, entry_at, job_in, is_job_of, is_born, life}
use Rattle.jc_states.specs.ObjectChanges.{JobStep}
use Rattle.jc_log.specs.Writes.{Allowed, Legal}
use Rattle.jc_log.proofs.BirthFacts.{life_is_interval}
use Rattle.jc_types.proofs.KeyFacts.{same_uid-itself}
use Rattle.jc_log.proofs.LogFacts.{upto-all, upto-fixed}
use Rattle.jc_log.proofs.PlaceFacts.{job_in-entry}
use Rattle.jc_log.proofs.WriteFacts.{Follows-upto, Stored-from_legal, job_in-key}
use Rattle.jc_ledger.specs.declared.flights.Flight.{Flight}
use Rattle.jc_ledger.specs.Ledger.{Record, ledger_of}
use Rattle.jc_ledger.specs.Once.{taking_of, PutBefore, Cause, WasJudged, IsIgnored, WasActive, NeedsNone, IsJustified, TakesJustly, AllJustified, CountsOnce, Once, OnceAtEach}
use Rattle.jc_ledger.specs.Syncs.{reach, request_of}
use Rattle.jc_ledger.specs.Tied.{made_as, HasOrderedLists, IsListing, IsCurrent, TiesJob, TakesWell, AllWell, IsReached, Tied}
use Rattle.jc_ledger.proofs.DistinctFacts.{ascends_distinct}
use Rattle.jc_ledger.proofs.FrameFacts.{owner_made}
use Rattle.jc_ledger.proofs.MadeFacts.{outcome-step, fails_job-step, job_in-was_made, made_as-born}
use Rattle.jc_ledger.proofs.PutFacts.{ties_of}

-- ---- finalizers

-- What was put before, by another name of the Job.
PutBefore-same : (P : Job → Type 0) (j k : Uid) (w : ℕ) (log : List Entry) → j ≡ k → PutBefore P j w log → PutBefore P k w log
PutBefore-same P j k w log same b = subst (λ u. PutBefore P u w log) same b

-- What justifies a taking by the Job as it was made justifies it by the Job as it is.
Cause-step : (made job : Job) (records : List Record) (w : ℕ) (log : List Entry) (lets_go : Bool) (pod : Pod) → JobStep made job → Cause made records w log lets_go pod → Cause job records w log lets_go pod
Cause-step made job records w log lets_go pod step (WasJudged r found before) = WasJudged r found before
Cause-step made job records w log lets_go pod step (IsIgnored is) = IsIgnored (outcome-step made job pod step ∙ is)
Cause-step made job records w log lets_go pod step (WasActive lets active) = WasActive lets active
Cause-step made job records w log lets_go pod step (NeedsNone mode phase put) = NeedsNone (step.mode ∙ mode) phase (PutBefore-same _ made.uid job.uid w log (sym step.uid) put)

-- What is justified by a Job is justified by a step of it.
IsJustified-step : (made job : Job) (records : List Record) (w : ℕ) (log : List Entry) (lets_go : Bool) (pod : Pod) → JobStep made job → IsJustified made records w log lets_go pod → IsJustified job records w log lets_go pod
IsJustified-step made job records w log lets_go pod step i = record {
  cause = Cause-step made job records w log lets_go pod step i.cause;
  target = λ fails. PutBefore-same _ made.uid job.uid w log (sym step.uid) (i.target (sym (fails_job-step made job pod step) ∙ fails));
}

-- The Job of a pod that lived among the first entries was put by then.
owner_born : (u : Uid) (n : ℕ) (log : List Entry) (pod : Pod) → Legal log → life u (upto n log) ≡ Live pod → is_born pod.owner_uid (upto n log) ≡ true
owner_born u n log pod legal lives =
    let prefix = Follows-upto Allowed n log legal in
    let under = owner_made u (upto n log) pod prefix lives in
    made_as-born pod.owner_uid (upto n log) under.made under.is_made

-- A Job that is there was there when a pod of it was.
owner_there : (u : Uid) (n : ℕ) (log : List Entry) (pod : Pod) (job : Job) (k : Key) → Legal log → n ≤ length log → life u (upto n log) ≡ Live pod → pod.owner_uid ≡ job.uid
    → job_in k log ≡ Some job → is_job_of job.uid (job_in k (upto n log)) ≡ true
owner_there u n log pod job k legal le lives owner there =
    let born = subst (λ j. is_born j (upto n log) ≡ true) owner (owner_born u n log pod legal lives) in
    let whole : job_in k (upto (length log) log) ≡ Some job = ap (job_in k) (upto-all (length log) log (omega arith)) ∙ there in
    life_is_interval job.uid k n (length log) log (Stored-from_legal log legal) le born (ap (is_job_of job.uid) whole ∙ same_uid-itself job.uid)

-- The Job as it was made and as it is there.
pub record IsThere (log : List Entry) (made job : Job) : Type 0 where
  pub legal : Legal log
  pub is_made : made_as job.uid log ≡ Some made
  pub step : JobStep made job
  pub there : job_in made.key log ≡ Some job

-- What was taken well of a Job that is there was taken justly.
TakesJustly-well : (d : Deed) (past : List Deed) (log : List Entry) (made job : Job) → IsThere log made job → reach past ≤ length log → TakesWell d past log → TakesJustly job d past log
TakesJustly-well d past log made job a le well =
    IfSome_then (taking_of (request_of d.reply)) well
    (λ taking takes grown pod lives owner.
    let uid = sym a.step.uid in
    let is_made = ap (λ j. made_as j log) owner ∙ a.is_made in
    let there = subst (λ j. is_job_of j (job_in made.key (upto (reach past) log)) ≡ true) (sym uid) (owner_there taking.pod (reach past) log pod job made.key a.legal le lives owner a.there) in
    subst (λ j. IsJustified job (ledger_of j past log).records d.length.0 log taking.lets_go pod) uid
    (IsJustified-step made job (ledger_of made.uid past log).records d.length.0 log taking.lets_go pod a.step (takes grown pod lives made is_made there)))

-- So was each finalizer.
AllJustified-well : (deeds : List Deed) (n : ℕ) (log : List Entry) (made job : Job) → IsThere log made job → IsReached deeds n → n ≤ length log → AllWell deeds log → AllJustified job deeds log
AllJustified-well [] n log made job a reached le well = tt
AllJustified-well (d ∷ past) n log made job a reached le well =
    let lower = reached.1.0 in
    let within : reach past ≤ length log = omega (arith, le, lower) in
    (TakesJustly-well d past log made job a within well.0, AllJustified-well past (reach past) log made job a reached.1.1 within well.1)

-- ---- the Job as it is

-- What ties a Job that is there has it count once.
counts_once : (deeds : List Deed) (log : List Entry) (flights : List Flight) (made job : Job) → Tied deeds log flights → IsThere log made job → CountsOnce deeds log job
counts_once deeds log flights made job t a = record {
  failed = now.failed;
  succeeded = now.succeeded;
  distinct_failed = ascends_distinct 0 job.status.uncounted_failed tidy.failed;
  distinct_succeeded = ascends_distinct 0 job.status.uncounted_succeeded tidy.succeeded;
  apart = tidy.apart;
  listed_failed = listing.failed;
  listed_succeeded = listing.succeeded;
  unlisted = now.lost;
  few = tidy.few;
  taken = AllJustified-well deeds (length log) log made job a t.reached (omega arith) t.taken;
  completed = now.completed;
  size = tidy.size;
  none = tidy.none;
  plain = tidy.plain;
  by_index = now.by_index;
}
  where
    is_made : made_as made.uid log ≡ Some made
    is_made = ap (λ j. made_as j log) (sym a.step.uid) ∙ a.is_made

    ties : TiesJob made log (ledger_of job.uid deeds log)
    ties = subst (λ j. TiesJob made log (ledger_of j deeds log)) (sym a.step.uid) (ties_of deeds log flights made t is_made)

    place : entry_at job.version.0 log ≡ Some (JobPut job)
    place = job_in-entry made.key log job (Stored-from_legal log a.legal) a.there

    now : IsCurrent log (ledger_of job.uid deeds log) job
    now = ties.now job a.there a.step.uid

    tidy : HasOrderedLists job
    tidy = ties.tidy job.version.0 job place a.step.uid

    listing : IsListing (ledger_of job.uid deeds log).records job.version.0 job.status
    listing = ties.listed job.version.0 job place a.step.uid

-- Whatever is tied counts once.
pub tied_once : (deeds : List Deed) (log : List Entry) (flights : List Flight) → Tied deeds log flights → Once deeds log
tied_once deeds log flights t k job there =
    let was = job_in-was_made k log job (Stored-from_legal log t.legal) there in
    counts_once deeds log flights was.made job t
    (record {
      legal = t.legal;
      is_made = was.is_made;
      step = was.step;
      there = ap (λ key. job_in key log) (sym was.step.key ∙ job_in-key k log job there) ∙ there;
    })

-- ---- after each deed

-- Each deed left the log as long as it told.
pub once_tied : (deeds : List Deed) (log : List Entry) (flights : List Flight) → Tied deeds log flights → OnceAtEach deeds log
once_tied [] log flights t = tt
once_tied (d ∷ past) log flights t =
    let same = t.reached.0 in
    (subst (Once (d ∷ past)) (sym (upto-all d.length.0 log (omega (arith, same)))) (tied_once (d ∷ past) log flights t), t.once)

-- What was once counted so stays so.
once_stays : (e : Entry) (deeds : List Deed) (log : List Entry) (n : ℕ) → IsReached deeds n → n ≤ length log → OnceAtEach deeds log → OnceAtEach deeds (e ∷ log)
once_stays e [] log n reached le o = tt
once_stays e (d ∷ past) log n reached le o =
    let same = reached.0 in
    let lower = reached.1.0 in
    (subst (Once (d ∷ past)) (sym (upto-fixed d.length.0 e log (omega (arith, same, le)))) o.0, once_stays e past log (reach past) reached.1.1 (omega (arith, lower, le)) o.1)

-- So it is after one more entry.
pub once_more : (e : Entry) (past : List Deed) (log : List Entry) (flights : List Flight) → Tied past log flights → OnceAtEach past (e ∷ log)
once_more e past log flights t =
    once_stays e past log (length log) t.reached (omega arith) (once_tied past log flights t)
