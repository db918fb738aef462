-- What an appended entry leaves as it is.
use Rattle.std.proofs.Common.{◌≡◌, ℕ, suc, ◌≤◌, ◌==◌, nat_lt, Bool, true, false, cond, not, List, [], ◌∷◌, ◌++◌, length, Option, Some, None, is_some, refl, sym, ap, ◌∙◌, subst, arith, lt-ltb, true≢false}
use Rattle.std.specs.Prelude.{IfSome}
use Rattle.std.specs.List.{AllByRecursion as Each}
use Rattle.std.proofs.lemmas.Bool.{both_ways, cond-false, not-true}
use Rattle.std.proofs.lemmas.Option.{IfSome_then, same_Some}
use Rattle.jc_types.specs.declared.numbers.Uid.{Uid}
use Rattle.jc_types.specs.declared.objects.Entry.{Entry}
use Rattle.jc_types.specs.declared.objects.Entry.TheVariants.{JobPut, JobGone, PodPut, PodGone}
use Rattle.jc_types.specs.declared.objects.Job.{Job}
use Rattle.jc_types.specs.declared.objects.Pod.{Pod}
use Rattle.jc_types.specs.declared.specifications.Mode.TheVariants.{Indexed}
use Rattle.jc_states.specs.declared.bases.Basis.{Basis}
use Rattle.jc_states.specs.Conditions.{has_target}
use Rattle.jc_log.specs.Deeds.{Deed}
use Rattle.jc_types.specs.declared.objects.KeyNames.{KeyNames as Key}
use Rattle.jc_types.specs.Keys.{same_key, same_uid}
use Rattle.jc_log.specs.Log.{Life, Never, Live, Gone, upto, entry_at, job_in, is_job_of, life, is_lost, pods_under}
use Rattle.jc_log.specs.Writes.{CanPut, Allowed, Legal}
use Rattle.jc_log.proofs.BirthFacts.{Owned, owner_first}
use Rattle.jc_types.proofs.KeyFacts.{same_uid-eq, same_from_eq, same_uid-itself}
use Rattle.jc_types.proofs.ListFacts.{Each-weaker, Each-append}
use Rattle.jc_log.proofs.LogFacts.{upto-fixed, upto-all, entry_at-stays}
use Rattle.jc_log.proofs.PlaceFacts.{job_in-within}
use Rattle.jc_log.proofs.WriteFacts.{lost_entry, Follows-upto, Stored-from_legal}
use Rattle.jc_ledger.specs.declared.flights.Flight.{Flight}
use Rattle.jc_ledger.specs.EventKinds.{IsWritten, pod_of}
use Rattle.jc_ledger.specs.Flights.{IsBasisOf, IsSent, Flies}
use Rattle.jc_ledger.specs.Ledger.{Record, Ledger, ledger_of}
use Rattle.jc_ledger.specs.Once.{Taking, taking_of, PutBefore, Cause, WasJudged, IsIgnored, WasActive, NeedsNone, needs_none, IsJustified}
use Rattle.jc_ledger.specs.Syncs.{reach, request_of, appends}
use Rattle.jc_ledger.specs.Tied.{made_as, made_after, IsTrueRecord, IsCurrent, TiesJob, Ties, HasIndexIn, PodsHaveIndexes, TakesWell, AllWell, StandsWithin, IsReached, Tied}
use Rattle.jc_ledger.proofs.LedgerFacts.{AllWithin, AllWithin-more, reach-is, ledger_of-more}
use Rattle.jc_ledger.proofs.MadeFacts.{made_as-uid, made_as-more, made_as-upto, WasMadeUnder, has_job-was_made}

-- ---- syncs under way

-- A basis stays what the log held.
IsBasisOf-more : (e : Entry) (log : List Entry) (basis : Basis) → IsBasisOf log basis → IsBasisOf (e ∷ log) basis
IsBasisOf-more e log basis b = record {
  jobs_at = let le = b.jobs_at in omega (arith, le);
  pods_at = let le = b.pods_at in omega (arith, le);
  job = b.job ∙ ap (job_in basis.key) (sym (upto-fixed basis.jobs_at.0 e log b.jobs_at));
  pods = b.pods ∙ ap (pods_under basis.key) (sym (upto-fixed basis.pods_at.0 e log b.pods_at));
}

-- What a sync sends stays where it stood.
IsSent-more : (e : Entry) (log : List Entry) (flight : Flight) (job : Job) → IsSent log flight job → IsSent (e ∷ log) flight job
IsSent-more e log flight job s =
    record { put = s.put; is_put = entry_at-stays flight.sends.0 e (JobPut s.put) log s.is_put; uid = s.uid; key = s.key; status = s.status; unwritten = s.unwritten }

-- A sync under way stays what it is.
pub Flies-more : (e : Entry) (log : List Entry) (flight : Flight) → Legal (e ∷ log) → Flies log flight → Flies (e ∷ log) flight
Flies-more e log flight legal f = record {
  basis = IsBasisOf-more e log flight.basis f.basis;
  reached = f.reached;
  sent = IfSome_then flight.basis.job {P = λ job. IsSent log flight job} {Q = λ job. IsSent (e ∷ log) flight job} f.sent (λ job s. IsSent-more e log flight job s);
  released = λ u is. lost_entry u e log legal.0.writes (f.released u is);
}

-- So does each.
pub AllFly-more : (e : Entry) (log : List Entry) (flights : List Flight) → Legal (e ∷ log) → Each (Flies log) flights → Each (Flies (e ∷ log)) flights
AllFly-more e log flights legal h = Each-weaker (Flies log) (Flies (e ∷ log)) (λ flight f. Flies-more e log flight legal f) flights h

module _ {X : Type 0} (P : X → Type 0) where
  -- What holds of each of the whole holds of each of the front.
  pub Each-front : (xs ys : List X) → Each P (xs ++ ys) → Each P xs
  Each-front [] ys h = tt
  Each-front (x ∷ xs) ys h = (h.0, Each-front xs ys h.1)

  -- And of each of the back.
  pub Each-back : (xs ys : List X) → Each P (xs ++ ys) → Each P ys
  Each-back [] ys h = h
  Each-back (x ∷ xs) ys h = Each-back xs ys h.1

-- Syncs before and after one.
pub AllFly-one : (log : List Entry) (front back : List Flight) (flight : Flight) → Each (Flies log) (front ++ flight ∷ back) → Flies log flight
AllFly-one log front back flight h = (Each-back (Flies log) front (flight ∷ back) h).0

-- One may be another.
pub AllFly-put : (log : List Entry) (front back : List Flight) (old new : Flight) → Each (Flies log) (front ++ old ∷ back) → Flies log new → Each (Flies log) (front ++ new ∷ back)
AllFly-put log front back old new h f =
    Each-append (Flies log) front (new ∷ back) (Each-front (Flies log) front (old ∷ back) h) (f, (Each-back (Flies log) front (old ∷ back) h).1)

-- One may come.
pub AllFly-add : (log : List Entry) (front back : List Flight) (new : Flight) → Each (Flies log) (front ++ back) → Flies log new → Each (Flies log) (front ++ new ∷ back)
AllFly-add log front back new h f =
    Each-append (Flies log) front (new ∷ back) (Each-front (Flies log) front back h) (f, Each-back (Flies log) front back h)

-- Some may go.
pub AllFly-drop : (log : List Entry) (front dropped back : List Flight) → Each (Flies log) (front ++ (dropped ++ back)) → Each (Flies log) (front ++ back)
AllFly-drop log front dropped back h =
    Each-append (Flies log) front back (Each-front (Flies log) front (dropped ++ back) h)
    (Each-back (Flies log) dropped back (Each-back (Flies log) front (dropped ++ back) h))

-- ---- what ties a ledger

-- A record stays true.
pub IsTrueRecord-more : (made : Job) (e : Entry) (log : List Entry) (r : Record) → IsTrueRecord made log r → IsTrueRecord made (e ∷ log) r
IsTrueRecord-more made e log r s = record {
  before = s.before;
  within = let le = s.within in omega (arith, le);
  stood = ap (life r.pod.uid) (upto-fixed r.seen e log (let lt = s.before in let le = s.within in omega (arith, lt, le))) ∙ s.stood;
  tracked = s.tracked;
  owner = s.owner;
  judged = s.judged;
  verdict = s.verdict;
}

-- The entry does not put a Job of the UID.
abbrev pub puts_other : Uid → Entry → Bool
puts_other j (JobPut job) = not (same_uid job.uid j)
puts_other j other = true

-- A Job of the UID is not one that such an entry puts.
not_put : (j : Uid) (job : Job) → puts_other j (JobPut job) ≡ true → job.uid ≡ j → ⊥
not_put j job other uid =
    both_ways (same_uid job.uid j) (not-true (same_uid job.uid j) other) (same_from_eq same_uid same_uid-eq same_uid-itself job.uid j uid)

-- Of another UID the Job was made as it was.
pub made_as-other : (j : Uid) (e : Entry) (log : List Entry) → puts_other j e ≡ true → made_as j (e ∷ log) ≡ made_as j log
made_as-other j (JobPut job) log other = by (made_as j log)
  where
    by : (o : Option Job) → made_after j job o ≡ o
    by None = cond-false (same_uid job.uid j) (Some job) None (not-true (same_uid job.uid j) other)
    by (Some made) = refl
made_as-other j (JobGone job) log other = refl
made_as-other j (PodPut pod) log other = refl
made_as-other j (PodGone pod) log other = refl

-- An entry that puts a Job of the UID stood before.
put_older : (j : Uid) (v : ℕ) (e : Entry) (log : List Entry) (job : Job) → puts_other j e ≡ true → entry_at v (e ∷ log) ≡ Some (JobPut job) → job.uid ≡ j → entry_at v log ≡ Some (JobPut job)
put_older j v e log job other is uid = by (length (e ∷ log) == v) is
  where
    by : (b : Bool) → cond b (Some e) (entry_at v log) ≡ Some (JobPut job) → entry_at v log ≡ Some (JobPut job)
    by true g = absurd (not_put j job (subst (λ x. puts_other j x ≡ true) (same_Some e (JobPut job) g) other) uid)
    by false g = g

-- The Job of a key that has the UID was there before.
job_older : (j : Uid) (k : Key) (e : Entry) (log : List Entry) (job : Job) → puts_other j e ≡ true → job_in k (e ∷ log) ≡ Some job → job.uid ≡ j → job_in k log ≡ Some job
job_older j k (JobPut new) log job other is uid = by (same_key new.key k) is
  where
    by : (b : Bool) → cond b (Some new) (job_in k log) ≡ Some job → job_in k log ≡ Some job
    by true g = absurd (not_put j job (subst (λ x. puts_other j (JobPut x) ≡ true) (same_Some new job g) other) uid)
    by false g = g
job_older j k (JobGone gone) log job other is uid = by (same_key gone.key k) is
  where
    by : (b : Bool) → cond b None (job_in k log) ≡ Some job → job_in k log ≡ Some job
    by true g = absurd (true≢false (sym (ap is_some g)))
    by false g = g
job_older j k (PodPut pod) log job other is uid = is
job_older j k (PodGone pod) log job other is uid = is

-- What is known of a Job that is there stays known.
pub IsCurrent-more : (k : Key) (e : Entry) (log : List Entry) (ledger : Ledger) (job : Job) → Legal log → job_in k log ≡ Some job → IsCurrent log ledger job → IsCurrent (e ∷ log) ledger job
IsCurrent-more k e log ledger job legal is c = record {
  lost = λ u r found listable unlisted.
      ap (λ l. is_lost (life u l)) (upto-fixed job.version.0 e log (job_in-within k log job (Stored-from_legal log legal) is)) ∙ c.lost u r found listable unlisted;
  failed = c.failed;
  succeeded = c.succeeded;
  completed = c.completed;
  seen = c.seen;
  by_index = c.by_index;
}

-- What ties the ledger of a Job stays where the entry does not put the Job.
pub TiesJob-more : (made : Job) (e : Entry) (log : List Entry) (ledger : Ledger) → Legal (e ∷ log) → puts_other made.uid e ≡ true → TiesJob made log ledger → TiesJob made (e ∷ log) ledger
TiesJob-more made e log ledger legal other t = record {
  waits = t.waits;
  limited = t.limited;
  sound = λ u r found. IsTrueRecord-more made e log r (t.sound u r found);
  tidy = λ v job is uid. t.tidy v job (put_older made.uid v e log job other is uid) uid;
  listed = λ v job is uid. t.listed v job (put_older made.uid v e log job other is uid) uid;
  now = λ job is uid.
      let there = job_older made.uid made.key e log job other is uid in
      IsCurrent-more made.key e log ledger job legal.1 there (t.now job there uid);
}

-- What ties a ledger to the log stays where the entry does not put its Job.
pub Ties-more : (j : Uid) (e : Entry) (log : List Entry) (ledger : Ledger) → Legal (e ∷ log) → puts_other j e ≡ true → Ties (made_as j log) log ledger → Ties (made_as j (e ∷ log)) (e ∷ log) ledger
Ties-more j e log ledger legal other t =
    subst (λ o. Ties o (e ∷ log) ledger) (sym (made_as-other j e log other)) (by (made_as j log) refl t)
  where
    by : (o : Option Job) → made_as j log ≡ o → Ties o log ledger → Ties o (e ∷ log) ledger
    by None is h = h
    by (Some made) is h =
        TiesJob-more made e log ledger legal (subst (λ u. puts_other u e ≡ true) (sym (made_as-uid j log made is)) other) h

-- ---- pods have indexes

-- The Job of a pod that lives was made, under the pod's owner key.
pub owner_made : (u : Uid) (log : List Entry) (pod : Pod) → Legal log → life u log ≡ Live pod → WasMadeUnder log pod.owner_uid pod.owner
owner_made u log pod legal is =
    has_job-was_made pod.owner_uid pod.owner log (Stored-from_legal log legal) (subst (Owned log) is (owner_first u log legal))

-- What is known of the Job as it was made stays known.
made_more : (Q : Job → Type 0) (e : Entry) (log : List Entry) (pod : Pod) → WasMadeUnder log pod.owner_uid pod.owner → IfSome (made_as pod.owner_uid log) Q → IfSome (made_as pod.owner_uid (e ∷ log)) Q
made_more Q e log pod w h =
    subst (λ o. IfSome o Q) (sym (made_as-more pod.owner_uid e log w.made w.is_made)) (subst (λ o. IfSome o Q) w.is_made h)

-- A pod that lived keeps its index.
index_kept : (e : Entry) (log : List Entry) (u : Uid) (pod : Pod) → Legal log → PodsHaveIndexes log → life u log ≡ Live pod → HasIndexIn (e ∷ log) pod
index_kept e log u pod legal num is =
    made_more (λ made. made.spec.mode ≡ Indexed → is_some pod.index ≡ true) e log pod (owner_made u log pod legal is) (num u pod is)

-- Pods have indexes where the entry is of no pod.
pub PodsHaveIndexes-job : (e : Entry) (log : List Entry) → Legal (e ∷ log) → pod_of e ≡ None → PodsHaveIndexes log → PodsHaveIndexes (e ∷ log)
PodsHaveIndexes-job (JobPut job) log legal none num = λ u pod is. index_kept (JobPut job) log u pod legal.1 num is
PodsHaveIndexes-job (JobGone job) log legal none num = λ u pod is. index_kept (JobGone job) log u pod legal.1 num is
PodsHaveIndexes-job (PodPut pod) log legal none num = absurd (true≢false (ap is_some none))
PodsHaveIndexes-job (PodGone pod) log legal none num = absurd (true≢false (ap is_some none))

-- No life is two things.
live_one : (old new : Pod) → Live old ≡ Live new → old ≡ new
live_one old new h = ap (λ (l : Life). elim l [ Never ↦ old | Live p ↦ p | Gone ↦ old ]) h

-- A pod that is gone does not live.
gone_live : (pod : Pod) → Gone ≡ Live pod → ⊥
gone_live pod h = true≢false (ap (λ (l : Life). elim l [ Never ↦ false | Live p ↦ false | Gone ↦ true ]) h)

-- A pod that the store may put has an index, if one that it makes has.
index_put : (log : List Entry) (pod : Pod) → Allowed log (PodPut pod)
    → (life pod.uid log ≡ Never → HasIndexIn log pod)
    → PodsHaveIndexes log → HasIndexIn log pod
index_put log pod allowed new num = by (life pod.uid log) refl allowed.writes.can.0
  where
    by : (l : Life) → life pod.uid log ≡ l → CanPut log l pod → HasIndexIn log pod
    by Never is can = new is
    by (Live old) is can =
        subst (λ o. IfSome o (λ made. made.spec.mode ≡ Indexed → is_some pod.index ≡ true)) (ap (λ j. made_as j log) (sym can.owner_uid))
        (IfSome_then (made_as old.owner_uid log) {P = λ made. made.spec.mode ≡ Indexed → is_some old.index ≡ true} {Q = λ made. made.spec.mode ≡ Indexed → is_some pod.index ≡ true}
        (num pod.uid old is) (λ made f mode. ap is_some can.index ∙ f mode))
    by Gone is can = absurd can

-- So they have where the entry is of a pod that has one if it is new.
pub PodsHaveIndexes-pod : (e : Entry) (log : List Entry) (pod : Pod) → Legal (e ∷ log) → pod_of e ≡ Some pod
    → (life pod.uid log ≡ Never → HasIndexIn log pod)
    → PodsHaveIndexes log → PodsHaveIndexes (e ∷ log)
PodsHaveIndexes-pod (JobPut job) log pod legal is new num = absurd (true≢false (sym (ap is_some is)))
PodsHaveIndexes-pod (JobGone job) log pod legal is new num = absurd (true≢false (sym (ap is_some is)))
PodsHaveIndexes-pod (PodPut put) log pod legal is new num = λ u p there. by u p (same_uid put.uid u) there
  where
    by : (u : Uid) (p : Pod) (b : Bool) → cond b (Live put) (life u log) ≡ Live p → HasIndexIn log p
    by u p true g =
        subst (HasIndexIn log) (live_one put p g)
        (index_put log put legal.0
        (subst (λ (q : Pod). life q.uid log ≡ Never → HasIndexIn log q) (sym (same_Some put pod is)) new) num)
    by u p false g = num u p g
PodsHaveIndexes-pod (PodGone gone) log pod legal is new num = λ u p there. by u p (same_uid gone.uid u) there
  where
    by : (u : Uid) (p : Pod) (b : Bool) → cond b Gone (life u log) ≡ Live p → HasIndexIn log p
    by u p true g = absurd (gone_live p g)
    by u p false g = num u p g

-- So they have at every version.
pub PodsHaveIndexes-more : (e : Entry) (log : List Entry) → ((v : ℕ) → PodsHaveIndexes (upto v log)) → PodsHaveIndexes (e ∷ log) → (v : ℕ) → PodsHaveIndexes (upto v (e ∷ log))
PodsHaveIndexes-more e log old new v = by (nat_lt (length log) v)
  where
    by : (b : Bool) → PodsHaveIndexes (cond b (e ∷ log) (upto v log))
    by true = new
    by false = old v

-- The log as it is now is one.
pub PodsHaveIndexes-now : (log : List Entry) → ((v : ℕ) → PodsHaveIndexes (upto v log)) → PodsHaveIndexes log
PodsHaveIndexes-now log all = subst PodsHaveIndexes (upto-all (length log) log (omega arith)) (all (length log))

-- ---- finalizers that were taken

-- What was put before stays so.
PutBefore-more : (P : Job → Type 0) (j : Uid) (w : ℕ) (e : Entry) (log : List Entry) → PutBefore P j w log → PutBefore P j w (e ∷ log)
PutBefore-more P j w e log b =
    record { version = b.version; before = b.before; put = b.put; is_put = entry_at-stays b.version e (JobPut b.put) log b.is_put; uid = b.uid; holds = b.holds }

-- A cause stays one.
Cause-more : (job : Job) (records : List Record) (w : ℕ) (e : Entry) (log : List Entry) (lets_go : Bool) (pod : Pod) → Cause job records w log lets_go pod → Cause job records w (e ∷ log) lets_go pod
Cause-more job records w e log lets_go pod (WasJudged r is at) = WasJudged r is at
Cause-more job records w e log lets_go pod (IsIgnored is) = IsIgnored is
Cause-more job records w e log lets_go pod (WasActive goes active) = WasActive goes active
Cause-more job records w e log lets_go pod (NeedsNone mode phase before) =
    NeedsNone mode phase (PutBefore-more (λ put. needs_none put pod ≡ true) job.uid w e log before)

-- What was justified stays so.
pub IsJustified-more : (job : Job) (records : List Record) (w : ℕ) (e : Entry) (log : List Entry) (lets_go : Bool) (pod : Pod) → IsJustified job records w log lets_go pod → IsJustified job records w (e ∷ log) lets_go pod
IsJustified-more job records w e log lets_go pod j = record {
  cause = Cause-more job records w e log lets_go pod j.cause;
  target = λ fails. PutBefore-more (λ put. has_target put.status.conditions ≡ true) job.uid w e log (j.target fails);
}

-- The Job of a pod that lived among the first n entries is made as it was.
made_older : (u : Uid) (n : ℕ) (e : Entry) (log : List Entry) (pod : Pod) (made : Job) → Legal log → life u (upto n log) ≡ Live pod → made_as pod.owner_uid (e ∷ log) ≡ Some made → made_as pod.owner_uid log ≡ Some made
made_older u n e log pod made legal there is =
    let w = owner_made u (upto n log) pod (Follows-upto Allowed n log legal) there in
    let first = made_as-upto pod.owner_uid n log w.made w.is_made in
    first ∙ sym (made_as-more pod.owner_uid e log w.made first) ∙ is

-- One finalizer that was taken well stays so.
TakesWell-more : (d : Deed) (past : List Deed) (e : Entry) (log : List Entry) → Legal log → reach past ≤ length log → AllWithin (length log) past → TakesWell d past log → TakesWell d past (e ∷ log)
TakesWell-more d past e log legal le within h = by (taking_of (request_of d.reply)) h
  where
    Well : Taking → List Entry → Type 0
    Well taking l =
        appends d past ≡ true → (pod : Pod) → life taking.pod (upto (reach past) l) ≡ Live pod
        → (made : Job) → made_as pod.owner_uid l ≡ Some made → is_job_of made.uid (job_in made.key (upto (reach past) l)) ≡ true
        → IsJustified made (ledger_of made.uid past l).records d.length.0 l taking.lets_go pod

    still : upto (reach past) (e ∷ log) ≡ upto (reach past) log
    still = upto-fixed (reach past) e log le

    one : (taking : Taking) → Well taking log → Well taking (e ∷ log)
    one taking well grown pod there made is job =
        let lived : life taking.pod (upto (reach past) log) ≡ Live pod = ap (life taking.pod) (sym still) ∙ there in
        subst (λ (ledger : Ledger). IsJustified made ledger.records d.length.0 (e ∷ log) taking.lets_go pod) (sym (ledger_of-more made.uid past e log within))
        (IsJustified-more made (ledger_of made.uid past log).records d.length.0 e log taking.lets_go pod
        (well grown pod lived made (made_older taking.pod (reach past) e log pod made legal lived is)
        (ap (λ l. is_job_of made.uid (job_in made.key l)) (sym still) ∙ job)))

    by : (o : Option Taking) → IfSome o (λ taking. Well taking log) → IfSome o (λ taking. Well taking (e ∷ log))
    by None g = tt
    by (Some taking) g = one taking g

-- What was taken well stays so, of deeds whose lengths are within the log.
pub AllWell-within : (n : ℕ) (deeds : List Deed) (e : Entry) (log : List Entry) → n ≤ length log → Legal log → IsReached deeds n → AllWithin (length log) deeds → AllWell deeds log → AllWell deeds (e ∷ log)
AllWell-within n [] e log le legal reached within h = tt
AllWell-within n (d ∷ past) e log le legal reached within h =
    let fits : reach past ≤ length log = let r = reached.1.0 in omega (arith, r, le) in
    (TakesWell-more d past e log legal fits within.1 h.0, AllWell-within (reach past) past e log fits legal reached.1.1 within.1 h.1)

-- What was taken well stays so.
pub AllWell-more : (deeds : List Deed) (e : Entry) (log : List Entry) → Legal (e ∷ log) → IsReached deeds (length log) → AllWithin (length log) deeds → AllWell deeds log → AllWell deeds (e ∷ log)
AllWell-more deeds e log legal reached within h = AllWell-within (length log) deeds e log (omega arith) legal.1 reached within h

-- One more deed with an entry: all that ties but for the Jobs, for the finalizer that it may have taken, and
-- for the syncs.
pub record Grown (d : Deed) (past : List Deed) (e : Entry) (log : List Entry) : Type 0 where
  pub legal : Legal (e ∷ log)
  pub reached : IsReached (d ∷ past) (suc (length log))
  pub within : AllWithin (suc (length log)) (d ∷ past)
  pub appends : appends d past ≡ true
  pub reach : reach past ≡ length log
  pub taken : AllWell past (e ∷ log)

-- It has all of these.
pub grow : (d : Deed) (past : List Deed) (e : Entry) (log : List Entry) (flights : List Flight) → Tied past log flights → IsWritten d log e → Grown d past e log
grow d past e log flights t w =
    let is = reach-is past (length log) t.reached in
    let long : d.length.0 ≡ suc (length log) = let g = w.grown in omega (arith, g) in
    record {
      legal = (w.allowed, t.legal);
      reached = (long, (omega (arith, is), subst (IsReached past) (sym is) t.reached));
      within = (
        subst (λ o. IfSome o (StandsWithin (suc (length log)))) (sym w.began) tt,
        AllWithin-more (length log) (suc (length log)) past (omega arith) t.within,
      );
      appends = lt-ltb (reach past) d.length.0 (omega (arith, is, long));
      reach = is;
      taken = AllWell-more past e log (w.allowed, t.legal) t.reached t.within t.taken;
    }
