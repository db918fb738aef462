-- Events that append nothing, syncs that begin, learn and come to their end.
use Rattle.std.proofs.Common.{◌≡◌, ℕ, ◌≤◌, Bool, true, false, ◌||◌, List, [], ◌∷◌, ◌++◌, length, Option, Some, None, is_some, IfSome, inl, inr, refl, sym, ap, ◌∙◌, subst, arith, le-ltb, true≢false}
use Rattle.std.specs.Option.{unwrap_or}
use Rattle.std.specs.List.{AllByRecursion as Each}
use Rattle.std.proofs.lemmas.Bool.{or_cases}
use Rattle.std.proofs.lemmas.List.Folds.{list_any-append}
use Rattle.std.proofs.lemmas.Option.{IfSome_then}
use Rattle.jc_types.specs.declared.numbers.Uid.{Uid}
use Rattle.jc_types.specs.declared.numbers.Version.{Version}
use Rattle.jc_types.specs.declared.objects.Entry.{Entry}
use Rattle.jc_types.specs.declared.objects.Entry.TheVariants.{JobPut}
use Rattle.jc_types.specs.declared.objects.Job.{Job}
use Rattle.jc_types.specs.declared.statuses.JobStatus.{JobStatus}
use Rattle.jc_log.specs.Deeds.{Deed}
use Rattle.jc_types.specs.declared.objects.KeyNames.{KeyNames as Key}
use Rattle.jc_types.specs.Keys.{same_uid}
use Rattle.jc_log.specs.Log.{Life, Never, Live, Gone, upto, entry_at, job_in, life, is_lost}
use Rattle.jc_states.specs.UidLists.{is_in}
use Rattle.jc_log.specs.Writes.{Writes, Legal}
use Rattle.jc_types.proofs.KeyFacts.{same_uid-eq}
use Rattle.jc_log.proofs.LogFacts.{length-upto, entry_at-upto}
use Rattle.jc_log.proofs.PlaceFacts.{job_in-entry, job_in-within}
use Rattle.jc_log.proofs.WriteFacts.{Follows-upto, Stored-from_legal}
use Rattle.jc_ledger.specs.declared.flights.Flight.{Flight}
use Rattle.jc_ledger.specs.EventKinds.{AppendsNoEntry, Begins, FindsNothing, with_released}
use Rattle.jc_ledger.specs.Flights.{IsSent, Flies}
use Rattle.jc_ledger.specs.Once.{taking_of}
use Rattle.jc_ledger.specs.Syncs.{reach, request_of, appends}
use Rattle.jc_ledger.specs.Tied.{made_as, Ties, TakesWell, IsReached, Tied}
use Rattle.jc_ledger.proofs.FrameFacts.{AllFly-put, AllFly-add, AllFly-drop, AllFly-one}
use Rattle.jc_ledger.proofs.LedgerFacts.{reach-is, ledger_of-still}
use Rattle.jc_ledger.proofs.OnceFacts.{once_tied}

-- What holds of every value holds of the one that is there.
pub IfSome-each : {X : Type 0} (o : Option X) (P : X → Type 0) → ((x : X) → P x) → IfSome o P
IfSome-each None P f = tt
IfSome-each (Some x) P f = f x

-- Anything holds of a value that is not there.
pub IfSome-absent : {X : Type 0} (o : Option X) (P : X → Type 0) → o ≡ None → IfSome o P
IfSome-absent None P none = tt
IfSome-absent (Some x) P none = absurd (true≢false (ap is_some none))

-- What holds of the value that is there.
pub IfSome-of : {X : Type 0} (o : Option X) (P : X → Type 0) → ((x : X) → o ≡ Some x → P x) → IfSome o P
IfSome-of None P f = tt
IfSome-of (Some x) P f = f x refl

-- And conversely.
pub IfSome-at : {X : Type 0} (o : Option X) (P : X → Type 0) (x : X) → o ≡ Some x → IfSome o P → P x
IfSome-at {X = X} o P x is h = subst (λ (q : Option X). IfSome q P) is h

-- ---- nothing is appended

-- At the start all is tied.
pub tied_start : Tied [] [] []
tied_start = record {
  legal = tt;
  reached = refl;
  within = tt;
  jobs = λ j. (refl, refl, refl);
  numbered = λ v u pod h. absurd (true≢false (ap is_unborn h));
  totals = λ v job h. absurd (true≢false (sym (ap is_some h)));
  taken = tt;
  once = tt;
  flying = tt;
}
  where
    is_unborn : Life → Bool
    is_unborn Never = true
    is_unborn (Live pod) = false
    is_unborn Gone = false

-- A deed that tells the length as it was appended nothing.
pub appends-still : (d : Deed) (past : List Deed) (log : List Entry) → IsReached past (length log) → d.length.0 ≡ length log → appends d past ≡ false
appends-still d past log reached still =
    let was = reach-is past (length log) reached in
    le-ltb (reach past) d.length.0 (omega (arith, was, still))

-- The lengths that the deeds tell, with one more that tells the same.
reached-still : (d : Deed) (past : List Deed) (n : ℕ) → IsReached past n → d.length.0 ≡ n → IsReached (d ∷ past) n
reached-still d past n reached still =
    let was = reach-is past n reached in
    (still, (omega (arith, was), subst (IsReached past) (sym was) reached))

-- One that appended nothing took no finalizer.
pub TakesWell-still : (d : Deed) (past : List Deed) (log : List Entry) → appends d past ≡ false → TakesWell d past log
TakesWell-still d past log still =
    IfSome-each (taking_of (request_of d.reply)) _ (λ taking grown pod there made is_made is_there. absurd (true≢false (sym grown ∙ still)))

-- Nothing that ties changes where a deed appends nothing.
pub tied_quiet : (d : Deed) (past : List Deed) (log : List Entry) (flights : List Flight) → Tied past log flights → AppendsNoEntry d log → Tied (d ∷ past) log flights
tied_quiet d past log flights t q =
    let still = appends-still d past log t.reached q.still in
    record {
      legal = t.legal;
      reached = reached-still d past (length log) t.reached q.still;
      within = (q.within, t.within);
      jobs = λ j. subst (Ties (made_as j log) log) (sym (ledger_of-still j d past log still)) (t.jobs j);
      numbered = t.numbered;
      totals = t.totals;
      once = once_tied past log flights t;
      taken = (TakesWell-still d past log still, t.taken);
      flying = t.flying;
    }

-- With other syncs under way.
pub tied_flying : (deeds : List Deed) (log : List Entry) (flights others : List Flight) → Tied deeds log flights → Each (Flies log) others → Tied deeds log others
tied_flying deeds log flights others t all = record {
  legal = t.legal;
  reached = t.reached;
  within = t.within;
  jobs = t.jobs;
  numbered = t.numbered;
  totals = t.totals;
  taken = t.taken;
  once = t.once;
  flying = all;
}

-- Syncs come to their end.
pub tied_dropped : (deeds : List Deed) (log : List Entry) (front dropped back : List Flight) → Tied deeds log (front ++ (dropped ++ back)) → Tied deeds log (front ++ back)
tied_dropped deeds log front dropped back t =
    tied_flying deeds log (front ++ (dropped ++ back)) (front ++ back) t (AllFly-drop log front dropped back t.flying)

-- ---- a sync begins

-- The Job that a basis has was put by the entry of its version.
pub seen_job-entry : (k : Key) (n : ℕ) (log : List Entry) (job : Job) → Legal log → n ≤ length log → job_in k (upto n log) ≡ Some job → entry_at job.version.0 log ≡ Some (JobPut job)
seen_job-entry k n log job legal le there =
    let stored = Follows-upto Writes n log (Stored-from_legal log legal) in
    let within = job_in-within k (upto n log) job stored there in
    let long = length-upto n log le in
    sym (entry_at-upto job.version.0 n log (omega (arith, within, long))) ∙ job_in-entry k (upto n log) job stored there

-- Nothing is in an empty list.
in_nothing : (u : Uid) (uids : List Uid) → uids ≡ [] → is_in u uids ≡ true → ⊥
in_nothing u uids empty h = true≢false (sym h ∙ ap (is_in u) empty)

-- What is known of a sync that begins.
pub Flies-begun : (d : Deed) (log : List Entry) (flight : Flight) → Legal log → Begins d log flight → Flies log flight
Flies-begun d log flight legal b = record {
  basis = b.basis;
  reached = b.reached;
  sent = IfSome-of flight.basis.job (λ job. IsSent log flight job) sends;
  released = λ u h. absurd (in_nothing u flight.released b.released h);
}
  where
    sends : (job : Job) → flight.basis.job ≡ Some job → IsSent log flight job
    sends job is =
        let at = IfSome-at flight.basis.job (λ seen. flight.sends ≡ seen.version) job is b.sends in
        record {
          put = job;
          is_put = ap (λ (v : Version). entry_at v.0 log) at ∙ seen_job-entry flight.basis.key flight.basis.jobs_at.0 log job legal b.basis.jobs_at (sym b.basis.job ∙ is);
          uid = refl;
          key = refl;
          status = sym (ap (λ (w : Option JobStatus). unwrap_or w job.status) b.written);
          unwritten = λ none. at;
        }

-- A sync begins.
pub tied_begun : (d : Deed) (past : List Deed) (log : List Entry) (front back : List Flight) (flight : Flight) → Tied past log (front ++ back) → Begins d log flight → Tied (d ∷ past) log (front ++ flight ∷ back)
tied_begun d past log front back flight t b =
    tied_flying (d ∷ past) log (front ++ back) (front ++ flight ∷ back) (tied_quiet d past log (front ++ back) t b.quiet)
    (AllFly-add log front back flight t.flying (Flies-begun d log flight t.legal b))

-- ---- a sync learns that a pod has no finalizer

-- One more pod is lost.
pub Flies-released : (log : List Entry) (flight : Flight) (u : Uid) → Flies log flight → is_lost (life u log) ≡ true → Flies log (with_released flight u)
Flies-released log flight u f lost = record {
  basis = f.basis;
  reached = f.reached;
  sent = IfSome_then flight.basis.job f.sent (λ job s. record { put = s.put; is_put = s.is_put; uid = s.uid; key = s.key; status = s.status; unwritten = s.unwritten });
  released = both;
}
  where
    both : (v : Uid) → is_in v (flight.released ++ u ∷ []) ≡ true → is_lost (life v log) ≡ true
    both v h =
        elim (or_cases (is_in v flight.released) (is_in v (u ∷ [])) (sym (list_any-append (λ w. same_uid w v) flight.released (u ∷ [])) ∙ h)) [
          | inl old ↦ f.released v old
          | inr new ↦ last v (same_uid u v) refl new
        ]
      where
        last : (v : Uid) (b : Bool) → same_uid u v ≡ b → (b || false) ≡ true → is_lost (life v log) ≡ true
        last v true s g = subst (λ w. is_lost (life w log) ≡ true) (same_uid-eq u v s) lost
        last v false s g = absurd (true≢false (sym g))

-- A release finds no pod that has the finalizer.
pub tied_not_tracked : (d : Deed) (past : List Deed) (log : List Entry) (front back : List Flight) (flight : Flight)
    (u : Uid) → Tied past log (front ++ flight ∷ back) → FindsNothing d log u
    → Tied (d ∷ past) log (front ++ with_released flight u ∷ back)
tied_not_tracked d past log front back flight u t f =
    tied_flying (d ∷ past) log (front ++ flight ∷ back) (front ++ with_released flight u ∷ back) (tied_quiet d past log (front ++ flight ∷ back) t f.quiet)
    (AllFly-put log front back flight (with_released flight u) t.flying (Flies-released log flight u (AllFly-one log front back flight t.flying) f.lost))
