-- A sync takes the finalizer of a pod: what ties stays, but for why it may.
use Rattle.std.proofs.Common.{◌≡◌, suc, Bool, true, false, List, ◌∷◌, ◌++◌, length, Option, Some, None, is_some, IfSome, refl, sym, ap, ◌∙◌, subst, arith, true≢false}
use Rattle.std.proofs.lemmas.Bool.{cond-true, not_from_false}
use Rattle.jc_types.specs.declared.numbers.Uid.{Uid}
use Rattle.jc_types.specs.declared.objects.Entry.{Entry}
use Rattle.jc_types.specs.declared.objects.Entry.TheVariants.{JobPut, JobGone, PodPut, PodGone}
use Rattle.jc_types.specs.declared.objects.Job.{Job}
use Rattle.jc_types.specs.declared.objects.Pod.{Pod}
use Rattle.jc_types.specs.declared.replies.Request.{Request}
use Rattle.jc_log.specs.Deeds.{Deed}
use Rattle.jc_types.specs.Keys.{same_uid}
use Rattle.jc_log.specs.Log.{upto, job_in, is_job_of, life, Never, Live, Gone, is_lost}
use Rattle.jc_log.specs.Writes.{Legal}
use Rattle.jc_types.proofs.KeyFacts.{same_uid-itself}
use Rattle.jc_log.proofs.LogFacts.{upto-fixed, upto-all}
use Rattle.jc_log.proofs.WriteFacts.{Stored-from_legal}
use Rattle.jc_ledger.specs.declared.flights.Flight.{Flight}
use Rattle.jc_ledger.specs.EventKinds.{FinalizerWrite, IsWritten, TakesFinalizer, pod_of}
use Rattle.jc_ledger.specs.Flights.{Flies}
use Rattle.jc_ledger.specs.Ledger.{is_status, ledger_of}
use Rattle.jc_ledger.specs.Once.{Taking, taking_of, IsJustified}
use Rattle.jc_ledger.specs.Syncs.{reach, request_of, appends}
use Rattle.jc_ledger.specs.Tied.{made_as, Ties, TakesWell, Tied}
use Rattle.jc_ledger.proofs.FrameFacts.{Flies-more, AllFly-more, AllFly-one, AllFly-put, Ties-more, PodsHaveIndexes-pod, PodsHaveIndexes-more, PodsHaveIndexes-now, Grown, grow}
use Rattle.jc_ledger.proofs.JobLaws.{puts_other-pod}
use Rattle.jc_ledger.proofs.LedgerFacts.{ledger_of-more, ledger_of-other}
use Rattle.jc_ledger.proofs.OnceFacts.{once_more}
use Rattle.jc_ledger.proofs.SeenFacts.{saw, known_since}
use Rattle.jc_ledger.proofs.TotalFacts.{totals_more}

-- ---- an entry on a pod

-- It puts no Job.
pub made_as-pod : (j : Uid) (e : Entry) (log : List Entry) (pod : Pod) → pod_of e ≡ Some pod → made_as j (e ∷ log) ≡ made_as j log
made_as-pod j (JobPut job) log pod h = absurd (true≢false (sym (ap is_some h)))
made_as-pod j (JobGone job) log pod h = refl
made_as-pod j (PodPut new) log pod h = refl
made_as-pod j (PodGone gone) log pod h = refl

-- A pod without its finalizer is lost by it.
pub lost_by : (u : Uid) (e : Entry) (log : List Entry) (pod : Pod) → pod_of e ≡ Some pod → pod.uid ≡ u → pod.tracked ≡ false → is_lost (life u (e ∷ log)) ≡ true
lost_by u (JobPut job) log pod h is untracked = absurd (true≢false (sym (ap is_some h)))
lost_by u (JobGone job) log pod h is untracked = absurd (true≢false (sym (ap is_some h)))
lost_by u (PodPut new) log pod h is untracked =
    let same : new ≡ pod = ap (λ (o : Option Pod). elim o [ None ↦ new | Some p ↦ p ]) h in
    ap is_lost (cond-true (same_uid new.uid u) (Live new) (life u log) (ap (λ p. same_uid p.uid u) same ∙ ap (λ v. same_uid v u) is ∙ same_uid-itself u))
    ∙ not_from_false new.tracked (ap (λ p. p.tracked) same ∙ untracked)
lost_by u (PodGone gone) log pod h is untracked =
    let same : gone ≡ pod = ap (λ (o : Option Pod). elim o [ None ↦ gone | Some p ↦ p ]) h in
    ap is_lost (cond-true (same_uid gone.uid u) Gone (life u log) (ap (λ p. same_uid p.uid u) same ∙ ap (λ v. same_uid v u) is ∙ same_uid-itself u))

-- ---- what ties

-- Each ledger stays tied.
taken_jobs : (d : Deed) (past : List Deed) (e : Entry) (log : List Entry) (flights : List Flight) (pod : Pod) → Tied past log flights → Legal (e ∷ log) → pod_of e ≡ Some pod
    → is_status (request_of d.reply) ≡ false → (j : Uid) → Ties (made_as j (e ∷ log)) (e ∷ log) (ledger_of j (d ∷ past) (e ∷ log))
taken_jobs d past e log flights pod t legal is_pod other j =
    subst (Ties (made_as j (e ∷ log)) (e ∷ log)) (sym (ledger_of-other j d past (e ∷ log) other ∙ ledger_of-more j past e log t.within))
    (Ties-more j e log (ledger_of j past log) legal (puts_other-pod j e pod is_pod) (t.jobs j))

-- Why the finalizer of the pod may be taken, as of the log before.
abbrev pub Justly : List Deed → Entry → List Entry → Uid → Bool → Type 0
Justly past e log u lets_go =
    (now : Pod) → life u log ≡ Live now → (made : Job) → made_as now.owner_uid log ≡ Some made → is_job_of made.uid (job_in made.key log) ≡ true
    → IsJustified made (ledger_of made.uid past log).records (suc (length log)) (e ∷ log) lets_go now

-- It is taken well.
takes_well : (d : Deed) (past : List Deed) (e : Entry) (log : List Entry) (flights : List Flight) (pod : Pod) (u : Uid) (lets_go : Bool) → Tied past log flights → Grown d past e log → IsWritten d log e
    → pod_of e ≡ Some pod → taking_of (request_of d.reply) ≡ Some (record { pod = u; lets_go = lets_go }) → Justly past e log u lets_go → TakesWell d past (e ∷ log)
takes_well d past e log flights pod u lets_go t g written is_pod taking just =
    subst (λ o. IfSome o (Well d past (e ∷ log))) (sym taking)
    (λ grew now there made is_made job.
    subst (λ l. IsJustified made l.records d.length.0 (e ∷ log) lets_go now) (sym (ledger_of-more made.uid past e log t.within))
    (subst (λ w. IsJustified made (ledger_of made.uid past log).records w (e ∷ log) lets_go now) (sym length_is)
    (just now (ap (life u) (sym before) ∙ there) made (sym (made_as-pod now.owner_uid e log pod is_pod) ∙ is_made)
    (ap (λ l. is_job_of made.uid (job_in made.key l)) (sym before) ∙ job))))
  where
    Well : Deed → List Deed → List Entry → Taking → Type 0
    Well d past log taking = appends d past ≡ true
        → (pod : Pod) → life taking.pod (upto (reach past) log) ≡ Live pod
        → (made : Job) → made_as pod.owner_uid log ≡ Some made → is_job_of made.uid (job_in made.key (upto (reach past) log)) ≡ true
        → IsJustified made (ledger_of made.uid past log).records d.length.0 log taking.lets_go pod

    before : upto (reach past) (e ∷ log) ≡ log
    before = ap (λ n. upto n (e ∷ log)) g.reach ∙ upto-fixed (length log) e log (omega arith) ∙ upto-all (length log) log (omega arith)

    length_is : d.length.0 ≡ suc (length log)
    length_is = let grown = written.grown in omega (arith, grown)

-- All that ties, once it is shown why the finalizer may be taken.
pub tied_taken : (d : Deed) (past : List Deed) (log : List Entry) (front back : List Flight) (next : Flight) (asked : Request) (f : FinalizerWrite) (lets_go : Bool)
    → Tied past log (front ++ f.flight ∷ back) → TakesFinalizer d log asked f
    → is_status (Some asked) ≡ false → taking_of (Some asked) ≡ Some (record { pod = f.seen.uid; lets_go = lets_go })
    → Justly past f.entry log f.seen.uid lets_go → (Flies (f.entry ∷ log) f.flight → Flies (f.entry ∷ log) next)
    → Tied (d ∷ past) (f.entry ∷ log) (front ++ next ∷ back)
tied_taken d past log front back next asked f lets_go t taken other taking just next_flies = record {
  legal = grown.legal;
  reached = grown.reached;
  within = grown.within;
  jobs = jobs;
  numbered =
      PodsHaveIndexes-more f.entry log t.numbered
      (PodsHaveIndexes-pod f.entry log f.pod grown.legal taken.is_pod (λ never. absurd (known (ap (λ u. life u log) (sym taken.uid) ∙ never))) (PodsHaveIndexes-now log t.numbered));
  totals = totals_more d past f.entry log grown.legal jobs t.totals;
  once = once_more f.entry past log (front ++ f.flight ∷ back) t;
  taken = (takes_well d past f.entry log (front ++ f.flight ∷ back) f.pod f.seen.uid lets_go t grown taken.written taken.is_pod (ap (λ r. taking_of (request_of r)) taken.reply ∙ taking) just, grown.taken);
  flying =
      AllFly-put (f.entry ∷ log) front back f.flight next
      (AllFly-more f.entry log (front ++ f.flight ∷ back) grown.legal t.flying)
      (next_flies (Flies-more f.entry log f.flight grown.legal flies));
}
  where
    grown : Grown d past f.entry log
    grown = grow d past f.entry log (front ++ f.flight ∷ back) t taken.written

    jobs : (j : Uid) → Ties (made_as j (f.entry ∷ log)) (f.entry ∷ log) (ledger_of j (d ∷ past) (f.entry ∷ log))
    jobs = taken_jobs d past f.entry log (front ++ f.flight ∷ back) f.pod t grown.legal taken.is_pod (ap (λ r. is_status (request_of r)) taken.reply ∙ other)

    flies : Flies log f.flight
    flies = AllFly-one log front back f.flight t.flying

    known : life f.seen.uid log ≡ Never → ⊥
    known never =
        known_since f.seen.uid f.flight.basis.pods_at.0 log (Stored-from_legal log t.legal) f.seen (saw log f.flight.basis f.seen flies.basis taken.is_seen).stood never
