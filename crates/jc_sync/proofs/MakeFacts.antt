-- The pods that a sync makes and marks.
use Rattle.std.proofs.Common.{◌≡◌, ℕ, true, List, ◌∷◌, ◌++◌, length, Option, Some, None, is_some, IfSome, refl, sym, ap, ◌∙◌, subst}
use Rattle.jc_types.specs.declared.numbers.Uid.{Uid}
use Rattle.jc_types.specs.declared.objects.Entry.{Entry}
use Rattle.jc_types.specs.declared.objects.Entry.TheVariants.{PodPut}
use Rattle.jc_types.specs.declared.objects.Job.{Job}
use Rattle.jc_types.specs.declared.replies.Answer.{Answer}
use Rattle.jc_types.specs.declared.replies.Reply.TheVariants as reply
use Rattle.jc_types.specs.declared.replies.Request.TheVariants as request
use Rattle.jc_types.specs.declared.specifications.Mode.TheVariants.{Indexed}
use Rattle.jc_log.specs.Requests.{Answered, grown, made_pod, mark_pod_gives, pod_entry, with_mark}
use Rattle.jc_log.specs.Deeds.{Deed}
use Rattle.jc_log.specs.Log.{Live, has_job, job_in, life, upto}
use Rattle.jc_log.specs.Writes.{Stored, Writes}
use Rattle.jc_types.proofs.KeyFacts.{same_uid-itself}
use Rattle.jc_log.proofs.HasJobFacts.{put_upto, there_put}
use Rattle.jc_log.proofs.WriteFacts.{Follows-upto, Stored-from_legal, job_in-key, life-uid}
use Rattle.jc_ledger.specs.declared.flights.Flight.{Flight}
use Rattle.jc_ledger.specs.Flights.{Flies}
use Rattle.jc_ledger.specs.Ledger.{is_status}
use Rattle.jc_ledger.specs.Once.{taking_of}
use Rattle.jc_ledger.specs.Syncs.{began_of, request_of}
use Rattle.jc_ledger.specs.Tied.{made_as, Tied}
use Rattle.jc_ledger.proofs.FrameFacts.{AllFly-one}
use Rattle.jc_ledger.proofs.JobLaws.{tied_pod}
use Rattle.jc_ledger.proofs.MadeFacts.{WasMade, job_in-was_made, made_as-upto}
use Rattle.jc_ledger.proofs.QuietFacts.{IfSome-at, tied_quiet}
use Rattle.jc_asks.specs.declared.asks.Ask.TheVariants.{MakePod}
use Rattle.jc_plan.specs.Creations.{IsIndexFor}
use Rattle.jc_sync.specs.SyncPlaces.{IsEarly}
use Rattle.jc_asks.specs.Steps.{make_gives}
use Rattle.jc_sync.proofs.ApiFacts.{MarkCases, Marked, Unmarked, mark_cases}
use Rattle.jc_sync.proofs.EntryFacts.{not_never, owned-live, pod_entry-pod, quiet-by, written-by}

module _ (d : Deed) (past : List Deed) (log : List Entry) (front back : List Flight) (flight : Flight) (given : Answer)
    (t : Tied past log (front ++ flight ∷ back)) where
  stored : Stored log
  stored = Stored-from_legal log t.legal

  flies : Flies log flight
  flies = AllFly-one log front back flight t.flying

  abbrev Ties : Answered → Type 0
  Ties a = d.length.0 ≡ length (grown log a.entry) → Stored (grown log a.entry) → Tied (d ∷ past) (grown log a.entry) (front ++ flight ∷ back)

  -- ---- marks

  pub mark_ties : (u : Uid) (now : ℕ) → d.reply ≡ reply.Stepped (request.MarkPod u) given → Ties (mark_pod_gives log u now)
  mark_ties u now told = by (mark_pod_gives log u now) (mark_cases log u now)
    where
      by : (a : Answered) → MarkCases log u now a → Ties a
      by a (Marked old there is) =
          let live : life old.uid log ≡ Live old = ap (λ v. life v log) (life-uid u log old there) ∙ there in
          subst Ties (sym is)
          (λ grew kept. tied_pod d past log (front ++ flight ∷ back) (pod_entry (with_mark log old now)) (with_mark log old now) t (record {
            written = written-by d log (pod_entry (with_mark log old now)) (request.MarkPod u) given told grew kept
                (owned-live log (pod_entry (with_mark log old now)) (with_mark log old now) old (pod_entry-pod (with_mark log old now)) live);
            plain = record { status = ap (λ r. is_status (request_of r)) told; taking = ap (λ r. taking_of (request_of r)) told };
            is_pod = pod_entry-pod (with_mark log old now);
            numbered = λ never. absurd (not_never never live);
          }))
      by a (Unmarked r is) = subst Ties (sym is) (λ still kept. tied_quiet d past log (front ++ flight ∷ back) t (quiet-by d log (ap began_of told) still))

  -- ---- creations

  made_ties : (job : Job) (index : Option ℕ) (now : ℕ) → flight.basis.job ≡ Some job → (job.spec.mode ≡ Indexed → is_some index ≡ true)
      → d.reply ≡ reply.Stepped (request.CreatePod index) given → Ties (make_gives log index now (Some job))
  made_ties job index now is indexed told grew kept = tied_pod d past log (front ++ flight ∷ back) (PodPut (made_pod log job index now)) (made_pod log job index now) t (record {
    written = written-by d log (PodPut (made_pod log job index now)) (request.CreatePod index) given told grew kept (λ never. put);
    plain = record { status = ap (λ r. is_status (request_of r)) told; taking = ap (λ r. taking_of (request_of r)) told };
    is_pod = refl;
    numbered = λ never. subst (λ (o : Option Job). IfSome o (λ m. m.spec.mode ≡ Indexed → is_some index ≡ true)) (sym is_made) (λ mode. indexed (was.step.mode ∙ mode));
  })
    where
      there : job_in flight.basis.key (upto flight.basis.jobs_at.0 log) ≡ Some job
      there = sym flies.basis.job ∙ is

      was : WasMade (upto flight.basis.jobs_at.0 log) job
      was = job_in-was_made flight.basis.key (upto flight.basis.jobs_at.0 log) job (Follows-upto Writes flight.basis.jobs_at.0 log stored) there

      is_made : made_as job.uid log ≡ Some was.made
      is_made = made_as-upto job.uid flight.basis.jobs_at.0 log was.made was.is_made

      put : has_job job.uid job.key log ≡ true
      put =
          put_upto job.uid job.key flight.basis.jobs_at.0 log
          (there_put job.uid job.key (upto flight.basis.jobs_at.0 log) job
          (ap (λ k. job_in k (upto flight.basis.jobs_at.0 log)) (job_in-key flight.basis.key (upto flight.basis.jobs_at.0 log) job there) ∙ there)
          (same_uid-itself job.uid))

  pub make_ties : (index : Option ℕ) (now : ℕ) → IsEarly flight.basis (MakePod index) → d.reply ≡ reply.Stepped (request.CreatePod index) given → Ties (make_gives log index now flight.basis.job)
  make_ties index now early told = by flight.basis.job refl
    where
      by : (o : Option Job) → flight.basis.job ≡ o → Ties (make_gives log index now o)
      by None is = λ still kept. tied_quiet d past log (front ++ flight ∷ back) t (quiet-by d log (ap began_of told) still)
      by (Some job) is = made_ties job index now is (IfSome-at flight.basis.job (λ j. IsIndexFor j index) job is early).numbered told
