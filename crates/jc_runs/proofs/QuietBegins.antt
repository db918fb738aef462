-- Such a sync from its begin: it comes to the next status of its Job.
use Rattle.std.proofs.Common.{◌≡◌, ℕ, cond, ◌&&◌, List, [], ◌∷◌, ◌++◌, length, Some, None, is_some, refl, sym, ap, ◌∙◌, subst, arith, eq-eqb, find}
use Rattle.std.specs.List.{AllByRecursion as Each}
use Rattle.std.specs.Option.{option_or, unwrap_or}
use Rattle.jc_log.specs.Acts as does
use Rattle.jc_types.specs.declared.objects.Entry.{Entry}
use Rattle.jc_types.specs.declared.objects.Job.{Job}
use Rattle.jc_types.specs.declared.objects.Pod.{Pod}
use Rattle.jc_types.specs.declared.replies.Reply.TheVariants as reply
use Rattle.jc_types.specs.declared.runs.Shape.{Shape}
use Rattle.jc_states.specs.declared.bases.Basis.{Basis}
use Rattle.jc_log.specs.Deeds.{Deed}
use Rattle.jc_states.specs.Bases.{own_pods}
use Rattle.jc_types.specs.declared.objects.KeyNames.{KeyNames as Key}
use Rattle.jc_types.specs.Keys.{same_key, same_uid}
use Rattle.jc_states.specs.PodLists.{IsRising}
use Rattle.jc_log.specs.Log.{job_in, pods_in, pods_under, upto}
use Rattle.jc_log.specs.Writes.{Stored}
use Rattle.jc_log.proofs.LogFacts.{upto-all}
use Rattle.jc_log.proofs.PodFacts.{pods_in-rises}
use Rattle.jc_states.proofs.PodListFacts.{rises_filter}
use Rattle.jc_log.proofs.WriteFacts.{job_in-key}
use Rattle.jc_plan.specs.Judged.{is_left_over}
use Rattle.jc_plan.specs.Next.{next_status}
use Rattle.jc_ledger.specs.declared.flights.Flight.{Flight}
use Rattle.jc_ledger.specs.Flights.{Flies}
use Rattle.jc_ledger.specs.Syncs.{began_of, is_begin}
use Rattle.jc_asks.specs.Readings.{step_told, steps_of, with_step}
use Rattle.jc_sync.specs.AllRegisters.{HasSyncs, Registers, flights_of_all, put_at, register_at}
use Rattle.jc_asks.specs.Sends.{new_sync, sent_first}
use Rattle.jc_sync.proofs.QuietSync.{begun_current}
use Rattle.jc_sync.proofs.ReachFacts.{ended_lost, reaches_next}
use Rattle.jc_sync.proofs.RegisterFacts.{Around, around}
use Rattle.jc_history.specs.Diaries.{moment, notes_taken, notes, on_begin, restarts}
use Rattle.jc_history.specs.Fresh.{basis as basis_of}
use Rattle.jc_history.specs.Legal.{IsLegal}
use Rattle.jc_history.specs.Notes.{Note, Began, newest}
use Rattle.jc_history.specs.Registers.{asked_by, backoff, made, pending, register, register_told}
use Rattle.jc_history.specs.Replies.{log_given}
use Rattle.jc_control.specs.Schedules.{log_end}
use Rattle.jc_history.proofs.LegalFacts.{notes-next}
use Rattle.jc_runs.specs.QuietRuns.{AreSteps, IsAtNext}
use Rattle.jc_runs.proofs.QuietSteps.{HasEnded, IsUnderWay, all-steps, last-step}

-- The deed begins such a sync, and the registers have it.
pub record BeginsKnown (shape : Shape) (c w : ℕ) (d : Deed) (past : List Deed) (k : Key) (job : Job) (rs : Registers) : Type 0 where
  pub legal : IsLegal shape (d ∷ past)
  pub act : d.act ≡ does.Begin c w
  pub reply_is : d.reply ≡ reply.Begun k (log_end (log_given shape (d ∷ past))) (log_end (log_given shape (d ∷ past)))
  pub there : job_in k (log_given shape (d ∷ past)) ≡ Some job
  pub no_fault : pending w (notes shape c past (log_given shape past)) ≡ None
  pub known : HasSyncs (d ∷ past) (log_given shape (d ∷ past)) rs
  pub in_register : register_at c w rs
      ≡ Some (Some (new_sync (basis_of (notes shape c past (log_given shape past)) (log_given shape (d ∷ past)) (moment shape past) k (log_end (log_given shape (d ∷ past))) (log_end (log_given shape (d ∷ past))))))

module _ (shape : Shape) (c w : ℕ) (d : Deed) (past : List Deed) (k : Key) (job : Job) (rs : Registers) (b : BeginsKnown shape c w d past k job rs) where
  abbrev log-then : List Entry
  log-then = log_given shape (d ∷ past)

  abbrev old-notes : List Note
  old-notes = notes shape c past (log_given shape past)

  abbrev pub basis-then : Basis
  basis-then = basis_of old-notes log-then (moment shape past) k (log_end log-then) (log_end log-then)

  whole : upto (length log-then) log-then ≡ log-then
  whole = upto-all (length log-then) log-then (omega arith)

  pub saw-then : basis-then.job ≡ Some job
  saw-then = ap (job_in k) whole ∙ b.there

  pub pods-then : basis-then.pods ≡ pods_under k log-then
  pods-then = ap (pods_under k) whole

  notes-then : notes shape c (d ∷ past) log-then ≡ Began w basis-then ∷ old-notes
  notes-then =
      notes-next shape c past d b.legal.1
      ∙ (λ i. cond (restarts c (b.act i)) [] (notes_taken c (b.act i) (b.reply_is i) (moment shape past) log-then old-notes ++ old-notes))
      ∙ (λ i. cond (eq-eqb c c refl i) (on_begin w (moment shape past) log-then old-notes (reply.Begun k (log_end log-then) (log_end log-then))) [] ++ old-notes)

  steps-then : steps_of c w (d ∷ past) ≡ []
  steps-then =
      (λ i. cond (is_some (cond (is_begin c w (b.act i)) (began_of (b.reply_is i)) None)) [] (with_step (step_told c w d) (steps_of c w past)))
      ∙ (λ i. cond (is_some (cond (eq-eqb c c refl i && eq-eqb w w refl i) (began_of (reply.Begun k (log_end log-then) (log_end log-then))) None)) [] (with_step (step_told c w d) (steps_of c w past)))

  pub begins-under-way : IsUnderWay shape c w basis-then job saw-then (job_in-key k log-then job b.there) (d ∷ past)
  begins-under-way = record {
    registers = rs;
    sync = new_sync basis-then;
    known = b.known;
    in_register = b.in_register;
    of_basis = refl;
    register_is = ap (register w) notes-then ∙ ap (λ t. unwrap_or (option_or (cond t (Some (Some basis-then)) None) (newest (register_told w) old-notes)) None) (eq-eqb w w refl);
    no_fault = ap (pending w) notes-then ∙ b.no_fault;
    made_is = ap (made w) notes-then ∙ ap (λ t. cond t [] (with_step (asked_by w (Began w basis-then)) (made w old-notes))) (eq-eqb w w refl) ∙ sym steps-then;
    current = begun_current log-then (new_sync basis-then).flight job (subst IsRising (sym pods-then) (rises_filter 0 (λ pod. same_key pod.owner k) (pods_in log-then) (pods_in-rises log-then))) refl b.there (ap sent_first saw-then);
  }

  -- What it comes to.
  reached : (last : Deed) (run : List Deed) → HasEnded shape c w basis-then job saw-then (job_in-key k log-then job b.there) last (run ++ d ∷ past)
      → (last.reply ≡ reply.Ended) × IsAtNext (log_given shape (last ∷ run ++ d ∷ past)) log-then (moment shape past) (backoff k old-notes) k job
  reached last run h = (
    h.reply_is,
    subst (λ log. IsAtNext log log-then (moment shape past) (backoff k old-notes) k job) (sym h.log_is) (record {
      current = h.leaves.current;
      there = ap (λ (x : Basis). job_in x.key (log_given shape (run ++ d ∷ past))) (sym h.of_basis) ∙ h.leaves.there;
      uid = h.leaves.uid;
      status =
          reaches_next (run ++ d ∷ past) log (flights_of_all h.registers) h.sync.flight job h.known.tied flies saw-it h.leaves
          ∙ ap (λ (x : Basis). next_status x.now x.backoff job (own_pods job x.pods)) h.of_basis
          ∙ ap (λ pods. next_status (moment shape past) (backoff k old-notes) job (own_pods job pods)) pods-then;
      released = λ pod found own ended kept.
          ended_lost (run ++ d ∷ past) log (flights_of_all h.registers) h.sync.flight job h.known.tied flies saw-it h.leaves pod
          (ap (λ (x : Basis). find (λ (p : Pod). same_uid p.uid pod.uid) x.pods) h.of_basis ∙ ap (find (λ (p : Pod). same_uid p.uid pod.uid)) pods-then ∙ found) own ended
          (ap (λ (x : Basis). is_left_over job (own_pods job x.pods) pod) h.of_basis ∙ ap (λ pods. is_left_over job (own_pods job pods) pod) pods-then ∙ kept);
    }),
  )
    where
      log : List Entry
      log = log_given shape (run ++ d ∷ past)

      saw-it : h.sync.flight.basis.job ≡ Some job
      saw-it = ap (λ (x : Basis). x.job) h.of_basis ∙ saw-then

      flies : Flies log h.sync.flight
      flies = fly (around c w h.registers (Some h.sync) h.in_register)
        where
          one : (front back : List Flight) → Each (Flies log) (front ++ h.sync.flight ∷ back) → Flies log h.sync.flight
          one [] back e = e.0
          one (x ∷ front) back e = one front back e.1

          fly : Around (flights_of_all h.registers) (λ new. flights_of_all (put_at c w new h.registers)) (Some h.sync) → Flies log h.sync.flight
          fly a = one a.front a.back (subst (λ l. Each (Flies log) l) a.is h.known.tied.flying)

  pub comes-to-next : (last : Deed) (run : List Deed) → IsLegal shape (last ∷ run ++ d ∷ past) → AreSteps shape c w (last ∷ run) (d ∷ past) → Stored (log_given shape (last ∷ run ++ d ∷ past))
      → register w (notes shape c (last ∷ run ++ d ∷ past) (log_given shape (last ∷ run ++ d ∷ past))) ≡ None
      → (last.reply ≡ reply.Ended) × IsAtNext (log_given shape (last ∷ run ++ d ∷ past)) (log_given shape (d ∷ past)) (moment shape past) (backoff k (notes shape c past (log_given shape past))) k job
  comes-to-next last run legal steps stays free =
      reached last run
      (last-step shape c w basis-then job saw-then (job_in-key k log-then job b.there) last run (d ∷ past)
      (all-steps shape c w basis-then job saw-then (job_in-key k log-then job b.there) (last ∷ run) (d ∷ past) legal steps stays begins-under-way) free)
