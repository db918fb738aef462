-- The steps of a sync on current caches that meets no fault: each goes on, until it has ended as it should.
use Rattle.std.proofs.Common.{◌≡◌, ℕ, zero, suc, cond, ◌&&◌, List, [], ◌∷◌, ◌++◌, length, slice_get, Option, Some, None, is_some, refl, sym, ap, ◌∙◌, subst, eq-eqb, true≢false, ◌⊎◌, inl, inr}
use Rattle.std.specs.List.{AllByRecursion as Each}
use Rattle.std.specs.Option.{option_map, option_or, option_to_list, unwrap_or}
use Rattle.jc_log.specs.Acts as does
use Rattle.jc_plan.specs.Plans.{planned}
use Rattle.jc_types.specs.declared.objects.Entry.{Entry}
use Rattle.jc_types.specs.declared.objects.Job.{Job}
use Rattle.jc_types.specs.declared.replies.Answer.{Answer}
use Rattle.jc_types.specs.declared.replies.Answer.TheVariants as answer
use Rattle.jc_types.specs.declared.replies.Reply.TheVariants as reply
use Rattle.jc_types.specs.declared.runs.Shape.{Shape}
use Rattle.jc_states.specs.declared.bases.Basis.{Basis}
use Rattle.jc_log.specs.Requests.{Answered, grown, refused}
use Rattle.jc_log.specs.Deeds.{Deed}
use Rattle.jc_log.specs.Writes.{Stored}
use Rattle.jc_log.proofs.WriteFacts.{Stored-from_legal}
use Rattle.jc_control.specs.declared.ends.SyncEnd.{SyncEnd}
use Rattle.jc_ledger.specs.declared.flights.Flight.{Flight}
use Rattle.jc_ledger.specs.Flights.{Flies}
use Rattle.jc_ledger.specs.Syncs.{began_of, is_begin}
use Rattle.jc_asks.specs.declared.asks.Ask.{Ask}
use Rattle.jc_asks.specs.Asks.{asks_after, as_request}
use Rattle.jc_sync.specs.Quiet.{GoesOnTo, IsUndisturbed, Leaves}
use Rattle.jc_asks.specs.Readings.{is_step, step_told, steps_of, told_step, with_step}
use Rattle.jc_sync.specs.AllRegisters.{HasSyncs, IsRegister, Registers, flights_of_all, put_at, put_worker, register_at, register_of}
use Rattle.jc_asks.specs.Steps.{Sync, as_answer, answered_to, end_given, flight_after, next_unless, stepped, stepped_at}
use Rattle.jc_sync.proofs.QuietSync.{quiet_ends, quiet_goes}
use Rattle.jc_sync.proofs.ReadFacts.{reads_next}
use Rattle.jc_sync.proofs.RegisterFacts.{Around, around, step_syncs}
use Rattle.jc_history.specs.SoFar.{so_far}
use Rattle.jc_history.specs.Diaries.{moment, notes_taken, notes, on_step, restarts}
use Rattle.jc_history.specs.Legal.{IsLegal, IsLegalNext}
use Rattle.jc_history.specs.Notes.{Note, Asked, Ended, newest}
use Rattle.jc_history.specs.Registers.{made, pending, register, register_told}
use Rattle.jc_history.specs.Replies.{gives, log_given, step_done, step_gives}
use Rattle.jc_history.proofs.LegalFacts.{notes-next}
use Rattle.jc_runs.specs.QuietRuns.{AreSteps}
use Rattle.jc_history.proofs.RequestFacts.{steps-same}
use Rattle.jc_runs.proofs.StepFacts.{same_end, store_answers}
use Rattle.jc_sync.proofs.StepFacts.{after_basis as after-basis}

-- ---- registers

pub put-same : (c w : ℕ) (old new : Option Sync) (rs : Registers) → register_at c w rs ≡ Some old → register_at c w (put_at c w new rs) ≡ Some new
put-same zero w old new [] e = absurd (true≢false (sym (ap is_some e)))
put-same (suc c) w old new [] e = absurd (true≢false (sym (ap is_some e)))
put-same (suc c) w old new (ws ∷ rs) e = put-same c w old new rs e
put-same zero w old new (ws ∷ rs) e = by w ws e
  where
    by : (w : ℕ) (ws : List (Option Sync)) → slice_get ws w ≡ Some old → slice_get (put_worker w new ws) w ≡ Some new
    by zero [] e = absurd (true≢false (sym (ap is_some e)))
    by (suc w) [] e = absurd (true≢false (sym (ap is_some e)))
    by zero (x ∷ ws) e = refl
    by (suc w) (x ∷ ws) e = by w ws e

-- ---- a sync under way

module _ (shape : Shape) (c w : ℕ) (basis : Basis) (job : Job) (saw : basis.job ≡ Some job) (named : job.key ≡ basis.key) where
  -- The worker's sync goes on without a fault, and its Job is as it last wrote it.
  pub record IsUnderWay (past : List Deed) : Type 0 where
    pub registers : Registers
    pub sync : Sync
    pub known : HasSyncs past (log_given shape past) registers
    pub in_register : register_at c w registers ≡ Some (Some sync)
    pub of_basis : sync.flight.basis ≡ basis
    pub register_is : register w (notes shape c past (log_given shape past)) ≡ Some basis
    pub no_fault : pending w (notes shape c past (log_given shape past)) ≡ None
    pub made_is : made w (notes shape c past (log_given shape past)) ≡ steps_of c w past
    pub current : IsUndisturbed (log_given shape past) sync.flight job sync.left

  -- It has ended as it should.
  pub record HasEnded (d : Deed) (past : List Deed) : Type 0 where
    pub reply_is : d.reply ≡ reply.Ended
    pub log_is : log_given shape (d ∷ past) ≡ log_given shape past
    pub registers : Registers
    pub sync : Sync
    pub known : HasSyncs past (log_given shape past) registers
    pub in_register : register_at c w registers ≡ Some (Some sync)
    pub of_basis : sync.flight.basis ≡ basis
    pub leaves : Leaves (log_given shape past) sync.flight job
    pub freed : register w (notes shape c (d ∷ past) (log_given shape (d ∷ past))) ≡ None

  pub data After (d : Deed) (past : List Deed) : Type 0 where
    Further : IsUnderWay (d ∷ past) → After d past
    Over : HasEnded d past → After d past

  module _ (d : Deed) (past : List Deed) (legal : IsLegal shape past) (next : IsLegalNext shape past d) (act : d.act ≡ does.Step c w) (stays : Stored (log_given shape (d ∷ past))) (h : IsUnderWay past) where
    abbrev log : List Entry
    log = log_given shape past

    abbrev now : ℕ
    now = moment shape past

    abbrev old : List Note
    old = notes shape c past (log_given shape past)

    flies : Flies log h.sync.flight
    flies = fly (around c w h.registers (Some h.sync) h.in_register)
      where
        one : (front back : List Flight) → Each (Flies log) (front ++ h.sync.flight ∷ back) → Flies log h.sync.flight
        one [] back e = e.0
        one (x ∷ front) back e = one front back e.1

        fly : Around (flights_of_all h.registers) (λ new. flights_of_all (put_at c w new h.registers)) (Some h.sync) → Flies log h.sync.flight
        fly a = one a.front a.back (subst (λ l. Each (Flies log) l) a.is h.known.tied.flying)

    stored : Stored log
    stored = Stored-from_legal log h.known.tied.legal

    mine : IsRegister c w past h.sync
    mine = h.known.each c w h.sync h.in_register

    saw-it : h.sync.flight.basis.job ≡ Some job
    saw-it = ap (λ (b : Basis). b.job) h.of_basis ∙ saw

    -- What the table of events gives.
    gives-is : gives shape past log d.act ≡ step_done (stepped now None log h.sync)
    unfolding gives
    gives-is =
        ap (gives shape past log) act
        ∙ (λ i. step_gives log now (h.made_is i) (h.no_fault i) (h.register_is i))
        ∙ ap (λ b. step_done (stepped now None log (so_far b (steps_of c w past)))) (sym h.of_basis)
        ∙ steps-same log now None h.sync (steps_of c w past) mine.sends (reads_next (planned h.sync.flight.basis) (steps_of c w past) h.sync.left mine.reads)

    module _ (ask : Ask) (left : List Ask) (e : h.sync.left ≡ ask ∷ left) where
      flight : Flight
      flight = h.sync.flight

      abbrev sync-now : Sync
      sync-now = record { flight = h.sync.flight; left = ask ∷ left }

      in-register : register_at c w h.registers ≡ Some (Some sync-now)
      in-register = h.in_register ∙ (λ i. Some (Some (record { flight = h.sync.flight; left = e i })))

      current-now : IsUndisturbed log h.sync.flight job (ask ∷ left)
      current-now = subst (IsUndisturbed log h.sync.flight job) e h.current

      abbrev a : Answered
      a = answered_to log now h.sync.flight ask

      abbrev given : Answer
      given = as_answer (answered_to log now h.sync.flight ask).reply

      table : gives shape past log d.act ≡ record { reply = reply.Stepped (as_request ask) given; entry = a.entry }
      table = gives-is ∙ ap (λ l. step_done (stepped_at now None log h.sync.flight l)) e

      reply-now : d.reply ≡ reply.Stepped (as_request ask) given
      reply-now = next.reply ∙ ap (λ (x : Answered). x.reply) table

      log-now : log_given shape (d ∷ past) ≡ grown log a.entry
      unfolding log_given
      log-now = ap (λ (x : Answered). grown log x.entry) table

      known-next : HasSyncs (d ∷ past) (grown log a.entry) (put_at c w (register_of (stepped now None log sync-now).next) h.registers)
      known-next = step_syncs d past log h.registers c w now None sync-now h.known in-register act reply-now (next.length ∙ ap length log-now) (subst Stored log-now stays)

      abbrev sync-next : Sync
      sync-next = record { flight = flight_after ask given h.sync.flight; left = asks_after ask given left }

      goes : GoesOnTo (next_unless (end_given ask given) sync-next) (λ s. IsUndisturbed (grown log a.entry) s.flight job s.left)
      goes = quiet_goes log now h.sync.flight job stored flies saw-it ask left current-now

      not-ended : end_given ask given ≡ None
      not-ended = by (end_given ask given) goes
        where
          by : (o : Option SyncEnd) → GoesOnTo (next_unless o sync-next) (λ s. IsUndisturbed (grown log a.entry) s.flight job s.left) → o ≡ None
          by None g = refl
          by (Some end) g = absurd g

      notes-now : notes shape c (d ∷ past) (log_given shape (d ∷ past)) ≡ Asked w basis (as_request ask) given ∷ old
      notes-now =
          notes-next shape c past d legal
          ∙ (λ i. cond (restarts c (act i)) [] (notes_taken c (act i) (reply-now i) now (log_given shape (d ∷ past)) old ++ old))
          ∙ (λ i. cond (eq-eqb c c refl i) (on_step w now (h.register_is i) (reply.Stepped (as_request ask) given)) [] ++ old)
          ∙ ap (λ o. (option_to_list (option_map (λ end. Ended w basis end now) o) ++ Asked w basis (as_request ask) given ∷ []) ++ old) (same_end ask given (store_answers log now h.sync.flight ask) ∙ not-ended)

      steps-now : steps_of c w (d ∷ past) ≡ (as_request ask, given) ∷ steps_of c w past
      steps-now =
          (λ i. cond (is_some (cond (is_begin c w (act i)) (began_of d.reply) None)) [] (with_step (step_told c w d) (steps_of c w past)))
          ∙ (λ i. with_step (cond (is_step c w (act i)) (told_step (reply-now i)) None) (steps_of c w past))
          ∙ (λ i. with_step (cond (eq-eqb c c refl i && eq-eqb w w refl i) (Some (as_request ask, given)) None) (steps_of c w past))

      further : IsUnderWay (d ∷ past)
      further = record {
        registers = put_at c w (Some sync-next) h.registers;
        sync = sync-next;
        known =
            subst (λ log. HasSyncs (d ∷ past) log (put_at c w (Some sync-next) h.registers)) (sym log-now)
            (subst (λ o. HasSyncs (d ∷ past) (grown log a.entry) (put_at c w (register_of (next_unless o sync-next)) h.registers)) not-ended known-next);
        in_register = put-same c w (Some sync-now) (Some sync-next) h.registers in-register;
        of_basis = after-basis ask given h.sync.flight ∙ h.of_basis;
        register_is = ap (register w) notes-now ∙ h.register_is;
        no_fault = ap (pending w) notes-now ∙ h.no_fault;
        made_is =
            ap (made w) notes-now
            ∙ (λ i. with_step (cond (eq-eqb w w refl i) (Some (as_request ask, given)) None) (h.made_is i))
            ∙ sym steps-now;
        current =
            subst (λ log. IsUndisturbed log (flight_after ask given h.sync.flight) job (asks_after ask given left)) (sym log-now)
            (subst (λ o. GoesOnTo (next_unless o sync-next) (λ s. IsUndisturbed (grown log a.entry) s.flight job s.left)) not-ended goes);
      }

    -- Nothing is left to ask.
    module _ (e : h.sync.left ≡ []) where
      table-end : gives shape past log d.act ≡ refused reply.Ended
      table-end = gives-is ∙ ap (λ l. step_done (stepped_at now None log h.sync.flight l)) e

      reply-end : d.reply ≡ reply.Ended
      reply-end = next.reply ∙ ap (λ (x : Answered). x.reply) table-end

      ended : HasEnded d past
      unfolding log_given
      ended = record {
        reply_is = reply-end;
        log_is = ap (λ (x : Answered). grown log x.entry) table-end;
        registers = h.registers;
        sync = h.sync;
        known = h.known;
        in_register = h.in_register;
        of_basis = h.of_basis;
        leaves = quiet_ends log now h.sync.flight job stored flies saw-it (subst (IsUndisturbed log h.sync.flight job) e h.current);
        freed =
            ap (register w)
            (notes-next shape c past d legal
            ∙ (λ i. cond (restarts c (act i)) [] (notes_taken c (act i) (reply-end i) now (log_given shape (d ∷ past)) old ++ old))
            ∙ (λ i. cond (eq-eqb c c refl i) (on_step w now (h.register_is i) reply.Ended) [] ++ old))
            ∙ ap (λ b. unwrap_or (option_or (cond b (Some None) None) (newest (register_told w) old)) None) (eq-eqb w w refl);
      }

    pub one-step : After d past
    one-step = by h.sync.left refl
      where
        by : (left : List Ask) → h.sync.left ≡ left → After d past
        by [] e = Over (ended e)
        by (ask ∷ left) e = Further (further ask left e)

  -- All steps up to the last.
  abbrev pub RunEnded : List Deed → List Deed → Type 0
  RunEnded [] past = ⊥
  RunEnded (d ∷ run) past = HasEnded d (run ++ past)

  abbrev pub Runs : List Deed → List Deed → Type 0
  Runs run past = IsUnderWay (run ++ past) ⊎ RunEnded run past

  pub stored-before : (d : Deed) (past : List Deed) → Stored (log_given shape (d ∷ past)) → Stored (log_given shape past)
  unfolding log_given
  stored-before d past s = by (gives shape past (log_given shape past) d.act).entry s
    where
      by : (o : Option Entry) → Stored (grown (log_given shape past) o) → Stored (log_given shape past)
      by None s = s
      by (Some e) s = s.1

  pub all-steps : (run past : List Deed) → IsLegal shape (run ++ past) → AreSteps shape c w run past → Stored (log_given shape (run ++ past)) → IsUnderWay past → Runs run past
  all-steps [] past legal steps stays h = inl h
  all-steps (d ∷ run) past legal steps stays h = by run steps legal.1 legal.0 stays (all-steps run past legal.1 steps.2 (stored-before d (run ++ past) stays) h)
    where
      on : (run : List Deed) → After d (run ++ past) → Runs (d ∷ run) past
      on run (Further u) = inl u
      on run (Over e) = inr e

      by : (run : List Deed) → AreSteps shape c w (d ∷ run) past → IsLegal shape (run ++ past) → IsLegalNext shape (run ++ past) d → Stored (log_given shape (d ∷ run ++ past)) → Runs run past → Runs (d ∷ run) past
      by run steps legal next stays (inl u) = on run (one-step d (run ++ past) legal next steps.0 stays u)
      by [] steps legal next stays (inr e) = absurd e
      by (last ∷ more) steps legal next stays (inr e) = absurd (true≢false (sym steps.1 ∙ ap is_some e.freed))

  -- The step that frees the register is answered Ended.
  pub last-step : (d : Deed) (run past : List Deed) → Runs (d ∷ run) past → register w (notes shape c (d ∷ run ++ past) (log_given shape (d ∷ run ++ past))) ≡ None → HasEnded d (run ++ past)
  last-step d run past (inl u) free = absurd (true≢false (sym (ap is_some u.register_is) ∙ ap is_some free))
  last-step d run past (inr e) free = e
