-- A step of such a sync: its request is granted, and it goes on with what finds what it asks for.
use Rattle.std.proofs.Common.{◌≡◌, ℕ, ◌+◌, ◌<◌, Bool, ◌||◌, true, false, cond, List, [], ◌∷◌, ◌++◌, length, Option, Some, None, is_some, refl, sym, ap, ◌∙◌, subst, arith, eq-eqb, true≢false}
use Rattle.std.specs.Option.{option_map, option_or, option_to_list, unwrap_or}
use Rattle.jc_types.specs.declared.actions.Fault.{Fault}
use Rattle.jc_types.specs.declared.actions.Fault.TheVariants.{Drop, Lose}
use Rattle.jc_types.specs.declared.numbers.Uid.{Uid}
use Rattle.jc_types.specs.declared.objects.Entry.{Entry}
use Rattle.jc_types.specs.declared.objects.Job.{Job}
use Rattle.jc_types.specs.declared.replies.Answer.{Answer}
use Rattle.jc_types.specs.declared.replies.Answer.TheVariants as answer
use Rattle.jc_types.specs.declared.replies.Reply.{Reply}
use Rattle.jc_types.specs.declared.replies.Reply.TheVariants as reply
use Rattle.jc_types.specs.declared.replies.Request.{Request}
use Rattle.jc_types.specs.declared.replies.Request.TheVariants as request
use Rattle.jc_types.specs.declared.runs.Shape.{Shape}
use Rattle.jc_states.specs.UidLists.{is_in}
use Rattle.jc_states.specs.declared.bases.Basis.{Basis}
use Rattle.jc_types.proofs.KeyFacts.{same_uid-eq}
use Rattle.jc_types.specs.Keys.{same_uid}
use Rattle.jc_log.specs.Acts as does
use Rattle.jc_log.specs.Log.{is_lost, life}
use Rattle.jc_ledger.proofs.QuietFacts.{IfSome-at}
use Rattle.jc_plan.specs.Plans.{planned}
use Rattle.jc_plan.specs.Statuses.{second_value}
use Rattle.std.specs.List.{AllByRecursion as Each}
use Rattle.jc_log.specs.Deeds.{Deed}
use Rattle.jc_log.specs.Requests.{grown}
use Rattle.jc_log.specs.Writes.{Stored}
use Rattle.jc_log.proofs.WriteFacts.{Stored-from_legal}
use Rattle.jc_history.specs.Diaries.{end_by, moment, notes, notes_taken, on_step, restarts}
use Rattle.jc_history.specs.Legal.{IsLegal, IsLegalNext}
use Rattle.jc_history.specs.Notes.{Note, Asked, Ended, newest}
use Rattle.jc_history.specs.Registers.{asks_status, pending, register, register_told}
use Rattle.jc_history.specs.Replies.{diary, log_given}
use Rattle.jc_history.proofs.LegalFacts.{notes-next}
use Rattle.jc_sync.specs.Ask.{Ask}
use Rattle.jc_sync.specs.Asks.{as_request}
use Rattle.jc_sync.specs.SyncPlaces.{IfGoesOn, IsAt}
use Rattle.jc_sync.specs.Quiet.{EndedAreLost, GoesOnTo, HasNext, Leaves}
use Rattle.jc_sync.specs.AllRegisters.{HasSyncs, flights_of_all, put_at, register_at, register_of}
use Rattle.jc_sync.specs.Steps.{Ends, GoesOn, Next, Sync, answered_to, as_answer, stepped_at}
use Rattle.jc_sync.proofs.ReachFacts.{ended_all, has_next}
use Rattle.jc_sync.proofs.RegisterFacts.{step_basis, step_syncs}
use Rattle.jc_runs.specs.Teams.{registers_of}
use Rattle.jc_runs.proofs.LegalRuns.{Given, Machine, given}
use Rattle.jc_runs.proofs.QuietSteps.{put-same}
use Rattle.jc_runs.proofs.StepRuns.{step_gives-at}
use Rattle.jc_granted.specs.SyncsDone.{HasItsPlan, HasStatus, IsDoing}
use Rattle.jc_granted.specs.Granted.{Granted, IsGranted, NoneLeft, grants}
use Rattle.jc_granted.specs.Ready.{AreReady, Grants}
use Rattle.jc_granted.proofs.DoingFacts.{done-all, step-doing}
use Rattle.jc_granted.proofs.GrantFacts.{is-granted, stays-ready}
use Rattle.jc_granted.proofs.UnderWay.{IsGoing, IsUnderWay, going-doing, going-ready, under-way}

-- What holds of each holds of one that is in the list.
pub of-each : (P : Uid → Type 0) (u : Uid) (us : List Uid) → Each P us → is_in u us ≡ true → P u
of-each P u [] all h = absurd (true≢false (sym h))
of-each P u (v ∷ us) all h = by (of-each P u us all.1) (same_uid v u) refl h
  where
    by : (is_in u us ≡ true → P u) → (b : Bool) → same_uid v u ≡ b → (b || is_in u us) ≡ true → P u
    by more true s g = subst P (same_uid-eq v u s) all.0
    by more false s g = more g

-- ---- what a step leaves of its register

-- An answer that grants a request ends no sync.
no-end-by : (asked : Request) (given : Answer) → grants asked given ≡ true → end_by (asks_status asked) given ≡ None
no-end-by (request.CreatePod index) (answer.Created u version) h = refl
no-end-by (request.CreatePod index) other h = absurd (true≢false (sym h))
no-end-by (request.MarkPod u) (answer.Written version) h = refl
no-end-by (request.MarkPod u) other h = absurd (true≢false (sym h))
no-end-by (request.LetGo u) (answer.Released version) h = refl
no-end-by (request.LetGo u) other h = absurd (true≢false (sym h))
no-end-by request.Status (answer.Written version) h = refl
no-end-by request.Status other h = absurd (true≢false (sym h))
no-end-by (request.Release u) (answer.Released version) h = refl
no-end-by (request.Release u) other h = absurd (true≢false (sym h))

module _ (shape : Shape) (past : List Deed) (d : Deed) (before : IsLegal shape past) (c w : ℕ) (basis : Basis) (act : d.act ≡ does.Step c w) (begun : register w (diary shape c past) ≡ Some basis) where
  -- What the controller notes of the step.
  notes-are : (r : Reply) → d.reply ≡ r → diary shape c (d ∷ past) ≡ on_step w (moment shape past) (Some basis) r ++ diary shape c past
  notes-are r told =
      notes-next shape c past d before
      ∙ (λ i. cond (restarts c (act i)) [] (notes_taken c (act i) (told i) (moment shape past) (log_given shape (d ∷ past)) (diary shape c past) ++ diary shape c past))
      ∙ (λ i. cond (eq-eqb c c refl i) (on_step w (moment shape past) (begun i) r) [] ++ diary shape c past)

  -- An end frees it.
  pub end-frees : d.reply ≡ reply.Ended → register w (diary shape c (d ∷ past)) ≡ None
  end-frees told =
      ap (register w) (notes-are reply.Ended told)
      ∙ ap (λ b. unwrap_or (option_or (cond b (Some None) None) (newest (register_told w) (diary shape c past))) None) (eq-eqb w w refl)

  -- A request that is granted leaves it.
  pub grant-keeps : (asked : Request) (given : Answer) → d.reply ≡ reply.Stepped asked given → grants asked given ≡ true → register w (diary shape c (d ∷ past)) ≡ Some basis
  grant-keeps asked given told granted =
      ap (register w) (notes-are (reply.Stepped asked given) told)
      ∙ ap (λ o. register w ((option_to_list (option_map (λ end. Ended w basis end (moment shape past)) o) ++ Asked w basis asked given ∷ []) ++ diary shape c past)) (no-end-by asked given granted)
      ∙ begun

-- ---- a step

module _ (shape : Shape) (past : List Deed) (d : Deed) (before : IsLegal shape past) (legal : IsLegalNext shape past d) (m : Machine shape past) (c w : ℕ) (basis : Basis) (act : d.act ≡ does.Step c w)
    (lt : c < shape.controllers) (less : w < shape.workers) (begun : register w (diary shape c past) ≡ Some basis) (h : IsGoing shape c w basis past) where
  its : IsUnderWay shape past m c w basis
  its = under-way shape past m c w basis lt less begun

  stored : Stored m.log
  stored = Stored-from_legal m.log m.run.syncs.tied.legal

  gave : (left : List Ask) → its.sync.left ≡ left → (fault : Option Fault) → its.fault ≡ fault
      → Given shape past d legal m (record { reply = (stepped_at m.now fault m.log its.sync.flight left).reply; entry = (stepped_at m.now fault m.log its.sync.flight left).entry })
  gave left is fault fault-is =
      given shape past d legal m (does.Step c w) (record { reply = (stepped_at m.now fault m.log its.sync.flight left).reply; entry = (stepped_at m.now fault m.log its.sync.flight left).entry }) act
      (step_gives-at shape past m.log m.teams m.fates m.now m.run c its.team its.there w its.fault its.fault_is (Some its.sync) its.mine
      ∙ (λ i. record { reply = (stepped_at m.now (fault-is i) m.log its.sync.flight (is i)).reply; entry = (stepped_at m.now (fault-is i) m.log its.sync.flight (is i)).entry }))

  ready : (left : List Ask) → its.sync.left ≡ left → AreReady m.log its.sync.flight left
  ready left is = subst (λ l. AreReady m.log its.sync.flight l) is (subst (λ log. AreReady log its.sync.flight its.sync.left) (sym m.run.log_is) (going-ready shape c w basis past its.sync its.of_basis its.known h))

  doing : (left : List Ask) → its.sync.left ≡ left → IsDoing m.log its.sync.flight.basis left
  doing left is = subst (λ l. IsDoing m.log its.sync.flight.basis l) is (subst (λ log. IsDoing log its.sync.flight.basis its.sync.left) (sym m.run.log_is) (going-doing shape c w basis past its.sync its.of_basis its.known h))

  longer : (log new : List Entry) (o : Option Entry) → is_some o ≡ true → new ≡ grown log o → length new ≡ length log + 1
  longer log new None some e = absurd (true≢false (sym some))
  longer log new (Some entry) some e = let same = ap (λ (l : List Entry). length l) e in omega (arith, same)

  -- ---- without a fault the request is granted

  module _ (fine : its.fault ≡ None) where
    at-ask : (ask : Ask) (left : List Ask) → its.sync.left ≡ ask ∷ left → IsGranted shape past d
    at-ask ask left is =
        Granted (as_request ask) (as_answer (answered_to m.log m.now its.sync.flight ask).reply) g.told grants.granted
        (longer (log_given shape past) (log_given shape (d ∷ past)) (answered_to m.log m.now its.sync.flight ask).entry grants.appends
        (g.grew ∙ ap (λ log. grown log (answered_to m.log m.now its.sync.flight ask).entry) m.run.log_is))
      where
        g : Given shape past d legal m (record { reply = (stepped_at m.now None m.log its.sync.flight (ask ∷ left)).reply; entry = (stepped_at m.now None m.log its.sync.flight (ask ∷ left)).entry })
        g = gave (ask ∷ left) is None fine

        grants : Grants (as_request ask) (answered_to m.log m.now its.sync.flight ask)
        grants = is-granted m.log m.now its.sync.flight stored its.flies ask left (subst (IsAt its.sync.flight) is its.known.at) (ready (ask ∷ left) is)

    granted : IsGranted shape past d
    granted = by its.sync.left refl
      where
        by : (left : List Ask) → its.sync.left ≡ left → IsGranted shape past d
        by [] is = NoneLeft (gave [] is None fine).told
        by (ask ∷ left) is = at-ask ask left is

  pub step-granted : pending w (diary shape c past) ≡ None → IsGranted shape past d
  step-granted none = granted (sym ((m.run.each c its.team its.there).workers.faults w its.fault its.fault_is) ∙ ap (λ log. pending w (notes shape c past log)) m.run.log_is ∙ none)

  -- ---- where it ends all is done

  abbrev is_ended : Reply → Bool
  is_ended reply.Ended = true
  is_ended other = false

  plan-done : d.reply ≡ reply.Ended → HasItsPlan m.log its.sync.flight.basis
  plan-done ended = by its.sync.left refl its.fault refl
    where
      told-else : (r : Reply) → is_ended r ≡ false → d.reply ≡ r → ⊥
      told-else r not told = true≢false (sym (ap is_ended ended) ∙ ap is_ended told ∙ not)

      by : (left : List Ask) → its.sync.left ≡ left → (fault : Option Fault) → its.fault ≡ fault → HasItsPlan m.log its.sync.flight.basis
      by [] is fault fault-is = done-all m.log its.sync.flight.basis (doing [] is)
      by (ask ∷ left) is None fault-is = absurd (told-else _ refl (gave (ask ∷ left) is None fault-is).told)
      by (ask ∷ left) is (Some Drop) fault-is = absurd (told-else _ refl (gave (ask ∷ left) is (Some Drop) fault-is).told)
      by (ask ∷ left) is (Some Lose) fault-is = absurd (told-else _ refl (gave (ask ∷ left) is (Some Lose) fault-is).told)

  pub step-ended : d.reply ≡ reply.Ended → HasItsPlan (log_given shape past) basis
  step-ended ended = subst (λ b. HasItsPlan (log_given shape past) b) its.of_basis (subst (λ log. HasItsPlan log its.sync.flight.basis) m.run.log_is (plan-done ended))

  -- So the Job has its next status, and what had ended is lost.
  module _ (ended : d.reply ≡ reply.Ended) (job : Job) (saw : basis.job ≡ Some job) where
    saw-it : its.sync.flight.basis.job ≡ Some job
    saw-it = ap (λ (b : Basis). b.job) its.of_basis ∙ saw

    leaves : Leaves m.log its.sync.flight job
    leaves =
        let p = plan-done ended in
        let s = IfSome-at its.sync.flight.basis.job (λ j. HasStatus m.log its.sync.flight.basis j (second_value j its.sync.flight.basis)) job saw-it p.status in
        record {
          current = s.current;
          there = s.there;
          uid = s.uid;
          status = s.status;
          released = λ u h. of-each (λ v. is_lost (life v m.log) ≡ true) u (planned its.sync.flight.basis).releases p.releases h;
        }

    pub step-next : HasNext (log_given shape past) basis job
    step-next =
        subst (λ b. HasNext (log_given shape past) b job) its.of_basis (subst (λ log. HasNext log its.sync.flight.basis job) m.run.log_is
        (has_next past m.log (flights_of_all (registers_of m.teams)) its.sync.flight job m.run.syncs.tied its.flies saw-it leaves))

    pub step-lost : EndedAreLost (log_given shape past) basis job
    step-lost =
        subst (λ b. EndedAreLost (log_given shape past) b job) its.of_basis (subst (λ log. EndedAreLost log its.sync.flight.basis job) m.run.log_is
        (ended_all past m.log (flights_of_all (registers_of m.teams)) its.sync.flight job m.run.syncs.tied its.flies saw-it leaves))

  -- ---- where the sync is still under way it goes on so

  module _ (still : register w (diary shape c (d ∷ past)) ≡ Some basis) (stays : Stored (log_given shape (d ∷ past))) where
    -- An end frees the register.
    not-free : is_some (register w (diary shape c (d ∷ past))) ≡ false → ⊥
    not-free free = true≢false (sym (ap is_some still) ∙ free)

    no-end : d.reply ≡ reply.Ended → ⊥
    no-end told = not-free (ap is_some (end-frees shape past d before c w basis act begun told))

    no-fault : (ask : Ask) → d.reply ≡ reply.Stepped (as_request ask) answer.Unavailable → ⊥
    no-fault ask told = by (asks_status (as_request ask)) (ap (λ some. is_some (register w some)) (notes-are shape past d before c w basis act begun (reply.Stepped (as_request ask) answer.Unavailable) told))
      where
        behind : List Note
        behind = Asked w basis (as_request ask) answer.Unavailable ∷ diary shape c past

        by : (b : Bool)
            → is_some (register w (diary shape c (d ∷ past)))
            ≡ is_some (register w ((option_to_list (option_map (λ end. Ended w basis end (moment shape past)) (end_by b answer.Unavailable)) ++ Asked w basis (as_request ask) answer.Unavailable ∷ []) ++ diary shape c past)) → ⊥
        by true e = not-free (e ∙ ap (λ b. is_some (unwrap_or (option_or (cond b (Some None) None) (newest (register_told w) behind)) None)) (eq-eqb w w refl))
        by false e = not-free (e ∙ ap (λ b. is_some (unwrap_or (option_or (cond b (Some None) None) (newest (register_told w) behind)) None)) (eq-eqb w w refl))

    goes-to : (entry : Option Entry) (next : Next) → log_given shape (d ∷ past) ≡ grown m.log entry
        → GoesOnTo next (λ s. AreReady (grown m.log entry) s.flight s.left)
        → IfGoesOn next (λ s. s.flight.basis ≡ its.sync.flight.basis)
        → IfGoesOn next (λ s. IsDoing (grown m.log entry) s.flight.basis s.left)
        → HasSyncs (d ∷ past) (grown m.log entry) (put_at c w (register_of next) (registers_of m.teams)) → IsGoing shape c w basis (d ∷ past)
    goes-to entry (Ends end) grew ready same doing has = absurd ready
    goes-to entry (GoesOn s) grew ready same doing has =
        let known = has.each c w s (put-same c w (Some its.sync) (Some s) (registers_of m.teams) its.in_register) in
        record {
          sync = s;
          of_basis = same ∙ its.of_basis;
          reads = known.reads;
          sends = known.sends;
          ready = subst (λ log. AreReady log s.flight s.left) (sym grew) ready;
          doing = subst (λ log. IsDoing log s.flight.basis s.left) (sym grew) doing;
        }

    pub further : IsGoing shape c w basis (d ∷ past)
    further = by its.sync.left refl its.fault refl
      where
        by : (left : List Ask) → its.sync.left ≡ left → (fault : Option Fault) → its.fault ≡ fault → IsGoing shape c w basis (d ∷ past)
        by [] is fault fault-is = absurd (no-end (gave [] is fault fault-is).told)
        by (ask ∷ left) is (Some Drop) fault-is = absurd (no-fault ask (gave (ask ∷ left) is (Some Drop) fault-is).told)
        by (ask ∷ left) is (Some Lose) fault-is = absurd (no-fault ask (gave (ask ∷ left) is (Some Lose) fault-is).told)
        by (ask ∷ left) is None fault-is =
            goes-to (stepped_at m.now None m.log its.sync.flight (ask ∷ left)).entry (stepped_at m.now None m.log its.sync.flight (ask ∷ left)).next g.grew
            (stays-ready m.log m.now its.sync.flight stored its.flies ask left (subst (IsAt its.sync.flight) is its.known.at) (ready (ask ∷ left) is))
            (step_basis m.now None m.log its.sync.flight (ask ∷ left))
            (step-doing m.log m.now its.sync.flight stored its.flies ask left (subst (IsAt its.sync.flight) is its.known.at) (ready (ask ∷ left) is) its.flies.basis.pods_at (subst Stored g.grew stays) (doing (ask ∷ left) is))
            (step_syncs d past m.log (registers_of m.teams) c w m.now None sync-now m.run.syncs in-register act g.told g.long (subst Stored g.grew stays))
          where
            g : Given shape past d legal m (record { reply = (stepped_at m.now None m.log its.sync.flight (ask ∷ left)).reply; entry = (stepped_at m.now None m.log its.sync.flight (ask ∷ left)).entry })
            g = gave (ask ∷ left) is None fault-is

            sync-now : Sync
            sync-now = record { flight = its.sync.flight; left = ask ∷ left }

            in-register : register_at c w (registers_of m.teams) ≡ Some (Some (record { flight = its.sync.flight; left = ask ∷ left }))
            in-register = its.in_register ∙ (λ i. Some (Some (record { flight = its.sync.flight; left = is i })))
