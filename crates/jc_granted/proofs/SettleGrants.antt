-- Along a settle: a sync that began in it has requests left that find what they ask for.
use Rattle.std.proofs.Common.{◌≡◌, ◌⊎◌, inl, inr, ℕ, ◌-◌, ◌<◌, ◌&&◌, false, cond, List, [], ◌∷◌, ◌++◌, length, Some, None, is_some, refl, sym, ap, ◌∙◌, subst, arith, eq-eqb, true≢false}
use Rattle.std.proofs.lemmas.Option.{none-some as none_some}
use Rattle.jc_types.specs.declared.actions.SpecChange.{SpecChange}
use Rattle.jc_types.specs.declared.objects.Entry.{Entry}
use Rattle.jc_types.specs.declared.objects.Job.{Job}
use Rattle.jc_types.specs.declared.objects.KeyNames.{KeyNames as Key}
use Rattle.jc_types.specs.declared.objects.Kind.{Kind}
use Rattle.jc_types.specs.declared.numbers.Version.{Version}
use Rattle.jc_types.specs.declared.replies.Reply.TheVariants as reply
use Rattle.jc_types.specs.declared.runs.Event.TheVariants as event
use Rattle.jc_types.specs.declared.runs.Shape.{Shape}
use Rattle.jc_types.specs.declared.runs.Sys.{Sys}
use Rattle.jc_types.specs.declared.runs.Sys.TheVariants as sys
use Rattle.jc_types.specs.declared.specifications.JobSpec.{JobSpec}
use Rattle.jc_types.specs.ValidSpecs.{IsValidSpec}
use Rattle.jc_states.specs.declared.bases.Basis.{Basis}
use Rattle.jc_log.specs.Acts as does
use Rattle.jc_log.specs.Deeds.{Deed, act_of_system}
use Rattle.jc_log.specs.Requests.{changed_spec, update_refusal}
use Rattle.jc_log.specs.Writes.{Stored}
use Rattle.jc_log.proofs.WriteFacts.{Stored-from_legal}
use Rattle.jc_history.specs.Available.{available}
use Rattle.jc_history.specs.Diaries.{moment}
use Rattle.jc_history.specs.Fresh.{basis as basis_of}
use Rattle.jc_history.specs.Legal.{IsLegal, IsLegalNext, IsOfShape}
use Rattle.jc_history.specs.Lines.{line}
use Rattle.jc_history.specs.Play.{first_event}
use Rattle.jc_history.specs.Registers.{pending, register}
use Rattle.jc_history.specs.Replies.{AppendsNothing, diary, log_given}
use Rattle.jc_ledger.specs.Syncs.{began_of, is_begin}
use Rattle.jc_plan.specs.Plans.{planned}
use Rattle.jc_sync.specs.Asks.{asks_of}
use Rattle.jc_sync.specs.Quiet.{EndedAreLost, HasNext}
use Rattle.jc_sync.specs.Readings.{is_step, step_told, steps_of, told_step, with_step}
use Rattle.jc_sync.specs.Leftovers.{IsLeftBy}
use Rattle.jc_sync.specs.AllRegisters.{flights_of_all}
use Rattle.jc_sync.specs.Sends.{sends_of, sent_first}
use Rattle.jc_sync.proofs.ReadFacts.{reads_begun}
use Rattle.jc_runs.specs.Machines.{AllAskValid}
use Rattle.jc_runs.specs.Teams.{registers_of}
use Rattle.jc_runs.proofs.LegalRuns.{Machine, legal_run}
use Rattle.jc_settle.specs.Comes.{AreUpToDate, Comes, NoSyncIsUnderWay, Lists, Delivers, Steps, Begins, Acts, Ticks}
use Rattle.jc_settle.specs.Serial.{IsOldOrAlone, IsSettling, NoneBegan, RunsAlone, is_begin_of_any}
use Rattle.jc_settle.proofs.ComesFacts.{first-comes}
use Rattle.jc_settle.proofs.SerialFacts.{begun-nothing, first-of-act, listed-nothing, only, register-kept, reply-is, serial, told-nothing}
use Rattle.jc_granted.specs.SyncsDone.{HasItsPlan, IsDoing}
use Rattle.jc_granted.specs.Granted.{IsGranted}
use Rattle.jc_granted.specs.Ready.{AreReady}
use Rattle.jc_granted.proofs.DoingFacts.{doing-all}
use Rattle.jc_granted.proofs.SawFacts.{job-there, saw-ready}
use Rattle.jc_granted.proofs.StepGrants.{further, step-ended, step-granted, step-lost, step-next}
use Rattle.jc_granted.proofs.UnderWay.{IsGoing, IsUnderWay, left-told, under-way}

abbrev Stay : Type 0
Stay = (spec : JobSpec) (change : SpecChange) → IsValidSpec spec → update_refusal spec change ≡ None → IsValidSpec (changed_spec spec change)

stored-at : Stay → (shape : Shape) (deeds : List Deed) → IsLegal shape deeds → AllAskValid deeds → Stored (log_given shape deeds)
stored-at stay shape deeds legal valid = let m = legal_run stay shape deeds legal valid in subst Stored m.run.log_is (Stored-from_legal m.log m.run.syncs.tied.legal)

-- ---- the steps since the begin

steps-listed : (c w : ℕ) (d : Deed) (past : List Deed) (e : ℕ) (kind : Kind) → d.act ≡ does.List e kind → steps_of c w (d ∷ past) ≡ steps_of c w past
steps-listed c w d past e kind a = λ i.
    cond (is_some (cond (is_begin c w (a i)) (began_of d.reply) None)) [] (with_step (cond (is_step c w (a i)) (told_step d.reply) None) (steps_of c w past))

steps-told : (c w : ℕ) (d : Deed) (past : List Deed) (e : ℕ) (kind : Kind) → d.act ≡ does.Deliver e kind → steps_of c w (d ∷ past) ≡ steps_of c w past
steps-told c w d past e kind a = λ i.
    cond (is_some (cond (is_begin c w (a i)) (began_of d.reply) None)) [] (with_step (cond (is_step c w (a i)) (told_step d.reply) None) (steps_of c w past))

steps-begun : (c w : ℕ) (d : Deed) (past : List Deed) (k : Key) (j p : Version) → d.act ≡ does.Begin c w → d.reply ≡ reply.Begun k j p → steps_of c w (d ∷ past) ≡ []
steps-begun c w d past k j p a r =
    (λ i. cond (is_some (cond (is_begin c w (a i)) (began_of (r i)) None)) [] (with_step (step_told c w d) (steps_of c w past)))
    ∙ (λ i. cond (is_some (cond (eq-eqb c c refl i && eq-eqb w w refl i) (began_of (reply.Begun k j p)) None)) [] (with_step (step_told c w d) (steps_of c w past)))

-- What appends nothing and is no step leaves the sync as it is.
going-still : (shape : Shape) (c w : ℕ) (basis : Basis) (d : Deed) (past : List Deed) → AppendsNothing shape past d → steps_of c w (d ∷ past) ≡ steps_of c w past → IsGoing shape c w basis past → IsGoing shape c w basis (d ∷ past)
going-still shape c w basis d past nothing same h = record {
  sync = h.sync;
  of_basis = h.of_basis;
  reads = subst (λ steps. IsLeftBy (planned h.sync.flight.basis) steps h.sync.left) (sym same) h.reads;
  sends = h.sends ∙ ap (sends_of h.sync.flight.basis) (sym same);
  ready = subst (λ log. AreReady log h.sync.flight h.sync.left) (sym nothing) h.ready;
  doing = subst (λ log. IsDoing log h.sync.flight.basis h.sync.left) (sym nothing) h.doing;
}

-- ---- a sync that has just begun on the whole log

module _ (shape : Shape) (c w : ℕ) (d : Deed) (past : List Deed) (m : Machine shape (d ∷ past)) (basis : Basis) (lt : c < shape.controllers) (less : w < shape.workers)
    (reg : register w (diary shape c (d ∷ past)) ≡ Some basis) (none : steps_of c w (d ∷ past) ≡ [])
    (jobs : basis.jobs_at.0 ≡ length (log_given shape (d ∷ past))) (pods : basis.pods_at.0 ≡ length (log_given shape (d ∷ past))) where
  its : IsUnderWay shape (d ∷ past) m c w basis
  its = under-way shape (d ∷ past) m c w basis lt less reg

  sent : its.sync.flight.sends ≡ sent_first its.sync.flight.basis.job
  sent = its.known.sends ∙ ap (sends_of its.sync.flight.basis) none

  begun-left : asks_of (planned its.sync.flight.basis) ≡ its.sync.left
  begun-left =
      sym (left-told (planned its.sync.flight.basis) [] (asks_of (planned its.sync.flight.basis)) (reads_begun (planned its.sync.flight.basis) its.known.once))
      ∙ left-told (planned its.sync.flight.basis) [] its.sync.left (subst (λ steps. IsLeftBy (planned its.sync.flight.basis) steps its.sync.left) none its.known.reads)

  jobs-then : its.sync.flight.basis.jobs_at.0 ≡ length m.log
  jobs-then = ap (λ (b : Basis). b.jobs_at.0) its.of_basis ∙ jobs ∙ ap (λ (l : List Entry). length l) (sym m.run.log_is)

  pods-then : its.sync.flight.basis.pods_at.0 ≡ length m.log
  pods-then = ap (λ (b : Basis). b.pods_at.0) its.of_basis ∙ pods ∙ ap (λ (l : List Entry). length l) (sym m.run.log_is)

  begun-going : IsGoing shape c w basis (d ∷ past)
  begun-going = record {
    sync = its.sync;
    of_basis = its.of_basis;
    reads = its.known.reads;
    sends = its.known.sends;
    ready =
        subst (λ log. AreReady log its.sync.flight its.sync.left) m.run.log_is (subst (λ l. AreReady m.log its.sync.flight l) begun-left
        (saw-ready (d ∷ past) m.log (flights_of_all (registers_of m.teams)) its.sync.flight m.run.syncs.tied its.flies
        jobs-then pods-then sent));
    doing =
        subst (λ log. IsDoing log its.sync.flight.basis its.sync.left) m.run.log_is (subst (λ l. IsDoing m.log its.sync.flight.basis l) begun-left
        (doing-all m.log its.sync.flight.basis (omega (arith, pods-then))
        (job-there (d ∷ past) m.log (flights_of_all (registers_of m.teams)) its.sync.flight m.run.syncs.tied its.flies jobs-then pods-then sent)));
  }

-- ---- along a settle

module _ (stay : Stay) (shape : Shape) (some : 0 < shape.workers) (past : List Deed) where
  -- A sync that is under way then went on from before the settle, or has requests left that find what they ask for.
  abbrev Going : List Deed → ℕ → ℕ → Basis → Type 0
  Going run c w basis = register w (diary shape c (run ++ past)) ≡ Some basis → NoneBegan run ⊎ IsGoing shape c w basis (run ++ past)

  pub going : (run : List Deed) → IsLegal shape (run ++ past) → AllAskValid (run ++ past) → IsSettling shape run past → (c w : ℕ) (basis : Basis) → c < shape.controllers → w < shape.workers
      → register w (diary shape c (run ++ past)) ≡ Some basis → NoneBegan run ⊎ IsGoing shape c w basis (run ++ past)
  going [] legal valid h c w basis lt less r = inl tt
  going (d ∷ run) legal valid h c w basis lt less r =
      by (λ kept. going run legal.1 valid.1 h.1 c w basis lt less kept) (first-of-act d.act (available shape (run ++ past) (log_given shape (run ++ past))) h.0)
    where
      act-is : (x y : Sys) → act_of_system x ≡ d.act → x ≡ y → d.act ≡ act_of_system y
      act-is x y a e = sym a ∙ ap act_of_system e

      kept : is_begin_of_any d.act ≡ false → register w (diary shape c (run ++ past)) ≡ Some basis
      kept n = register-kept shape c w d (run ++ past) basis legal.1 n r

      -- It wrote nothing.
      still : is_begin_of_any d.act ≡ false → AppendsNothing shape (run ++ past) d → steps_of c w (d ∷ run ++ past) ≡ steps_of c w (run ++ past) → NoneBegan run ⊎ IsGoing shape c w basis (run ++ past)
          → NoneBegan (d ∷ run) ⊎ IsGoing shape c w basis (d ∷ run ++ past)
      still n nothing same (inl none) = inl (n, none)
      still n nothing same (inr g) = inr (going-still shape c w basis d (run ++ past) nothing same g)

      -- It is the sync's step.
      stepped : is_begin_of_any d.act ≡ false → d.act ≡ does.Step c w → NoneBegan run ⊎ IsGoing shape c w basis (run ++ past) → NoneBegan (d ∷ run) ⊎ IsGoing shape c w basis (d ∷ run ++ past)
      stepped n a (inl none) = inl (n, none)
      stepped n a (inr g) = inr (further shape (run ++ past) d legal.1 legal.0 (legal_run stay shape (run ++ past) legal.1 valid.1) c w basis a lt less (kept n) g r (stored-at stay shape (d ∷ run ++ past) legal valid))

      -- A step is that of the sync that runs alone.
      steps : Going run c w basis → is_begin_of_any d.act ≡ false → (e v : ℕ) (begun : Basis) → e < shape.controllers
          → v < shape.workers → d.act ≡ does.Step e v → register v (diary shape e (run ++ past)) ≡ Some begun
          → IsOldOrAlone shape run past c w basis
          → NoneBegan (d ∷ run) ⊎ IsGoing shape c w basis (d ∷ run ++ past)
      steps before n e v begun lt' less' a reg (inl old) = inl (n, old.0)
      steps before n e v begun lt' less' a reg (inr it) =
          let same = it.alone e v lt' less' (ap is_some reg) in
          stepped n (a ∙ (λ i. does.Step (sym same.0 i) (sym same.1 i))) (before (kept n))

      never : is_begin_of_any d.act ≡ false → NoSyncIsUnderWay shape (run ++ past) (log_given shape (run ++ past)) → ⊥
      never n free = none_some basis (sym (free c lt w less) ∙ kept n)

      -- It is the begin of the sync.
      begins : (e v : ℕ) (k : Key) (rest : List Key) → AreUpToDate shape (run ++ past) (log_given shape (run ++ past)) → NoSyncIsUnderWay shape (run ++ past) (log_given shape (run ++ past)) → e < shape.controllers → v < shape.workers
          → d.act ≡ does.Begin e v → line (diary shape e (run ++ past)) ≡ k ∷ rest → IsGoing shape c w basis (d ∷ run ++ past)
      begins e v k rest up free lt' less' a first =
          begun-going shape c w d (run ++ past) (legal_run stay shape (d ∷ run ++ past) legal valid) basis lt less r
          (steps-begun c w d (run ++ past) k end end (a ∙ (λ i. does.Begin (it.0 i) (it.1 i))) (reply-is shape (run ++ past) legal.1 d legal.0 up free e v k rest lt' less' a first))
          (ap (λ (b : Basis). b.jobs_at.0) (sym it.2) ∙ ap (λ (l : List Entry). length l) (sym nothing))
          (ap (λ (b : Basis). b.pods_at.0) (sym it.2) ∙ ap (λ (l : List Entry). length l) (sym nothing))
        where
          end : Version
          end = record { 0 = length (log_given shape (run ++ past)) }

          nothing : AppendsNothing shape (run ++ past) d
          nothing = begun-nothing shape (run ++ past) d e v a (free e lt' v less')

          it : (e ≡ c) × (v ≡ w) × (basis_of (diary shape c (run ++ past)) (log_given shape (run ++ past)) (moment shape (run ++ past)) k end end ≡ basis)
          it = only shape (run ++ past) legal.1 d legal.0 up free e v k rest lt' less' a first c w basis lt less r

      case : Going run c w basis → (x : Sys) → act_of_system x ≡ d.act → Comes shape (run ++ past) (log_given shape (run ++ past)) x → NoneBegan (d ∷ run) ⊎ IsGoing shape c w basis (d ∷ run ++ past)
      case before x a (Lists e kind lt' is none) =
          let act = act-is x (sys.List e kind) a is in
          still (ap is_begin_of_any act) (listed-nothing shape (run ++ past) d e kind act) (steps-listed c w d (run ++ past) e kind act) (before (kept (ap is_begin_of_any act)))
      case before x a (Delivers e kind version lt' is at more) =
          let act = act-is x (sys.Deliver e kind) a is in
          still (ap is_begin_of_any act) (told-nothing shape (run ++ past) d e kind act) (steps-told c w d (run ++ past) e kind act) (before (kept (ap is_begin_of_any act)))
      case before x a (Steps up e v begun lt' less' is reg) =
          let act = act-is x (sys.Step e v) a is in
          let n = ap is_begin_of_any act in
          steps before n e v begun lt' less' act reg (serial shape some past run legal.1 h.1 c w basis lt less (kept n))
      case before x a (Begins up free e v k rest lt' is first) =
          let act = act-is x (sys.Begin e v) a is in
          inr (begins e v k rest up free lt' (subst (IsOfShape shape) act legal.0.within).1 act first)
      case before x a (Acts up free none step is s) = absurd (never (ap is_begin_of_any (act-is x sys.Node a is)) free)
      case before x a (Ticks up free none idle due is s) =
          absurd (never (ap is_begin_of_any (act-is x (sys.Clock (due - moment shape (run ++ past))) a is)) free)

      by : Going run c w basis → (x : Sys) × (first_event (available shape (run ++ past) (log_given shape (run ++ past))) ≡ Some (event.System x)) × (act_of_system x ≡ d.act) → NoneBegan (d ∷ run) ⊎ IsGoing shape c w basis (d ∷ run ++ past)
      by before y = case before y.0 y.2 (first-comes shape (run ++ past) y.0 legal.1 some y.1)

  -- A sync that runs alone began in the settle.
  has-begun : (run : List Deed) (c w : ℕ) (basis : Basis) → RunsAlone shape run past c w basis → NoneBegan run → ⊥
  has-begun run c w basis it none = true≢false (sym (ap is_begin_of_any it.act) ∙ at it.since (subst NoneBegan it.parts none))
    where
      at : (since : List Deed) → NoneBegan (since ++ it.begin ∷ it.before) → is_begin_of_any it.begin.act ≡ false
      at [] all = all.0
      at (x ∷ since) all = at since all.1

  -- So it is going.
  is-going : (run : List Deed) (c w : ℕ) (basis : Basis) → IsLegal shape (run ++ past) → AllAskValid (run ++ past) → IsSettling shape run past → c < shape.controllers → w < shape.workers
      → register w (diary shape c (run ++ past)) ≡ Some basis → RunsAlone shape run past c w basis → IsGoing shape c w basis (run ++ past)
  is-going run c w basis legal valid h lt less r it = by (going run legal valid h c w basis lt less r)
    where
      by : NoneBegan run ⊎ IsGoing shape c w basis (run ++ past) → IsGoing shape c w basis (run ++ past)
      by (inl n) = absurd (has-begun run c w basis it n)
      by (inr g) = g

  module _ (run : List Deed) (c w : ℕ) (basis : Basis) (d : Deed) (legal : IsLegal shape (run ++ past)) (valid : AllAskValid (run ++ past)) (settling : IsSettling shape run past) (lt : c < shape.controllers) (less : w < shape.workers)
      (reg : register w (diary shape c (run ++ past)) ≡ Some basis) (alone : RunsAlone shape run past c w basis) where
    g : IsGoing shape c w basis (run ++ past)
    g = is-going run c w basis legal valid settling lt less reg alone

    m : Machine shape (run ++ past)
    m = legal_run stay shape (run ++ past) legal valid

    pub granted : pending w (diary shape c (run ++ past)) ≡ None → IsLegalNext shape (run ++ past) d → d.act ≡ does.Step c w → IsGranted shape (run ++ past) d
    granted none next act = step-granted shape (run ++ past) d legal next m c w basis act lt less reg g none

    pub planned-done : IsLegalNext shape (run ++ past) d → d.act ≡ does.Step c w → d.reply ≡ reply.Ended → HasItsPlan (log_given shape (run ++ past)) basis
    planned-done next act ended = step-ended shape (run ++ past) d legal next m c w basis act lt less reg g ended

    pub next-had : (job : Job) → basis.job ≡ Some job → IsLegalNext shape (run ++ past) d → d.act ≡ does.Step c w → d.reply ≡ reply.Ended → HasNext (log_given shape (run ++ past)) basis job
    next-had job saw next act ended = step-next shape (run ++ past) d legal next m c w basis act lt less reg g ended job saw

    pub ended-lost : (job : Job) → basis.job ≡ Some job → IsLegalNext shape (run ++ past) d → d.act ≡ does.Step c w → d.reply ≡ reply.Ended → EndedAreLost (log_given shape (run ++ past)) basis job
    ended-lost job saw next act ended = step-lost shape (run ++ past) d legal next m c w basis act lt less reg g ended job saw
