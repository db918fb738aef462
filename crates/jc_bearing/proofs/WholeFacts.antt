-- A whole sync of a settle: from its begin, over lists, deliveries and its steps, to its end.
use Rattle.std.proofs.Common.{◌≡◌, ◌⊎◌, inl, inr, ℕ, zero, suc, ◌+◌, ◌<◌, ◌==◌, Bool, true, false, ◌&&◌, cond, List, [], ◌∷◌, ◌++◌, length, Option, Some, None, is_some, refl, sym, ap, ◌∙◌, subst, arith, true≢false, eq-eqb, append_assoc}
use Rattle.std.proofs.lemmas.Option.{none-some as none_some}
use Rattle.std.specs.List.{AllByRecursion as Each}
use Rattle.jc_types.proofs.KeyFacts.{same_key-itself}
use Rattle.jc_types.proofs.ListFacts.{Each-append, Each-weaker}
use Rattle.jc_types.specs.Keys.{same_key}
use Rattle.jc_types.specs.ValidSpecs.{IsValidSpec}
use Rattle.jc_types.specs.declared.actions.SpecChange.{SpecChange}
use Rattle.jc_types.specs.declared.objects.Entry.{Entry}
use Rattle.jc_types.specs.declared.objects.Job.{Job}
use Rattle.jc_types.specs.declared.replies.Answer.{Answer}
use Rattle.jc_types.specs.declared.replies.Answer.TheVariants as answer
use Rattle.jc_types.specs.declared.replies.Reply.TheVariants as reply
use Rattle.jc_types.specs.declared.replies.Request.{Request}
use Rattle.jc_types.specs.declared.replies.Request.TheVariants as request
use Rattle.jc_types.specs.declared.runs.Shape.{Shape}
use Rattle.jc_types.specs.declared.specifications.JobSpec.{JobSpec}
use Rattle.jc_states.specs.declared.bases.Basis.{Basis}
use Rattle.jc_log.specs.Acts as does
use Rattle.jc_log.specs.Acts.{Act}
use Rattle.jc_log.specs.Deeds.{Deed}
use Rattle.jc_log.specs.Log.{job_in, pods_under}
use Rattle.jc_log.specs.Requests.{changed_spec, grown, update_refusal}
use Rattle.jc_log.specs.Writes.{Stored}
use Rattle.jc_log.proofs.LogFacts.{upto-all}
use Rattle.jc_log.proofs.WriteFacts.{Stored-from_legal, job_in-key}
use Rattle.jc_plan.specs.Plans.{planned}
use Rattle.jc_sync.specs.Ask.{Ask}
use Rattle.jc_sync.specs.Ask.TheVariants.{MakePod, MarkPod, LetPodGo, WriteFirst, ReleasePod, WriteSecond}
use Rattle.jc_sync.specs.Asks.{as_request, asks_after, asks_of, is_gone}
use Rattle.jc_sync.specs.Leftovers.{IsLeftBy}
use Rattle.jc_sync.specs.SyncPlaces.{IfGoesOn, IsAt}
use Rattle.jc_sync.specs.Quiet.{GoesOnTo}
use Rattle.jc_sync.specs.Readings.{is_step, step_told, steps_of, told_step, with_step}
use Rattle.jc_sync.specs.AllRegisters.{HasSyncs, put_at, register_at, register_of}
use Rattle.jc_sync.specs.Sends.{sends_of}
use Rattle.jc_sync.specs.Steps.{Ends, GoesOn, Next, SyncEnd, answered_to, as_answer, end_given, flight_after, next_unless, stepped_at}
use Rattle.jc_sync.specs.Syncs.{began_of, is_begin}
use Rattle.jc_sync.proofs.ReadFacts.{reads_begun}
use Rattle.jc_sync.proofs.RegisterFacts.{step_basis, step_syncs}
use Rattle.jc_sync.proofs.StepFacts.{after_basis}
use Rattle.jc_runs.specs.Diaries.{moment, notes, on_step, ticks}
use Rattle.jc_runs.specs.Legal.{IsLegal, IsLegalNext}
use Rattle.jc_runs.specs.Registers.{pending, register}
use Rattle.jc_runs.specs.Replies.{diary, log_given}
use Rattle.jc_runs.specs.Machines.{AllAskValid, AsksValid}
use Rattle.jc_runs.specs.Teams.{registers_of}
use Rattle.jc_runs.proofs.LegalRuns.{Given, Machine, given, legal_run}
use Rattle.jc_runs.proofs.QuietSteps.{put-same}
use Rattle.jc_runs.proofs.StepRuns.{step_gives-at}
use Rattle.jc_settle.specs.Comes.{AreUpToDate}
use Rattle.jc_settle.specs.Serial.{IsAlone, NoneBegan, is_begin_of_any}
use Rattle.jc_settle.specs.Settles.{CatchesUp, IsCalm, is_telling, next_of_settle, settled_on}
use Rattle.jc_settle.proofs.CalmFacts.{Calm, NextIs, Step, caught-legal, next-where-told}
use Rattle.jc_settle.proofs.CatchFacts.{catches-up}
use Rattle.jc_settle.proofs.OnFacts.{next-first, next-legal, on-adds, on-some}
use Rattle.jc_settle.proofs.SerialFacts.{register-kept, reply-is}
use Rattle.jc_calm.specs.SettleTurns.{BeginsAlone}
use Rattle.jc_calm.proofs.FirstFacts.{begun-is-alone, begun-legal, begun-log, begun-now, begun-pending, begun-register}
use Rattle.jc_calm.proofs.NowFacts.{ended-pending, faults-most, now-same, now-told}
use Rattle.jc_calm.proofs.StepFacts.{ends-calm, noted}
use Rattle.jc_granted.specs.SyncsDone.{IsDoing}
use Rattle.jc_granted.specs.Granted.{grants}
use Rattle.jc_granted.specs.Ready.{AreReady, Grants}
use Rattle.jc_granted.proofs.GrantFacts.{is-granted, stays-ready}
use Rattle.jc_granted.proofs.SettleGrants.{going}
use Rattle.jc_granted.proofs.StepGrants.{further, grant-keeps, step-ended}
use Rattle.jc_granted.proofs.UnderWay.{IsGoing, IsUnderWay, going-ready, left-told, under-way}
use Rattle.jc_bearing.specs.Whole.{DoesAll, RunsWhole}
use Rattle.jc_bearing.proofs.BearFacts.{Bears, bears-next}
use Rattle.jc_bearing.proofs.DoneFacts.{bears-first, does-all}
use Rattle.jc_bearing.proofs.WriteKinds.{writes-what}

-- Updates that are allowed leave a specification valid.
abbrev Stay : Type 0
Stay = (spec : JobSpec) (change : SpecChange) → IsValidSpec spec → update_refusal spec change ≡ None → IsValidSpec (changed_spec spec change)

-- ---- how much is left to ask

abbrev weight_of : Ask → ℕ
weight_of (LetPodGo u version) = 2
weight_of other = 1

abbrev weight : List Ask → ℕ
weight [] = 0
weight (ask ∷ left) = weight_of ask + weight left

weight-less : (ask : Ask) (given : Answer) (left : List Ask) → weight (asks_after ask given left) < weight (ask ∷ left)
weight-less (LetPodGo u version) given left = by (is_gone given)
  where
    by : (b : Bool) → weight (cond b (MarkPod u ∷ left) left) < 2 + weight left
    by true = omega arith
    by false = omega arith
weight-less (MakePod index) given left = omega arith
weight-less (MarkPod u) given left = omega arith
weight-less WriteFirst given left = omega arith
weight-less (ReleasePod u) given left = omega arith
weight-less WriteSecond given left = omega arith

-- ---- lists and deliveries

-- They are no steps of a sync, and create no Job.
told-steps : (c w : ℕ) (d : Deed) (past : List Deed) (act : Act) → d.act ≡ act → is_telling act ≡ true → steps_of c w (d ∷ past) ≡ steps_of c w past
told-steps c w d past (does.List e kind) a h = λ i.
    cond (is_some (cond (is_begin c w (a i)) (began_of d.reply) None)) [] (with_step (cond (is_step c w (a i)) (told_step d.reply) None) (steps_of c w past))
told-steps c w d past (does.Deliver e kind) a h = λ i.
    cond (is_some (cond (is_begin c w (a i)) (began_of d.reply) None)) [] (with_step (cond (is_step c w (a i)) (told_step d.reply) None) (steps_of c w past))
told-steps c w d past other a h = absurd (true≢false (sym h))

all-told : (c w : ℕ) (run past : List Deed) → Each (λ (d : Deed). is_telling d.act ≡ true) run → steps_of c w (run ++ past) ≡ steps_of c w past
all-told c w [] past h = refl
all-told c w (d ∷ run) past h = told-steps c w d (run ++ past) d.act refl h.0 ∙ all-told c w run past h.1

telling-valid : (act : Act) → is_telling act ≡ true → AsksValid act
telling-valid (does.Create key spec) h = absurd (true≢false (sym h))
telling-valid other h = tt

-- A request that is granted uses up no fault.
granted-pending : (v w now : ℕ) (basis : Basis) (asked : Request) (given : Answer) (shape : Shape) (x : ℕ) (past : List Deed) → grants asked given ≡ true
    → pending v (on_step w now (Some basis) (reply.Stepped asked given) ++ diary shape x past) ≡ pending v (diary shape x past)
granted-pending v w now basis (request.CreatePod index) (answer.Created u version) shape x past h = refl
granted-pending v w now basis (request.CreatePod index) other shape x past h = absurd (true≢false (sym h))
granted-pending v w now basis (request.MarkPod u) (answer.Written version) shape x past h = refl
granted-pending v w now basis (request.MarkPod u) other shape x past h = absurd (true≢false (sym h))
granted-pending v w now basis (request.LetGo u) (answer.Released version) shape x past h = refl
granted-pending v w now basis (request.LetGo u) other shape x past h = absurd (true≢false (sym h))
granted-pending v w now basis request.Status (answer.Written version) shape x past h = refl
granted-pending v w now basis request.Status other shape x past h = absurd (true≢false (sym h))
granted-pending v w now basis (request.Release u) (answer.Released version) shape x past h = refl
granted-pending v w now basis (request.Release u) other shape x past h = absurd (true≢false (sym h))

-- ---- a sync on its way

-- What it has done so far, by its steps.
pub record IsBearing (shape : Shape) (c w : ℕ) (old : List Entry) (basis : Basis) (past : List Deed) : Type 0 where
  pub left : List Ask
  pub reads : IsLeftBy (planned basis) (steps_of c w past) left
  pub bears : Bears old basis left (log_given shape past)

-- What becomes of it by a step.
pub data Outcome (shape : Shape) (c w : ℕ) (old : List Entry) (basis : Basis) (past : List Deed) (d : Deed) (left : List Ask) : Type 0 where
  Over : d.reply ≡ reply.Ended → log_given shape (d ∷ past) ≡ log_given shape past → Bears old basis [] (log_given shape past) → Outcome shape c w old basis past d left
  On : (asked : Request) (given : Answer) → d.reply ≡ reply.Stepped asked given → grants asked given ≡ true → (next : IsBearing shape c w old basis (d ∷ past)) → weight next.left < weight left → Outcome shape c w old basis past d left

-- ---- a step

module _ (shape : Shape) (past : List Deed) (d : Deed) (before : IsLegal shape past) (legal : IsLegalNext shape past d) (m : Machine shape past) (c w : ℕ) (basis : Basis) (act : d.act ≡ does.Step c w)
    (lt : c < shape.controllers) (less : w < shape.workers) (begun : register w (diary shape c past) ≡ Some basis) (h : IsGoing shape c w basis past) (fine : pending w (diary shape c past) ≡ None)
    (old : List Entry) (keys : (job : Job) → basis.job ≡ Some job → same_key job.key basis.key ≡ true) (b : IsBearing shape c w old basis past) (stays : Stored (log_given shape (d ∷ past))) where
  its : IsUnderWay shape past m c w basis
  its = under-way shape past m c w basis lt less begun

  stored : Stored m.log
  stored = Stored-from_legal m.log m.run.syncs.tied.legal

  no-fault : its.fault ≡ None
  no-fault = sym ((m.run.each c its.team its.there).workers.faults w its.fault its.fault_is) ∙ ap (λ log. pending w (notes shape c past log)) m.run.log_is ∙ fine

  -- What is left to it.
  left-is : its.sync.left ≡ b.left
  left-is =
      sym (left-told (planned its.sync.flight.basis) (steps_of c w past) its.sync.left its.known.reads)
      ∙ left-told (planned its.sync.flight.basis) (steps_of c w past) b.left (subst (λ q. IsLeftBy (planned q) (steps_of c w past) b.left) (sym its.of_basis) b.reads)

  gave : (left : List Ask) → b.left ≡ left
      → Given shape past d legal m (record { reply = (stepped_at m.now None m.log its.sync.flight left).reply; entry = (stepped_at m.now None m.log its.sync.flight left).entry })
  gave left is =
      given shape past d legal m (does.Step c w) (record { reply = (stepped_at m.now None m.log its.sync.flight left).reply; entry = (stepped_at m.now None m.log its.sync.flight left).entry }) act
      (step_gives-at shape past m.log m.teams m.fates m.now m.run c its.team its.there w its.fault its.fault_is (Some its.sync) its.mine
      ∙ (λ i. record {
        reply = (stepped_at m.now (no-fault i) m.log its.sync.flight ((left-is ∙ is) i)).reply;
        entry = (stepped_at m.now (no-fault i) m.log its.sync.flight ((left-is ∙ is) i)).entry;
      }))

  ready : (left : List Ask) → b.left ≡ left → AreReady m.log its.sync.flight left
  ready left is =
      subst (λ l. AreReady m.log its.sync.flight l) (left-is ∙ is)
      (subst (λ log. AreReady log its.sync.flight its.sync.left) (sym m.run.log_is) (going-ready shape c w basis past its.sync its.of_basis its.known h))

  bears-now : (left : List Ask) → b.left ≡ left → Bears old its.sync.flight.basis left m.log
  bears-now left is =
      subst (λ log. Bears old its.sync.flight.basis left log) (sym m.run.log_is)
      (subst (λ q. Bears old q left (log_given shape past)) (sym its.of_basis)
      (subst (λ l. Bears old basis l (log_given shape past)) is b.bears))

  keys-now : (job : Job) → its.sync.flight.basis.job ≡ Some job → same_key job.key its.sync.flight.basis.key ≡ true
  keys-now job saw = ap (λ (q : Basis). same_key job.key q.key) its.of_basis ∙ keys job (ap (λ (q : Basis). q.job) (sym its.of_basis) ∙ saw)

  over : b.left ≡ [] → Outcome shape c w old basis past d b.left
  over is =
      let g = gave [] is in
      Over g.told (g.grew ∙ m.run.log_is) (subst (λ l. Bears old basis l (log_given shape past)) is b.bears)

  module _ (ask : Ask) (left : List Ask) (is : b.left ≡ ask ∷ left) where
    abbrev answered : Answer
    answered = as_answer (answered_to m.log m.now its.sync.flight ask).reply

    granted : Grants (as_request ask) (answered_to m.log m.now its.sync.flight ask)
    granted = is-granted m.log m.now its.sync.flight stored its.flies ask left (subst (IsAt its.sync.flight) (left-is ∙ is) its.known.at) (ready (ask ∷ left) is)

    grown-bears : Bears old its.sync.flight.basis (asks_after ask answered left) (grown m.log (answered_to m.log m.now its.sync.flight ask).entry)
    grown-bears = by (answered_to m.log m.now its.sync.flight ask).entry refl granted.appends
      where
        by : (o : Option Entry) → (answered_to m.log m.now its.sync.flight ask).entry ≡ o → is_some o ≡ true → Bears old its.sync.flight.basis (asks_after ask answered left) (grown m.log o)
        by None e some = absurd (true≢false (sym some))
        by (Some e) entry some =
            bears-next old m.log its.sync.flight.basis its.sync.flight.sends stored left ask answered e keys-now (ready (ask ∷ left) is).each.1
            (writes-what m.log m.now its.sync.flight ask e (ready (ask ∷ left) is).each.0 entry) (bears-now (ask ∷ left) is)

    abbrev step-next : Next
    step-next = (stepped_at m.now None m.log its.sync.flight (ask ∷ left)).next

    -- The sync that goes on.
    next-bears : IfGoesOn (stepped_at m.now None m.log its.sync.flight (ask ∷ left)).next
        (λ s. (s.left ≡ asks_after ask answered left) × Bears old s.flight.basis s.left (grown m.log (answered_to m.log m.now its.sync.flight ask).entry))
    next-bears = by (end_given ask answered)
      where
        by : (o : Option SyncEnd) → IfGoesOn (next_unless o (record { flight = flight_after ask answered its.sync.flight; left = asks_after ask answered left }))
            (λ s. (s.left ≡ asks_after ask answered left) × Bears old s.flight.basis s.left (grown m.log (answered_to m.log m.now its.sync.flight ask).entry))
        by None = (refl, subst (λ q. Bears old q (asks_after ask answered left) (grown m.log (answered_to m.log m.now its.sync.flight ask).entry)) (sym (after_basis ask answered its.sync.flight)) grown-bears)
        by (Some end) = tt

    g : Given shape past d legal m (record { reply = (stepped_at m.now None m.log its.sync.flight (ask ∷ left)).reply; entry = (stepped_at m.now None m.log its.sync.flight (ask ∷ left)).entry })
    g = gave (ask ∷ left) is

    goes-to : (entry : Option Entry) (next : Next) → log_given shape (d ∷ past) ≡ grown m.log entry → GoesOnTo next (λ s. AreReady (grown m.log entry) s.flight s.left)
        → IfGoesOn next (λ s. s.flight.basis ≡ its.sync.flight.basis) → IfGoesOn next (λ s. (s.left ≡ asks_after ask answered left) × Bears old s.flight.basis s.left (grown m.log entry))
        → HasSyncs (d ∷ past) (grown m.log entry) (put_at c w (register_of next) (registers_of m.teams)) → (n : IsBearing shape c w old basis (d ∷ past)) × (n.left ≡ asks_after ask answered left)
    goes-to entry (Ends end) grew ready same bears has = absurd ready
    goes-to entry (GoesOn s) grew ready same bears has =
        let known = has.each c w s (put-same c w (Some its.sync) (Some s) (registers_of m.teams) its.in_register) in (
          record {
            left = s.left;
            reads = subst (λ q. IsLeftBy (planned q) (steps_of c w (d ∷ past)) s.left) (same ∙ its.of_basis) known.reads;
            bears = subst (λ log. Bears old basis s.left log) (sym grew) (subst (λ q. Bears old q s.left (grown m.log entry)) (same ∙ its.of_basis) bears.1);
          },
          bears.0,
        )

    in-register : register_at c w (registers_of m.teams) ≡ Some (Some (record { flight = its.sync.flight; left = ask ∷ left }))
    in-register = its.in_register ∙ (λ i. Some (Some (record { flight = its.sync.flight; left = (left-is ∙ is) i })))

    next-one : (n : IsBearing shape c w old basis (d ∷ past)) × (n.left ≡ asks_after ask answered left)
    next-one =
        goes-to (stepped_at m.now None m.log its.sync.flight (ask ∷ left)).entry (stepped_at m.now None m.log its.sync.flight (ask ∷ left)).next g.grew
        (stays-ready m.log m.now its.sync.flight stored its.flies ask left (subst (IsAt its.sync.flight) (left-is ∙ is) its.known.at) (ready (ask ∷ left) is))
        (step_basis m.now None m.log its.sync.flight (ask ∷ left)) next-bears
        (step_syncs d past m.log (registers_of m.teams) c w m.now None (record { flight = its.sync.flight; left = ask ∷ left }) m.run.syncs in-register act g.told g.long (subst Stored g.grew stays))

    on : Outcome shape c w old basis past d b.left
    on =
        let n = next-one in
        let lighter = weight-less ask answered left in
        let same = ap weight n.1 in
        let all = ap weight is in
        On (as_request ask) answered g.told granted.granted n.0 (omega (arith, lighter, same, all))

  pub outcome : Outcome shape c w old basis past d b.left
  outcome = by b.left refl
    where
      by : (left : List Ask) → b.left ≡ left → Outcome shape c w old basis past d b.left
      by [] is = over is
      by (ask ∷ left) is = on ask left is

-- ---- where it comes to

-- After so many events it is calm, and all is done.
record Reaches (shape : Shape) (c w : ℕ) (old : List Entry) (basis : Basis) (past : List Deed) : Type 0 where
  events : ℕ
  run : List Deed
  are : settled_on shape events past ≡ run ++ past
  way : Each (λ (d : Deed). (d.act ≡ does.Step c w) ⊎ (is_telling d.act ≡ true)) run
  all : DoesAll old basis (log_given shape (run ++ past))
  now_is : moment shape (run ++ past) ≡ moment shape past
  calm : IsCalm shape (run ++ past)
  faults : (e v : ℕ) → pending v (diary shape e (run ++ past)) ≡ pending v (diary shape e past)

-- A sync on its way in a settle.
record IsOn (shape : Shape) (c w : ℕ) (old : List Entry) (basis : Basis) (past : List Deed) : Type 0 where
  legal : IsLegal shape past
  valid : AllAskValid past
  reg : register w (diary shape c past) ≡ Some basis
  alone : IsAlone shape past c w
  fine : pending w (diary shape c past) ≡ None
  going : IsGoing shape c w basis past
  bearing : IsBearing shape c w old basis past

module _ (stay : Stay) (shape : Shape) (some : 0 < shape.workers) (c w : ℕ) (lt : c < shape.controllers) (less : w < shape.workers) (old : List Entry) (basis : Basis)
    (keys : (job : Job) → basis.job ≡ Some job → same_key job.key basis.key ≡ true) where
  abbrev R : List Deed → Type 0
  R past = Reaches shape c w old basis past

  abbrev S : List Deed → Type 0
  S past = IsOn shape c w old basis past

  used-by : {A : Type 0} (o : Option A) → is_some o ≡ true → (x : A) × (o ≡ Some x)
  used-by None e = absurd (true≢false (sym e))
  used-by (Some x) e = (x, refl)

  -- After lists and deliveries.
  module _ (past : List Deed) (h : S past) (u : CatchesUp shape past) where
    told : steps_of c w (u.run ++ past) ≡ steps_of c w past
    told = all-told c w u.run past u.telling

    caught : S (u.run ++ past)
    caught = record {
      legal = caught-legal shape past u h.legal;
      valid =
          Each-append (λ (d : Deed). AsksValid d.act) u.run past
          (Each-weaker (λ (d : Deed). is_telling d.act ≡ true) (λ (d : Deed). AsksValid d.act) (λ d t. telling-valid d.act t) u.run u.telling) h.valid;
      reg = (u.syncs c w).register_is ∙ h.reg;
      alone = λ e v l m r. h.alone e v l m (ap is_some (sym (u.syncs e v).register_is) ∙ r);
      fine = (u.syncs c w).pending_is ∙ h.fine;
      going = record {
        sync = h.going.sync;
        of_basis = h.going.of_basis;
        reads = subst (λ steps. IsLeftBy (planned h.going.sync.flight.basis) steps h.going.sync.left) (sym told) h.going.reads;
        sends = h.going.sends ∙ ap (sends_of h.going.sync.flight.basis) (sym told);
        ready = subst (λ log. AreReady log h.going.sync.flight h.going.sync.left) (sym u.log_is) h.going.ready;
        doing = subst (λ log. IsDoing log h.going.sync.flight.basis h.going.sync.left) (sym u.log_is) h.going.doing;
      };
      bearing = record {
        left = h.bearing.left;
        reads = subst (λ steps. IsLeftBy (planned basis) steps h.bearing.left) (sym told) h.bearing.reads;
        bears = subst (λ log. Bears old basis h.bearing.left log) (sym u.log_is) h.bearing.bears;
      };
    }

    caught-weight : weight caught.bearing.left ≡ weight h.bearing.left
    unfolding caught
    caught-weight = refl

    reaches-after : R (u.run ++ past) → R past
    reaches-after r = record {
      events = u.events + r.events;
      run = r.run ++ u.run;
      are = on-adds shape u.events r.events past ∙ ap (settled_on shape r.events) u.are ∙ r.are ∙ sym same;
      way =
          Each-append (λ (d : Deed). (d.act ≡ does.Step c w) ⊎ (is_telling d.act ≡ true)) r.run u.run r.way
          (Each-weaker (λ (d : Deed). is_telling d.act ≡ true) (λ (d : Deed). (d.act ≡ does.Step c w) ⊎ (is_telling d.act ≡ true)) (λ d t. inr t) u.run u.telling);
      all = subst (λ l. DoesAll old basis (log_given shape l)) (sym same) r.all;
      now_is = ap (moment shape) same ∙ r.now_is ∙ now-told shape u.run past u.telling;
      calm = subst (IsCalm shape) (sym same) r.calm;
      faults = λ e v. ap (λ l. pending v (diary shape e l)) same ∙ r.faults e v ∙ (u.syncs e v).pending_is;
    }
      where
        same : (r.run ++ u.run) ++ past ≡ r.run ++ (u.run ++ past)
        same = append_assoc r.run u.run past

  -- At a step.
  module _ (past : List Deed) (h : S past) (d : Deed) (e : next_of_settle shape past ≡ Some d) (act : d.act ≡ does.Step c w) where
    next : IsLegalNext shape past d
    next = next-legal shape past d e

    now-legal : IsLegal shape (d ∷ past)
    now-legal = (next, h.legal)

    now-valid : AllAskValid (d ∷ past)
    now-valid = (subst AsksValid (sym act) tt, h.valid)

    m : Machine shape past
    m = legal_run stay shape past h.legal h.valid

    stored-then : Stored (log_given shape (d ∷ past))
    stored-then = let n = legal_run stay shape (d ∷ past) now-legal now-valid in subst Stored n.run.log_is (Stored-from_legal n.log n.run.syncs.tied.legal)

    now-step : moment shape (d ∷ past) ≡ moment shape past
    now-step = now-same shape d past (ap ticks act)

    reaches-with : ((x v : ℕ) → pending v (diary shape x (d ∷ past)) ≡ pending v (diary shape x past)) → R (d ∷ past) → R past
    reaches-with kept r = record {
      events = suc r.events;
      run = r.run ++ d ∷ [];
      are = on-some shape r.events past d e ∙ r.are ∙ sym same;
      way = Each-append (λ (x : Deed). (x.act ≡ does.Step c w) ⊎ (is_telling x.act ≡ true)) r.run (d ∷ []) r.way (inl act, tt);
      all = subst (λ l. DoesAll old basis (log_given shape l)) (sym same) r.all;
      now_is = ap (moment shape) same ∙ r.now_is ∙ now-step;
      calm = subst (IsCalm shape) (sym same) r.calm;
      faults = λ x v. ap (λ l. pending v (diary shape x l)) same ∙ r.faults x v ∙ kept x v;
    }
      where
        same : (r.run ++ d ∷ []) ++ past ≡ r.run ++ d ∷ past
        same = append_assoc r.run (d ∷ []) past

    -- It is the last one.
    ended : AreUpToDate shape past (log_given shape past) → d.reply ≡ reply.Ended → log_given shape (d ∷ past) ≡ log_given shape past → Bears old basis [] (log_given shape past) → R past
    ended up told same bears = reaches-with kept (record {
      events = 0;
      run = [];
      are = refl;
      way = tt;
      all =
          subst (DoesAll old basis) (sym same)
          (does-all old (log_given shape past) basis (step-ended shape past d h.legal next m c w basis act lt less h.reg h.going told) bears);
      now_is = refl;
      calm = ends-calm shape past h.legal d next c w basis act h.reg up h.alone told same;
      faults = λ x v. refl;
    })
      where
        kept : (x v : ℕ) → pending v (diary shape x (d ∷ past)) ≡ pending v (diary shape x past)
        kept x v = ap (pending v) (noted shape past h.legal d next c w basis act h.reg x reply.Ended told) ∙ by (c == x)
          where
            by : (t : Bool) → pending v (cond t (on_step w (moment shape past) (Some basis) reply.Ended) [] ++ diary shape x past) ≡ pending v (diary shape x past)
            by true = ended-pending v w basis (planned basis).next (moment shape past) (diary shape x past)
            by false = refl

    -- It is granted.
    module _ (asked : Request) (given : Answer) (told : d.reply ≡ reply.Stepped asked given) (granted : grants asked given ≡ true) where
      still : register w (diary shape c (d ∷ past)) ≡ Some basis
      still = grant-keeps shape past d h.legal c w basis act h.reg asked given told granted

      kept : (x v : ℕ) → pending v (diary shape x (d ∷ past)) ≡ pending v (diary shape x past)
      kept x v = ap (pending v) (noted shape past h.legal d next c w basis act h.reg x (reply.Stepped asked given) told) ∙ by (c == x)
        where
          by : (t : Bool) → pending v (cond t (on_step w (moment shape past) (Some basis) (reply.Stepped asked given)) [] ++ diary shape x past) ≡ pending v (diary shape x past)
          by true = granted-pending v w (moment shape past) basis asked given shape x past granted
          by false = refl

      on-then : IsBearing shape c w old basis (d ∷ past) → S (d ∷ past)
      on-then n = record {
        legal = now-legal;
        valid = now-valid;
        reg = still;
        alone = λ x v l k r. let y = used-by (register v (diary shape x (d ∷ past))) r in h.alone x v l k (ap is_some (register-kept shape x v d past y.0 h.legal (ap is_begin_of_any act) y.1));
        fine = kept c w ∙ h.fine;
        going = further shape past d h.legal next m c w basis act lt less h.reg h.going still stored-then;
        bearing = n;
      }

      on-lighter : (n : IsBearing shape c w old basis (d ∷ past)) → weight n.left < weight h.bearing.left → weight (on-then n).bearing.left < weight h.bearing.left
      unfolding on-then
      on-lighter n lighter = lighter

    result : Outcome shape c w old basis past d h.bearing.left
    result = outcome shape past d h.legal next m c w basis act lt less h.reg h.going h.fine old keys h.bearing stored-then

  -- One step, and what comes behind it.
  module _ (past : List Deed) (now : S past) (up : AreUpToDate shape past (log_given shape past)) (more : (then : List Deed) (h : S then) → weight h.bearing.left < weight now.bearing.left → R then) where
    at-step : (d : Deed) (e : next_of_settle shape past ≡ Some d) (act : d.act ≡ does.Step c w) → Outcome shape c w old basis past d now.bearing.left → R past
    at-step d e act (Over told same bears) = ended past now d e act up told same bears
    at-step d e act (On asked given told granted next lighter) =
        reaches-with past now d e act (kept past now d e act asked given told granted)
        (more (d ∷ past) (on-then past now d e act asked given told granted next) (on-lighter past now d e act asked given told granted next lighter))

    turn : R past
    turn = by (next-where-told shape some past now.legal up)
      where
        by : NextIs shape some past → R past
        by (Calm calm) = absurd (none_some basis (sym (calm.free c lt w less) ∙ now.reg))
        by (Step d x v begun e l k a r) =
            let same = now.alone x v l k (ap is_some r) in
            let act = a ∙ (λ i. does.Step (sym same.0 i) (sym same.1 i)) in
            at-step d e act (result past now d e act)

  goes-on : (n : ℕ) (past : List Deed) (h : S past) → weight h.bearing.left < n → R past
  goes-on zero past h small = absurd (omega (arith, small))
  goes-on (suc n) past h small = by (catches-up shape some past h.legal) (λ then s lighter. goes-on n then s lighter)
    where
      by : CatchesUp shape past → ((then : List Deed) (s : S then) → weight s.bearing.left < n → R then) → R past
      by u more =
          let same = caught-weight past h u in
          reaches-after past h u (turn (u.run ++ past) (caught past h u) u.caches (λ then s lighter. more then s (omega (arith, lighter, same, small))))

-- ---- from its begin

module _ (stay : Stay) (shape : Shape) (some : 0 < shape.workers) (past : List Deed) (legal : IsLegal shape past) (valid : AllAskValid past) (calm : IsCalm shape past) (c w : ℕ) (basis : Basis) (begin : Deed)
    (b : BeginsAlone shape past c w basis begin) (fine : pending w (diary shape c past) ≡ None) where
  abbrev log : List Entry
  log = log_given shape past

  then-legal : IsLegal shape (begin ∷ past)
  then-legal = begun-legal shape past legal calm begin c w basis.key b.rest b.next b.controller b.worker b.act b.first

  then-valid : AllAskValid (begin ∷ past)
  then-valid = (subst AsksValid (sym b.act) tt, valid)

  then-log : log_given shape (begin ∷ past) ≡ log_given shape past
  then-log = begun-log shape past legal calm begin c w basis.key b.rest b.next b.controller b.worker b.act b.first

  then-register : register w (diary shape c (begin ∷ past)) ≡ Some basis
  then-register = begun-register shape past legal calm begin c w basis.key b.rest b.next b.controller b.worker b.act b.first ∙ ap (λ q. Some q) (sym b.saw)

  then-pending : (x v : ℕ) → pending v (diary shape x (begin ∷ past)) ≡ pending v (diary shape x past)
  then-pending = begun-pending shape past legal calm begin c w basis.key b.rest b.next b.controller b.worker b.act b.first

  its-pods : basis.pods ≡ pods_under basis.key (log_given shape past)
  its-pods = ap (λ (q : Basis). q.pods) b.saw ∙ ap (pods_under basis.key) (upto-all (length log) log (omega arith))

  its-job : basis.job ≡ job_in basis.key (log_given shape past)
  its-job = ap (λ (q : Basis). q.job) b.saw ∙ ap (job_in basis.key) (upto-all (length log) log (omega arith))

  job-there : (job : Job) → basis.job ≡ Some job → job_in basis.key (log_given shape past) ≡ Some job
  job-there job is = sym its-job ∙ is

  its-keys : (job : Job) → basis.job ≡ Some job → same_key job.key basis.key ≡ true
  its-keys job is = ap (λ q. same_key q basis.key) (job_in-key basis.key log job (job-there job is)) ∙ same_key-itself basis.key

  no-steps : steps_of c w (begin ∷ past) ≡ []
  no-steps =
      (λ i. cond (is_some (cond (is_begin c w (b.act i)) (began_of (told i)) None)) [] (with_step (step_told c w begin) (steps_of c w past)))
      ∙ (λ i. cond (is_some (cond (eq-eqb c c refl i && eq-eqb w w refl i) (began_of (reply.Begun basis.key (record { 0 = length log }) (record { 0 = length log }))) None)) [] (with_step (step_told c w begin) (steps_of c w past)))
    where
      told : begin.reply ≡ reply.Begun basis.key (record { 0 = length log }) (record { 0 = length log })
      told = reply-is shape past legal begin (next-legal shape past begin b.next) calm.caches calm.free c w basis.key b.rest b.controller b.worker b.act b.first

  first-sync : IsUnderWay shape (begin ∷ past) (legal_run stay shape (begin ∷ past) then-legal then-valid) c w basis
  first-sync = under-way shape (begin ∷ past) (legal_run stay shape (begin ∷ past) then-legal then-valid) c w basis b.controller b.worker then-register

  reads-first : IsLeftBy (planned basis) (steps_of c w (begin ∷ past)) (asks_of (planned basis))
  reads-first =
      subst (λ steps. IsLeftBy (planned basis) steps (asks_of (planned basis))) (sym no-steps)
      (subst (λ q. IsLeftBy (planned q) [] (asks_of (planned q))) first-sync.of_basis (reads_begun (planned first-sync.sync.flight.basis) first-sync.known.once))

  its-going : IsGoing shape c w basis (begin ∷ past)
  its-going = by (going stay shape some past (begin ∷ []) then-legal then-valid (next-first shape past begin b.next, tt) c w basis b.controller b.worker then-register)
    where
      by : NoneBegan (begin ∷ []) ⊎ IsGoing shape c w basis (begin ∷ past) → IsGoing shape c w basis (begin ∷ past)
      by (inl none) = absurd (true≢false (sym (ap is_begin_of_any b.act) ∙ none.0))
      by (inr g) = g

  starts : IsOn shape c w (log_given shape past) basis (begin ∷ past)
  starts = record {
    legal = then-legal;
    valid = then-valid;
    reg = then-register;
    alone = begun-is-alone shape past legal calm begin c w basis.key b.rest b.next b.controller b.worker b.act b.first;
    fine = then-pending c w ∙ fine;
    going = its-going;
    bearing = record {
      left = asks_of (planned basis);
      reads = reads-first;
      bears = subst (Bears (log_given shape past) basis (asks_of (planned basis))) (sym then-log) (bears-first (log_given shape past) basis its-pods its-job);
    };
  }

  pub runs-whole : RunsWhole shape past c w basis begin
  runs-whole = by (goes-on stay shape some c w b.controller b.worker (log_given shape past) basis its-keys (suc (weight starts.bearing.left)) (begin ∷ past) starts (omega arith))
    where
      by : Reaches shape c w (log_given shape past) basis (begin ∷ past) → RunsWhole shape past c w basis begin
      by r = record {
        events = suc r.events;
        run = r.run;
        are = on-some shape r.events past begin b.next ∙ r.are;
        way = r.way;
        saw = record { job = its-job; pods = its-pods };
        all = r.all;
        now_is = r.now_is ∙ begun-now shape past legal calm begin c w basis.key b.rest b.next b.controller b.worker b.act b.first;
        calm = r.calm;
        faults = faults-most shape past (r.run ++ begin ∷ past) (λ x v. r.faults x v ∙ then-pending x v);
      }
