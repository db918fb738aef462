-- Each quiet sync of a legal history comes to the next status of its Job: from the law on such syncs.
use Rattle.std.proofs.Common.{◌≡◌, ℕ, true, cond, ◌≤◌, List, [], ◌∷◌, ◌++◌, length, Option, Some, None, is_some, refl, sym, ap, ◌∙◌, subst, arith, eq-eqb, true≢false}
use Rattle.std.specs.List.{AllByRecursion as Each}
use Rattle.std.specs.Option.{option_map, option_or, option_to_list, unwrap_or}
use Rattle.jc_log.specs.Acts as does
use Rattle.jc_types.specs.declared.actions.Fault.{Fault}
use Rattle.jc_types.specs.declared.numbers.Version.{Version}
use Rattle.jc_types.specs.declared.objects.Entry.{Entry}
use Rattle.jc_types.specs.declared.objects.Job.{Job}
use Rattle.jc_types.specs.declared.objects.KeyNames.{KeyNames as Key}
use Rattle.jc_types.specs.declared.replies.Answer.{Answer}
use Rattle.jc_types.specs.declared.replies.Reply.{Reply}
use Rattle.jc_types.specs.declared.replies.Reply.TheVariants as reply
use Rattle.jc_types.specs.declared.replies.Request.{Request}
use Rattle.jc_types.specs.declared.runs.Shape.{Shape}
use Rattle.jc_runs.specs.Basis.{Basis}
use Rattle.jc_runs.specs.Bases.{own_pods}
use Rattle.jc_log.specs.Deeds.{Deed}
use Rattle.jc_log.specs.Log.{job_in, pods_under, upto}
use Rattle.jc_log.specs.Requests.{grown}
use Rattle.jc_log.proofs.LogFacts.{upto-all, upto-fixed}
use Rattle.jc_plan.specs.Next.{next_status}
use Rattle.jc_history.specs.Bounds.{AreTold}
use Rattle.jc_history.specs.Diaries.{end_by, moment, notes, notes_after, on_step}
use Rattle.jc_history.specs.Legal.{IsLegal, IsLegalNext}
use Rattle.jc_history.specs.Notes.{Note, Asked, Ended, newest}
use Rattle.jc_history.specs.Registers.{asks_status, backoff, pending, register, register_told}
use Rattle.jc_history.specs.Replies.{diary, gives, log_given, step_gives}
use Rattle.jc_history.proofs.DiaryFacts.{legal-told, notes-stay}
use Rattle.jc_history.proofs.LegalFacts.{notes-next}
use Rattle.jc_order.proofs.HonestFacts.{longer-log}
use Rattle.jc_order.proofs.RetryFacts.{step-reply}
use Rattle.jc_runs.specs.QuietRuns.{AreSteps, BeginsCurrent, IsAtNext, IsQuietSync, SyncRun, WritesNoStatus, backoff_at_begin, log_at_begin, log_at_end, status_due}
use Rattle.jc_runs.specs.Machines.{AllAskValid}
use Rattle.jc_promise.specs.QuietEnds.{EndsAtNext, GoesOn, IsOver, RunsQuietly, SyncsWell}

-- ---- a history and an earlier part of it

module _ (shape : Shape) where
  legal-part : (later mid : List Deed) → IsLegal shape (later ++ mid) → IsLegal shape mid
  legal-part [] mid h = h
  legal-part (d ∷ later) mid h = legal-part later mid h.1

  valid-part : (later mid : List Deed) → AllAskValid (later ++ mid) → AllAskValid mid
  valid-part [] mid h = h
  valid-part (d ∷ later) mid h = valid-part later mid h.1

  told-part : (n : ℕ) (later mid : List Deed) → AreTold n (later ++ mid) → AreTold n mid
  told-part n [] mid h = h
  told-part n (d ∷ later) mid h = told-part n later mid h.1

  long-part : (later mid : List Deed) → length (log_given shape mid) ≤ length (log_given shape (later ++ mid))
  long-part [] mid = omega arith
  long-part (d ∷ later) mid = let le = long-part later mid in let more = longer-log shape d (later ++ mid) in omega (arith, le, more)

  -- The log of the part is where the whole log began.
  log-part : (later mid : List Deed) → upto (length (log_given shape mid)) (log_given shape (later ++ mid)) ≡ log_given shape mid
  unfolding log_given
  log-part [] mid = upto-all (length (log_given shape mid)) (log_given shape mid) (omega arith)
  log-part (d ∷ later) mid = by (gives shape (later ++ mid) (log_given shape (later ++ mid)) d.act).entry (long-part later mid) (log-part later mid)
    where
      by : (o : Option Entry) → length (log_given shape mid) ≤ length (log_given shape (later ++ mid)) → upto (length (log_given shape mid)) (log_given shape (later ++ mid)) ≡ log_given shape mid
          → upto (length (log_given shape mid)) (grown (log_given shape (later ++ mid)) o) ≡ log_given shape mid
      by None le ih = ih
      by (Some e) le ih = upto-fixed (length (log_given shape mid)) e (log_given shape (later ++ mid)) le ∙ ih

  -- What was noted then reads the same over the whole log.
  notes-part : (c : ℕ) (later mid : List Deed) → IsLegal shape (later ++ mid) → notes shape c mid (log_given shape (later ++ mid)) ≡ notes shape c mid (log_given shape mid)
  unfolding log_given
  notes-part c [] mid legal = refl
  notes-part c (d ∷ later) mid legal =
      by (gives shape (later ++ mid) (log_given shape (later ++ mid)) d.act).entry (told-part (length (log_given shape (later ++ mid))) later mid (legal-told shape (later ++ mid) legal.1))
      ∙ notes-part c later mid legal.1
    where
      by : (o : Option Entry) → AreTold (length (log_given shape (later ++ mid))) mid → notes shape c mid (grown (log_given shape (later ++ mid)) o) ≡ notes shape c mid (log_given shape (later ++ mid))
      by None told = refl
      by (Some e) told = notes-stay shape c mid e (log_given shape (later ++ mid)) told

-- ---- what a reply tells of the register

-- A worker without a sync is told that it is idle.
used : (log : List Entry) (now : ℕ) (some : List (Request × Answer)) (fault : Option Fault) (o : Option Basis) (r : Reply) → r ≡ (step_gives log now some fault o).reply → (Tells : Reply → Type 0) → (Tells reply.Idle → ⊥) → Tells r
    → is_some o ≡ true
used log now some fault None r e Tells not tells = absurd (not (subst Tells e tells))
used log now some fault (Some basis) r e Tells not tells = refl

in-use : (shape : Shape) (c w : ℕ) (d : Deed) (past : List Deed) → IsLegalNext shape past d → d.act ≡ does.Step c w → (Tells : Reply → Type 0) → (Tells reply.Idle → ⊥) → Tells d.reply
    → is_some (register w (diary shape c past)) ≡ true
in-use shape c w d past legal step Tells not tells =
    used (log_given shape past) (moment shape past) _ _ (register w (diary shape c past)) d.reply (step-reply shape d past c w step legal.reply) Tells not tells

-- A step that ends the sync frees the register.
freed : (w now : ℕ) (basis : Basis) (older : List Note) (r : Reply) → IsOver r → register w (on_step w now (Some basis) r ++ older) ≡ None
freed w now basis older reply.Ended over = ap (λ t. unwrap_or (option_or (cond t (Some None) None) (newest (register_told w) older)) None) (eq-eqb w w refl)
freed w now basis older (reply.Stepped asked given) over = by (end_by (asks_status asked) given) over
  where
    by : (o : Option _) → is_some o ≡ true → register w ((option_to_list (option_map (λ end. Ended w basis end now) o) ++ Asked w basis asked given ∷ []) ++ older) ≡ None
    by None h = absurd (true≢false (sym h))
    by (Some end) h = ap (λ t. unwrap_or (option_or (cond t (Some None) None) (newest (register_told w) older)) None) (eq-eqb w w refl)
freed w now basis older other over = absurd over

free-after : (shape : Shape) (c w : ℕ) (d : Deed) (past : List Deed) → IsLegal shape (d ∷ past) → d.act ≡ does.Step c w → IsOver d.reply → register w (diary shape c (d ∷ past)) ≡ None
free-after shape c w d past legal step over =
    ap (register w) (notes-next shape c past d legal.1)
    ∙ ap (λ act. register w (notes_after c (record d { act = act }) (moment shape past) (log_given shape (d ∷ past)) (diary shape c past))) step
    ∙ ap (λ t. register w (cond t (on_step w (moment shape past) (register w (diary shape c past)) d.reply) [] ++ diary shape c past)) (eq-eqb c c refl)
    ∙ by (register w (diary shape c past)) (in-use shape c w d past legal.0 step IsOver (λ h. h) over)
  where
    by : (o : Option Basis) → is_some o ≡ true → register w (on_step w (moment shape past) o d.reply ++ diary shape c past) ≡ None
    by None h = absurd (true≢false (sym h))
    by (Some basis) h = freed w (moment shape past) basis (diary shape c past) d.reply over

-- ---- a quiet sync

module _ (shape : Shape) (c w : ℕ) (d : Deed) (past : List Deed) (k : Key) (job : Job) (last : Deed) (run later : List Deed) (log : List Entry)
    (is : log ≡ log_given shape (later ++ (last ∷ run ++ d ∷ past))) (legal : IsLegal shape (later ++ (last ∷ run ++ d ∷ past))) (valid : AllAskValid (later ++ (last ∷ run ++ d ∷ past)))
    (quiet : RunsQuietly shape log c w d past k job last run) where
  legal-sync : IsLegal shape (last ∷ run ++ d ∷ past)
  legal-sync = legal-part shape later (last ∷ run ++ d ∷ past) legal

  legal-begin : IsLegal shape (d ∷ past)
  legal-begin = legal-part shape run (d ∷ past) legal-sync.1

  -- The deeds after the begin, and what came before.
  joined : (some : List Deed) → (some ++ last ∷ run) ++ d ∷ past ≡ some ++ (last ∷ run ++ d ∷ past)
  joined [] = refl
  joined (x ∷ some) = ap (λ l. x ∷ l) (joined some)

  begun-log : upto d.length.0 log ≡ log_given shape (d ∷ past)
  begun-log =
      ap (λ n. upto n log) legal-begin.0.length ∙ ap (upto (length (log_given shape (d ∷ past)))) (is ∙ ap (log_given shape) (sym (joined later)))
      ∙ log-part shape (later ++ last ∷ run) (d ∷ past)

  ended-log : upto last.length.0 log ≡ log_given shape (last ∷ run ++ d ∷ past)
  ended-log =
      ap (λ n. upto n log) legal-sync.0.length ∙ ap (upto (length (log_given shape (last ∷ run ++ d ∷ past)))) is
      ∙ log-part shape later (last ∷ run ++ d ∷ past)

  -- Before the begin.
  whole : (some : List Deed) → (some ++ d ∷ []) ++ past ≡ some ++ d ∷ past
  whole [] = refl
  whole (x ∷ some) = ap (λ l. x ∷ l) (whole some)

  all : ((later ++ last ∷ run) ++ d ∷ []) ++ past ≡ later ++ (last ∷ run ++ d ∷ past)
  all = whole (later ++ last ∷ run) ∙ joined later

  noted : notes shape c past log ≡ diary shape c past
  noted =
      ap (notes shape c past) (is ∙ ap (log_given shape) (sym all))
      ∙ notes-part shape c ((later ++ last ∷ run) ++ d ∷ []) past (subst (IsLegal shape) (sym all) legal)

  length-is : d.length ≡ record { 0 = length (log_given shape (d ∷ past)) }
  length-is = ap (λ n. record { 0 = n }) legal-begin.0.length

  begins : BeginsCurrent shape c w d past k job
  begins = record {
    legal = legal-begin;
    act = quiet.begins;
    reply_is = quiet.current ∙ ap (λ (v : Version). reply.Begun k v v) length-is;
    there = ap (job_in k) (sym begun-log) ∙ quiet.there;
    no_fault = ap (pending w) (sym noted) ∙ quiet.no_fault;
  }

  run-steps : (some : List Deed) → IsLegal shape (some ++ d ∷ past) → Each (λ (step : Deed). step.act ≡ does.Step c w) some → Each (λ (step : Deed). GoesOn step.reply) some → AreSteps shape c w some (d ∷ past)
  run-steps [] l s g = tt
  run-steps (x ∷ some) l s g = (s.0, in-use shape c w x (some ++ d ∷ past) l.0 s.0 GoesOn (λ h. h) g.0, run-steps some l.1 s.1 g.1)

  -- Its deeds.
  abbrev sync_run : SyncRun
  sync_run = record { shape = shape; controller = c; worker = w; key = k; job = job; past = past; begin = d; run = run; last = last }

  sync : IsQuietSync sync_run
  sync = record {
    begins = begins;
    legal = legal-sync;
    valid = valid-part shape later (last ∷ run ++ d ∷ past) valid;
    steps = (
      quiet.steps.0,
      in-use shape c w last (run ++ d ∷ past) legal-sync.0 quiet.steps.0 IsOver (λ h. h) quiet.over,
      run-steps run legal-sync.1 quiet.steps.1 quiet.goes_on,
    );
    free = free-after shape c w last (run ++ d ∷ past) legal-sync quiet.steps.0 quiet.over;
  }

  module _ (ended : last.reply ≡ reply.Ended)
      (next : IsAtNext (log_given shape (last ∷ run ++ d ∷ past)) (log_given shape (d ∷ past)) (moment shape past) (backoff k (diary shape c past)) k job)
      (nothing : next_status (moment shape past) (backoff k (diary shape c past)) job (own_pods job (pods_under k (log_given shape (d ∷ past)))) ≡ job.status
      → Each (λ (x : Deed). WritesNoStatus x.reply) (last ∷ run)) where
    ends : EndsAtNext shape log c d past k job last run
    ends = record {
      ended = ended;
      next =
          subst (λ notes. IsAtNext (upto last.length.0 log) (upto d.length.0 log) (moment shape past) (backoff k notes) k job) (sym noted)
          (subst (λ old. IsAtNext (upto last.length.0 log) old (moment shape past) (backoff k (diary shape c past)) k job) (sym begun-log)
          (subst (λ new. IsAtNext new (log_given shape (d ∷ past)) (moment shape past) (backoff k (diary shape c past)) k job) (sym ended-log) next));
      nothing = λ e. nothing (ap (λ notes. next_status (moment shape past) (backoff k notes) job (own_pods job (pods_under k (log_given shape (d ∷ past))))) (sym noted)
          ∙ ap (λ old. next_status (moment shape past) (backoff k (notes shape c past log)) job (own_pods job (pods_under k old))) (sym begun-log) ∙ e);
    }

-- ---- all of them

-- What the law says of a quiet sync.
pub record Law : Type 0 where
  pub ended : (s : SyncRun) → IsQuietSync s → s.last.reply ≡ reply.Ended
  pub next : (s : SyncRun) → IsQuietSync s → IsAtNext (log_at_end s) (log_at_begin s) (moment s.shape s.past) (backoff_at_begin s) s.key s.job
  pub nothing : (s : SyncRun) → IsQuietSync s → status_due s ≡ s.job.status → Each (λ (x : Deed). WritesNoStatus x.reply) (s.last ∷ s.run)

pub syncs-well : Law → (shape : Shape) (deeds : List Deed) → IsLegal shape deeds → AllAskValid deeds → SyncsWell shape deeds (log_given shape deeds)
syncs-well law shape deeds legal valid c w d past k job last run later e quiet =
    let its : IsQuietSync (record { shape = shape; controller = c; worker = w; key = k; job = job; past = past; begin = d; run = run; last = last }) =
    sync shape c w d past k job last run later (log_given shape deeds) (ap (log_given shape) e) (subst (IsLegal shape) e legal) (subst AllAskValid e valid) quiet in
    ends shape c w d past k job last run later (log_given shape deeds) (ap (log_given shape) e) (subst (IsLegal shape) e legal) (subst AllAskValid e valid) quiet
    (law.ended _ its) (law.next _ its) (law.nothing _ its)
