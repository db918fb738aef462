-- A step of the run.
use Rattle.std.proofs.Common.{◌≡◌, true≢false, ℕ, ◌<◌, List, [], ◌∷◌, ◌++◌, length, set, slice_get, Option, Some, None, IfSome, refl, sym, ap, ◌∙◌, subst, arith}
use Rattle.std.specs.List.{AllByRecursion as Each}
use Rattle.std.proofs.lemmas.List.{length-set}
use Rattle.jc_log.specs.Acts as does
use Rattle.jc_control.specs.Schedules.{MirrorsLog}
use Rattle.jc_plan.specs.Plans.{IsDated, planned}
use Rattle.jc_types.specs.declared.actions.Fault.{Fault}
use Rattle.jc_types.specs.declared.actions.Fault.TheVariants.{Drop, Lose}
use Rattle.jc_types.specs.declared.objects.Entry.{Entry}
use Rattle.jc_types.specs.declared.replies.Reply.TheVariants as reply
use Rattle.jc_types.specs.declared.replies.Request.{Request}
use Rattle.jc_types.specs.declared.replies.Answer.{Answer}
use Rattle.jc_types.specs.declared.runs.Shape.{Shape}
use Rattle.jc_log.specs.Requests.{Answered, grown, refused}
use Rattle.jc_log.specs.Deeds.{Deed}
use Rattle.jc_log.specs.Writes.{Stored}
use Rattle.jc_ledger.specs.Syncs.{began_of}
use Rattle.jc_ledger.specs.Flights.{Flies}
use Rattle.jc_ledger.proofs.FrameFacts.{AllFly-one}
use Rattle.jc_history.specs.Agrees.{IsScheduleOf}
use Rattle.jc_history.specs.Available.{is_quiescent}
use Rattle.jc_history.specs.Diaries.{moment, notes, on_step}
use Rattle.jc_history.specs.Legal.{IsOfShape, MaySettle}
use Rattle.jc_history.specs.Notes.{Note}
use Rattle.jc_history.specs.Registers.{backoff, made, pending, register}
use Rattle.jc_history.specs.Replies.{gives, log_given, step_done, step_gives}
use Rattle.jc_asks.specs.declared.asks.Ask.{Ask}
use Rattle.jc_sync.specs.Plannable.{FitsIn, IsPlannable}
use Rattle.jc_sync.specs.SyncPlaces.{IsAt}
use Rattle.jc_asks.specs.Readings.{next_ask, steps_of, told_step}
use Rattle.jc_sync.specs.AllRegisters.{HasSyncs, IsRegister, flights_of_all, put_at, register_of}
use Rattle.jc_asks.specs.Steps.{Stepped, Sync, stepped, stepped_at}
use Rattle.jc_sync.proofs.FitFacts.{asked_fits}
use Rattle.jc_sync.proofs.ReadFacts.{reads_next}
use Rattle.jc_sync.proofs.RegisterFacts.{around, step_syncs}
use Rattle.std.specs.Prelude.{◌≤◌, ◌^◌, IsSome, true}
use Rattle.jc_control.specs.Queued.{has_key}
use Rattle.jc_control.proofs.LawFacts.{grown as grown_by}
use Rattle.jc_control.specs.declared.begins.Begin.TheVariants.{Begun}
use Rattle.jc_control.specs.ControllerCalls.{begun}
use Rattle.jc_types.specs.declared.objects.Job.{Job}
use Rattle.jc_types.specs.declared.syncs.Backoff.{Backoff}
use Rattle.jc_states.specs.declared.bases.Basis.{Basis}
use Rattle.jc_states.specs.Bases.{CanPlan}
use Rattle.jc_history.proofs.LegalFacts.{legal-fit}
use Rattle.jc_history.proofs.RegisterFacts.{fit-apart}
use Rattle.jc_history.proofs.RequestFacts.{made-steps, steps-same}
use Rattle.jc_sync.proofs.BeginFacts.{basis_held, begun_by}
use Rattle.jc_sync.proofs.PlanReady.{can_plan}
use Rattle.jc_runs.specs.Fates.{Fates}
use Rattle.jc_runs.specs.Machines.{AreWorkers, IsMachine, IsTeam}
use Rattle.jc_runs.specs.Teams.{Stride, Team, registers_of, stride_at, stride_by, stride_of}
use Rattle.jc_runs.proofs.CacheFacts.{done_still, run_quiet}
use Rattle.jc_runs.proofs.ListFacts.{missing, register_there, registers_put, set_itself}
use Rattle.jc_runs.proofs.NoteFacts.{IsOf, SameWorkers, after_own, nothing_new}
use Rattle.jc_runs.proofs.BackoffFacts.{failures_dated, failures_small}
use Rattle.jc_runs.proofs.BeginFacts.{begun_basis}
use Rattle.jc_runs.proofs.RunFacts.{IsDone, next_is, plannable_grown, run_one, team_before}
use Rattle.jc_runs.proofs.StepFacts.{Shown, strides}
use Rattle.jc_runs.proofs.StrideFacts.{stride_is}
use Rattle.jc_history.proofs.DeedSteps.{own}

-- The key of a sync under way is processing.
pub busy_at : (shape : Shape) (past : List Deed) (log : List Entry) (teams : List Team) (fates : Fates) (now : ℕ)
    → IsMachine shape past log teams fates now → (i : ℕ) (old : Team) → slice_get teams i ≡ Some old
    → (w : ℕ) (sync : Sync) → slice_get old.registers w ≡ Some (Some sync)
    → has_key sync.flight.basis.key old.con.schedule.queue.processing ≡ true
busy_at shape past log teams fates now run i old there w sync mine =
    let team = subst (λ log. IsTeam shape past log i old) run.log_is (run.each i old there) in
    team.schedule.queued.processing_is sync.flight.basis.key
    ∙ (fit-apart (notes shape i past (log_given shape past)) (legal-fit shape i past run.legal)).busy w sync.flight.basis (team.workers.syncs w (Some sync) mine)

-- A sync that begins can be planned, in a history that is not too long.
pub plans_at : (shape : Shape) (past : List Deed) (log : List Entry) (teams : List Team) (fates : Fates) (now : ℕ) → IsMachine shape past log teams fates now → (i : ℕ) (old : Team) → slice_get teams i ≡ Some old → length past ≤ 200000
    → (basis : Basis) → (begun now old.con).answer ≡ Begun basis → IsSome basis.job → CanPlan basis
plans_at shape past log teams fates now run i old there few basis is some = by basis.job refl some
  where
    backoff_is : basis.backoff ≡ backoff basis.key (notes shape i past (log_given shape past))
    backoff_is =
        ap (λ (b : Basis). b.backoff) (begun_basis shape past log teams fates now run i old there basis is)
        ∙ ap (λ log. backoff basis.key (notes shape i past log)) run.log_is

    short : length log < 2 ^ 31
    short = let s = run.short in omega (arith, s, few)

    failures : basis.backoff.failures ≤ 2 ^ 63
    failures = subst (λ (b : Backoff). b.failures ≤ 2 ^ 63) (sym backoff_is) (failures_small shape i past run.legal few basis.key)

    dated : IsDated basis.backoff
    dated = subst IsDated (sym backoff_is) (failures_dated shape i past run.legal few basis.key)

    by : (o : Option Job) → basis.job ≡ o → IsSome o → CanPlan basis
    by None e some = absurd (true≢false (sym some))
    by (Some job) e some =
        can_plan past log (flights_of_all (registers_of teams)) basis job run.syncs.tied run.plannable (basis_held log now old.con basis (run.each i old there).holds (begun_by now old.con basis is)) e short failures dated

gives_step : (shape : Shape) (past : List Deed) (log : List Entry) (i w : ℕ) → gives shape past log (does.Step i w)
    ≡ step_gives log (moment shape past) (made w (notes shape i past log)) (pending w (notes shape i past log))
    (register w (notes shape i past log))
unfolding gives
gives_step shape past log i w = refl

-- ---- what a step is answered, in the words of the machine

module _ (shape : Shape) (past : List Deed) (log : List Entry) (teams : List Team) (fates : Fates) (now : ℕ) (run : IsMachine shape past log teams fates now) (i : ℕ) (old : Team) (there : slice_get teams i ≡ Some old) (w : ℕ) where
  -- The worker has no sync.
  step_gives-idle : slice_get old.registers w ≡ Some None → gives shape past log (does.Step i w) ≡ refused reply.Idle
  step_gives-idle free = gives_step shape past log i w ∙ ap (step_gives log (moment shape past) (made w (notes shape i past log)) (pending w (notes shape i past log))) ((run.each i old there).workers.syncs w None free)

  -- It has one.
  step_gives-sync : (fault : Option Fault) → slice_get old.faults w ≡ Some fault → (sync : Sync) → slice_get old.registers w ≡ Some (Some sync) → gives shape past log (does.Step i w) ≡ step_done (stepped now fault log sync)
  step_gives-sync fault fault_there sync mine =
      gives_step shape past log i w
      ∙ (λ j. step_gives log (sym run.now_is j) (made-steps shape i w past log sync.flight.basis under_way j) ((run.each i old there).workers.faults w fault fault_there j) (under_way j))
      ∙ steps-same log now fault sync (steps_of i w past) known.sends (reads_next (planned sync.flight.basis) (steps_of i w past) sync.left known.reads)
    where
      known : IsRegister i w past sync
      known = run.syncs.each i w sync (register_there teams i old old there w (Some sync) mine)

      under_way : register w (notes shape i past log) ≡ Some sync.flight.basis
      under_way = (run.each i old there).workers.syncs w (Some sync) mine

  -- Either.
  pub step_gives-at : (fault : Option Fault) → slice_get old.faults w ≡ Some fault → (o : Option Sync) → slice_get old.registers w ≡ Some o
      → gives shape past log (does.Step i w) ≡ record { reply = (stride_at log now fault old.con.schedule o).reply; entry = (stride_at log now fault old.con.schedule o).entry }
  step_gives-at fault fault_there None free = step_gives-idle free
  step_gives-at fault fault_there (Some sync) mine = step_gives-sync fault fault_there sync mine

-- ---- the step of the run

module _ (shape : Shape) (past : List Deed) (log : List Entry) (teams : List Team) (fates : Fates) (now : ℕ)
    (run : IsMachine shape past log teams fates now) (next : List Entry) (d : Deed) (i : ℕ) (old new : Team)
    (there : slice_get teams i ≡ Some old) (w : ℕ)
    (within : i < shape.controllers) (working : w < shape.workers) (act : d.act ≡ does.Step i w) (fault : Option Fault) (fault_there : slice_get old.faults w ≡ Some fault) where
  own_team : IsTeam shape past log i old
  own_team = run.each i old there

  settled : MaySettle d.act (is_quiescent shape past (log_given shape past))
  settled = subst (λ act. MaySettle act (is_quiescent shape past (log_given shape past))) (sym act) tt

  abbrev older : List Note
  older = notes shape i past (log_given shape past)

  abbrev newer : List Note
  newer = notes shape i (d ∷ past) (log_given shape (d ∷ past))

  -- The worker has no sync.
  idle_run : slice_get old.registers w ≡ Some None → d.reply ≡ reply.Idle → next ≡ log → d.length.0 ≡ length next
      → new.con.schedule ≡ old.con.schedule → MirrorsLog next new.con → new.registers ≡ set old.registers w None
      → new.faults ≡ set old.faults w fault
      → IsMachine shape (d ∷ past) next (set teams i new) fates now
  idle_run free told_is grew long schedule holds registers faults =
      subst (λ log. IsMachine shape (d ∷ past) log (set teams i new) fates now) (sym grew)
      (run_quiet shape past log teams fates now run d i old new there done (subst (IsOf i) (sym act) refl) (ap began_of told_is) (ap told_step told_is)
      (subst (IsScheduleOf newer) (sym schedule) (subst (λ notes. IsScheduleOf notes old.con.schedule) (sym same) (team_before shape past log teams fates now run log d done i old there).schedule))
      (subst (λ log. MirrorsLog log new.con) grew holds) (subst (λ notes. SameWorkers notes older) (sym same) (nothing_new older))
      (registers ∙ set_itself old.registers w None free) (faults ∙ set_itself old.faults w fault fault_there))
    where
      idle : gives shape past log (does.Step i w) ≡ refused reply.Idle
      idle = step_gives-idle shape past log teams fates now run i old there w free

      done : IsDone shape past log log d
      done = done_still shape past log teams fates now run d i old new there (does.Step i w) (refused reply.Idle) act idle refl told_is (long ∙ ap (λ l. length l) grew) (within, working) settled

      same : newer ≡ older
      same = after_own shape i past d run.legal (does.Step i w) reply.Idle act told_is refl ∙ own i _ older
          ∙ ap (λ o. on_step w (moment shape past) o reply.Idle ++ older)
          ((team_before shape past log teams fates now run log d done i old there).workers.syncs w None free)

  -- It has one.
  sync_run : (sync : Sync) → slice_get old.registers w ≡ Some (Some sync) → d.reply ≡ (stepped now fault log sync).reply → next ≡ grown log (stepped now fault log sync).entry → d.length.0 ≡ length next → Stored next
      → new.con.schedule ≡ (stride_by now fault old.con.schedule sync (stepped now fault log sync)).schedule → MirrorsLog next new.con → new.registers ≡ set old.registers w (register_of (stepped now fault log sync).next)
      → new.faults ≡ set old.faults w (stride_by now fault old.con.schedule sync (stepped now fault log sync)).fault → IsMachine shape (d ∷ past) next (set teams i new) fates now
  sync_run sync mine told_is grew long stored schedule holds registers faults =
      run_one shape past log teams fates now run next d done i old new (subst (IsOf i) (sym act) refl) (record {
        schedule = subst (IsScheduleOf newer) (sym held_then) shown.schedule;
        holds = subst (λ log. MirrorsLog log new.con) (next_is shape past log teams fates now run next d done) holds;
        workers = subst (λ rs. AreWorkers newer rs new.faults) (sym registers_then) (subst (λ fs. AreWorkers newer (set old.registers w (register_of step_then.next)) fs) (sym faults_then) shown.workers);
        count = ap (λ rs. length rs) registers ∙ length-set old.registers w (register_of step.next) ∙ team.count;
        faults = ap (λ fs. length fs) faults ∙ length-set old.faults w (stride_by now fault old.con.schedule sync step).fault ∙ team.faults;
      })
      (subst (λ l. HasSyncs (d ∷ past) l (registers_of (set teams i new))) (sym grew) (subst (HasSyncs (d ∷ past) (grown log step.entry)) (registers_put teams i old new there w (register_of step.next) registers) syncs))
      (subst IsPlannable (sym grew) (plannable_grown log step.entry run.plannable (fits fault sync.left refl)))
    where
      step : Stepped
      step = stepped now fault log sync

      step_then : Stepped
      step_then = stepped (moment shape past) fault log sync

      known : IsRegister i w past sync
      known = run.syncs.each i w sync (register_there teams i old new there w (Some sync) mine)

      steps : List (Request × Answer)
      steps = steps_of i w past

      first : next_ask (planned sync.flight.basis) steps ≡ slice_get sync.left 0
      first = reads_next (planned sync.flight.basis) steps sync.left known.reads

      told_then : gives shape past log (does.Step i w) ≡ step_done step
      told_then = step_gives-sync shape past log teams fates now run i old there w fault fault_there sync mine

      done : IsDone shape past log next d
      done = record {
        reply = told_is ∙ sym (ap (λ (a : Answered). a.reply) (ap (gives shape past log) act ∙ told_then));
        grown = grew ∙ sym (ap (λ (a : Answered). grown log a.entry) (ap (gives shape past log) act ∙ told_then));
        length = long;
        within = subst (IsOfShape shape) (sym act) (within, working);
        settled = settled;
      }

      team : IsTeam shape past (log_given shape past) i old
      team = team_before shape past log teams fates now run next d done i old there

      syncs : HasSyncs (d ∷ past) (grown log step.entry) (put_at i w (register_of step.next) (registers_of teams))
      syncs = step_syncs d past log (registers_of teams) i w now fault sync run.syncs (register_there teams i old new there w (Some sync) mine) act told_is (long ∙ ap (λ l. length l) grew) (subst Stored grew stored)

      flies : Flies log sync.flight
      flies =
          let here = around i w (registers_of teams) (Some sync) (register_there teams i old new there w (Some sync) mine) in
          AllFly-one log here.front here.back sync.flight (subst (λ l. Each (Flies log) l) here.is run.syncs.tied.flying)

      fits : (pending : Option Fault) (left : List Ask) → sync.left ≡ left → IfSome (stepped_at now pending log sync.flight left).entry FitsIn
      fits pending [] l = tt
      fits None (ask ∷ left) l = asked_fits log now sync.flight run.syncs.tied.legal run.plannable flies ask left (subst (IsAt sync.flight) l known.at)
      fits (Some Drop) (ask ∷ left) l = tt
      fits (Some Lose) (ask ∷ left) l = asked_fits log now sync.flight run.syncs.tied.legal run.plannable flies ask left (subst (IsAt sync.flight) l known.at)

      held_then : new.con.schedule ≡ (stride_by (moment shape past) fault old.con.schedule sync step_then).schedule
      held_then = schedule ∙ ap (λ n. (stride_by n fault old.con.schedule sync (stepped n fault log sync)).schedule) run.now_is

      registers_then : new.registers ≡ set old.registers w (register_of step_then.next)
      registers_then = registers ∙ ap (λ n. set old.registers w (register_of (stepped n fault log sync).next)) run.now_is

      faults_then : new.faults ≡ set old.faults w (stride_by (moment shape past) fault old.con.schedule sync step_then).fault
      faults_then = faults ∙ ap (λ n. set old.faults w (stride_by n fault old.con.schedule sync (stepped n fault log sync)).fault) run.now_is

      made_then : made w older ≡ steps
      made_then = made-steps shape i w past (log_given shape past) sync.flight.basis (team.workers.syncs w (Some sync) mine)

      shown : Shown newer (stride_by (moment shape past) fault old.con.schedule sync step_then).schedule (set old.registers w (register_of step_then.next)) (set old.faults w (stride_by (moment shape past) fault old.con.schedule sync step_then).fault)
      shown =
          strides shape i w past d run.legal log old.con.schedule old.registers old.faults sync fault act team.schedule team.workers mine fault_there (ap (next_ask (planned sync.flight.basis)) made_then ∙ first)
          sync.left refl fault refl (told_is ∙ ap (λ n. (stepped n fault log sync).reply) run.now_is)

  -- Either.
  pub step_run : (register : Option Sync) → slice_get old.registers w ≡ Some register → d.reply
      ≡ (stride_at log now fault old.con.schedule register).reply → next
      ≡ grown log (stride_at log now fault old.con.schedule register).entry → d.length.0 ≡ length next → Stored next
      → new.con.schedule ≡ (stride_at log now fault old.con.schedule register).schedule → MirrorsLog next new.con → new.registers ≡ set old.registers w (stride_at log now fault old.con.schedule register).register
      → new.faults ≡ set old.faults w (stride_at log now fault old.con.schedule register).fault → IsMachine shape (d ∷ past) next (set teams i new) fates now
  step_run None mine told_is grew long stored schedule holds registers faults = idle_run mine told_is grew long schedule holds registers faults
  step_run (Some sync) mine told_is grew long stored schedule holds registers faults = sync_run sync mine told_is grew long stored schedule holds registers faults

-- In the words of the code.
module _ (shape : Shape) (past : List Deed) (log : List Entry) (teams : List Team) (fates : Fates) (now : ℕ)
    (run : IsMachine shape past log teams fates now) (next : List Entry) (d : Deed) (i : ℕ) (old new : Team)
    (there : slice_get teams i ≡ Some old) (w : ℕ)
    (within : i < shape.controllers) (working : w < shape.workers) (act : d.act ≡ does.Step i w) where
  pub step_seen : d.reply ≡ (stride_of log now old w).reply → next ≡ grown log (stride_of log now old w).entry
      → d.length.0 ≡ length next → Stored next → new.con.schedule ≡ (stride_of log now old w).schedule
      → (MirrorsLog log old.con → MirrorsLog log new.con)
      → new.registers ≡ set old.registers w (stride_of log now old w).register → new.faults ≡ set old.faults w (stride_of log now old w).fault → IsMachine shape (d ∷ past) next (set teams i new) fates now
  step_seen told_is grew long stored schedule holds registers faults = by_fault (slice_get old.faults w) refl
    where
      grown_holds : (o : Option Entry) → MirrorsLog log new.con → MirrorsLog (grown log o) new.con
      grown_holds None h = h
      grown_holds (Some e) h = grown_by e log new.con h

      all : MirrorsLog next new.con
      all = subst (λ log. MirrorsLog log new.con) (sym grew) (grown_holds (stride_of log now old w).entry (holds (run.each i old there).holds))

      by : (fault : Option Fault) → slice_get old.faults w ≡ Some fault → (register : Option Sync) → slice_get old.registers w ≡ Some register → IsMachine shape (d ∷ past) next (set teams i new) fates now
      by fault f register e =
          let is = stride_is log now old old w register fault refl e f in
          step_run shape past log teams fates now run next d i old new there w within working act fault f register e
          (told_is ∙ ap (λ (s : Stride). s.reply) is) (grew ∙ ap (λ (s : Stride). grown log s.entry) is) long stored (schedule ∙ ap (λ (s : Stride). s.schedule) is) all
          (registers ∙ ap (λ (s : Stride). set old.registers w s.register) is) (faults ∙ ap (λ (s : Stride). set old.faults w s.fault) is)

      by_register : (fault : Option Fault) → slice_get old.faults w ≡ Some fault → (o : Option (Option Sync)) → slice_get old.registers w ≡ o → IsMachine shape (d ∷ past) next (set teams i new) fates now
      by_register fault f None e = absurd (missing old.registers w (let n = (run.each i old there).count in omega (arith, n, working)) e)
      by_register fault f (Some register) e = by fault f register e

      by_fault : (o : Option (Option Fault)) → slice_get old.faults w ≡ o → IsMachine shape (d ∷ past) next (set teams i new) fates now
      by_fault None e = absurd (missing old.faults w (let n = (run.each i old there).faults in omega (arith, n, working)) e)
      by_fault (Some fault) e = by_register fault e (slice_get old.registers w) refl
