-- Requests of commands about pods: the store alone.
use Rattle.std.proofs.Common.{◌≡◌, ℕ, ℤ, List, ◌∷◌, length, Option, Some, None, refl, sym, ap, ◌∙◌, subst}
use Rattle.jc_log.specs.Acts as does
use Rattle.jc_types.specs.declared.actions.PhaseChange.{PhaseChange}
use Rattle.jc_types.specs.declared.numbers.Uid.{Uid}
use Rattle.jc_types.specs.declared.objects.Entry.{Entry}
use Rattle.jc_types.specs.declared.objects.Pod.{Pod}
use Rattle.jc_types.specs.declared.runs.Shape.{Shape}
use Rattle.jc_log.specs.Log.{pod_in}
use Rattle.jc_log.specs.Requests.{Answered, grown, mark_pod_gives, release_gives, report_phase_at, report_phase_gives}
use Rattle.jc_log.specs.Acts.{Act}
use Rattle.jc_log.specs.Deeds.{Deed}
use Rattle.jc_log.specs.Writes.{Stored}
use Rattle.jc_history.specs.Available.{is_quiescent}
use Rattle.jc_history.specs.Legal.{IsOfShape, MaySettle}
use Rattle.jc_history.specs.Nodes.{finish_change, start_change}
use Rattle.jc_history.specs.Replies.{finish_gives, gives, log_given}
use Rattle.jc_sync.specs.Plannable.{AppendsFit}
use Rattle.jc_sync.specs.AllRegisters.{HasSyncs, IsAnswered, Registers}
use Rattle.jc_sync.proofs.CommandFacts.{mark_keeps, report_keeps, strip_keeps}
use Rattle.jc_sync.proofs.FitFacts.{mark_fits, release_fits, report_fits}
use Rattle.jc_runs.specs.Fates.{Fates}
use Rattle.jc_runs.specs.Machines.{IsMachine}
use Rattle.jc_runs.specs.Teams.{Team, registers_of}
use Rattle.jc_runs.proofs.NoteFacts.{IsStoreAct}
use Rattle.jc_runs.proofs.StoreFacts.{store_event}

-- ---- a pod that finishes

-- What the finish of a pod is answered.
abbrev pub finished_gives : List Entry → Uid → ℤ → Answered
finished_gives log uid exit = finish_gives log (pod_in uid log) (λ pod. report_phase_gives log uid (finish_change pod exit))

-- A pod that is not there is answered as to a report.
finish_keeps : (d : Deed) (past : List Deed) (log : List Entry) (rs : Registers) → HasSyncs past log rs → (uid : Uid) (exit : ℤ) → IsAnswered d past log rs (finished_gives log uid exit)
finish_keeps d past log rs h uid exit = by (pod_in uid log) refl
  where
    by : (o : Option Pod) → pod_in uid log ≡ o → IsAnswered d past log rs (finish_gives log o (λ pod. report_phase_gives log uid (finish_change pod exit)))
    by None is = subst (IsAnswered d past log rs) (ap (report_phase_at log start_change) is) (report_keeps d past log rs h uid start_change)
    by (Some pod) is = report_keeps d past log rs h uid (finish_change pod exit)

module _ (shape : Shape) (past : List Deed) (log : List Entry) (teams : List Team) (fates : Fates) (now : ℕ) (run : IsMachine shape past log teams fates now) (next : List Entry) (d : Deed) where
  finish_fits : (uid : Uid) (exit : ℤ) → AppendsFit (finished_gives log uid exit)
  finish_fits uid exit = by (pod_in uid log)
    where
      by : (o : Option Pod) → AppendsFit (finish_gives log o (λ pod. report_phase_gives log uid (finish_change pod exit)))
      by None = tt
      by (Some pod) = report_fits log run.syncs.tied.legal run.plannable uid (finish_change pod exit)

  -- ---- the table of events

  pub mark_is : (pod : Uid) → gives shape past log (does.Mark pod) ≡ mark_pod_gives log pod now
  unfolding gives
  mark_is pod = ap (mark_pod_gives log pod) (sym run.now_is)

  pub strip_is : (pod : Uid) → gives shape past log (does.Strip pod) ≡ release_gives log pod
  unfolding gives
  strip_is pod = refl

  pub report_is : (pod : Uid) (change : PhaseChange) → gives shape past log (does.Report pod change) ≡ report_phase_gives log pod change
  unfolding gives
  report_is pod change = refl

  pub finish_is : (uid : Uid) (exit : ℤ) → gives shape past log (does.Finish uid exit) ≡ finished_gives log uid exit
  unfolding gives
  finish_is uid exit = refl

  may : (act : Act) → d.act ≡ act → MaySettle act (is_quiescent shape past (log_given shape past)) → MaySettle d.act (is_quiescent shape past (log_given shape past))
  may act e m = subst (λ act. MaySettle act (is_quiescent shape past (log_given shape past))) (sym e) m

  -- ---- the events

  -- A pod is marked for deletion.
  pub marked : (pod : Uid) → d.act ≡ does.Mark pod → d.reply ≡ (mark_pod_gives log pod now).reply → next ≡ grown log (mark_pod_gives log pod now).entry → d.length.0 ≡ length next → Stored next
      → IsMachine shape (d ∷ past) next teams fates now
  marked pod act told grew long stored =
      store_event shape past log teams fates now run next d (mark_pod_gives log pod now) (subst IsStoreAct (sym act) tt) (subst (IsOfShape shape) (sym act) tt) (may (does.Mark pod) act tt)
      (ap (gives shape past log) act ∙ mark_is pod) told grew long stored (mark_keeps d past log (registers_of teams) run.syncs pod now)
      (mark_fits log run.syncs.tied.legal run.plannable pod now)

  -- A pod loses its finalizer by a command.
  pub stripped : (pod : Uid) → d.act ≡ does.Strip pod → d.reply ≡ (release_gives log pod).reply → next ≡ grown log (release_gives log pod).entry → d.length.0 ≡ length next → Stored next
      → IsMachine shape (d ∷ past) next teams fates now
  stripped pod act told grew long stored =
      store_event shape past log teams fates now run next d (release_gives log pod) (subst IsStoreAct (sym act) tt) (subst (IsOfShape shape) (sym act) tt) (may (does.Strip pod) act tt)
      (ap (gives shape past log) act ∙ strip_is pod) told grew long stored (strip_keeps d past log (registers_of teams) run.syncs pod)
      (release_fits log run.syncs.tied.legal run.plannable pod)

  -- A pod's phase is reported.
  pub reported : (pod : Uid) (change : PhaseChange) → d.act ≡ does.Report pod change → d.reply ≡ (report_phase_gives log pod change).reply → next ≡ grown log (report_phase_gives log pod change).entry → d.length.0 ≡ length next → Stored next
      → IsMachine shape (d ∷ past) next teams fates now
  reported pod change act told grew long stored =
      store_event shape past log teams fates now run next d (report_phase_gives log pod change) (subst IsStoreAct (sym act) tt) (subst (IsOfShape shape) (sym act) tt) (may (does.Report pod change) act tt)
      (ap (gives shape past log) act ∙ report_is pod change) told grew long stored (report_keeps d past log (registers_of teams) run.syncs pod change)
      (report_fits log run.syncs.tied.legal run.plannable pod change)

  -- A pod finishes by a command.
  pub finished : (pod : Uid) (exit : ℤ) → d.act ≡ does.Finish pod exit → d.reply ≡ (finished_gives log pod exit).reply → next ≡ grown log (finished_gives log pod exit).entry → d.length.0 ≡ length next → Stored next
      → IsMachine shape (d ∷ past) next teams fates now
  finished pod exit act told grew long stored =
      store_event shape past log teams fates now run next d (finished_gives log pod exit) (subst IsStoreAct (sym act) tt) (subst (IsOfShape shape) (sym act) tt) (may (does.Finish pod exit) act tt)
      (ap (gives shape past log) act ∙ finish_is pod exit) told grew long stored (finish_keeps d past log (registers_of teams) run.syncs pod exit)
      (finish_fits pod exit)
