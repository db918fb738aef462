use Rattle.std.proofs.Common.{sym, ap, ◌∙◌, lt-ltb, arith}
use Rattle.jc_log.specs.Deeds.{act_of_event}
use Rattle.jc_ledger.specs.Syncs.{stepper}
use Rattle.jc_verdicts.proofs.VerdictSteps.{sync_at-found}
use Rattle.jc_verdicts.proofs.events.written_sync.Goals as goal

-- The sync of the write began at the last begin of its worker.
pub returns : goal.returns
returns c =
    sync_at-found c.args.script.now c.args.past.now c.args.before.now (record { controller = c.in_ok-controller.controller; worker = c.in_ok-controller.worker }) c.args.starts.now _ (sym c.is_status.ensures ∙ c.if-not-is_status.false)
    (lt-ltb _ _ (omega (arith, c.if-past-reach.false, c.reach.ensures)))
    (ap (λ commands. stepper (act_of_event commands c.args.past.now.event)) (sym c.as_slice.ensures)
    ∙ sym c.stepper.ensures ∙ c.in_ok-controller.was) c.requires.starts c.last_start.ensures
