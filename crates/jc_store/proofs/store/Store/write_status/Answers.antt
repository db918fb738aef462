use Rattle.std.proofs.Common.{Some, ap, ◌∙◌}
use Rattle.jc_log.proofs.StepFacts.{status_step, steps_from_job}
use Rattle.jc_store.proofs.store.Store.write_status.Goals as goal

pub put_job-requires-clause-step : goal.put_job-requires-clause-step
put_job-requires-clause-step c =
    steps_from_job c.args.key.now c.args.self.now c.deref-6.result.now c.in_ok-changed.changed (ap Some c.deref-6.ensures ∙ c.in-Some.ensures)
    (status_step c.deref-6.result.now c.in_ok-version.version c.args.status.now c.in_ok-changed.changed c.in_ok-changed.ensures)
