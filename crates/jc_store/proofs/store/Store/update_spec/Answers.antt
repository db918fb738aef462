use Rattle.std.proofs.Common.{Some, ap, sym, ◌∙◌}
use Rattle.jc_log.proofs.StepFacts.{spec_step, steps_from_job}
use Rattle.jc_store.proofs.store.Store.update_spec.Goals as goal

pub put_job-requires-clause-step : goal.put_job-requires-clause-step
put_job-requires-clause-step c =
    steps_from_job c.args.key.now c.args.self.now c.deref-8.result.now c.in_ok-changed.changed (ap Some c.deref-8.ensures ∙ c.in-Some.ensures)
    (spec_step c.deref-8.result.now c.in_ok-version.version c.args.change.now c.deref-5.result.now c.in_ok-spec.spec
    c.in_ok-new.field-0 c.in_ok-changed.changed (c.deref-5.ensures ∙ ap (λ j. j.spec) (c.deref-4.ensures ∙ sym c.deref-8.ensures)) c.in_ok-spec.ensures c.in_ok-new.ensures c.in_ok-changed.ensures)
