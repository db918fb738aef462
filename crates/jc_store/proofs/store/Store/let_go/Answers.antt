use Rattle.std.proofs.Common.{Some, ap, ◌∙◌}
use Rattle.jc_log.proofs.StepFacts.{goes_from_pod, release_step}
use Rattle.jc_store.proofs.store.Store.let_go.Goals as goal

pub put_pod-requires-clause-step : goal.put_pod-requires-clause-step
put_pod-requires-clause-step c =
    goes_from_pod c.args.pod c.args.self.now c.deref-3.result.now c.in_ok-released.released (ap Some c.deref-3.ensures ∙ c.in-Some.ensures)
    (release_step c.deref-3.result.now c.in_ok-version.version c.in_ok-released.released c.in_ok-released.ensures)
