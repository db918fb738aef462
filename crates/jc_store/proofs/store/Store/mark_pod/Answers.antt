use Rattle.std.proofs.Common.{Some, ap, sym, ◌∙◌}
use Rattle.jc_states.specs.Pods.{is_marked}
use Rattle.jc_log.proofs.StepFacts.{goes_from_pod, mark_step}
use Rattle.jc_store.proofs.store.Store.mark_pod.Goals as goal

pub put_pod-requires-clause-step : goal.put_pod-requires-clause-step
put_pod-requires-clause-step c =
    goes_from_pod c.args.pod c.args.self.now c.deref-2.result.now c.in_ok-marked.marked (ap Some c.deref-2.ensures ∙ c.in-Some.ensures)
    (mark_step c.deref-2.result.now c.in_ok-version.version c.args.now c.in_ok-marked.marked
    (ap is_marked (c.deref-2.ensures ∙ sym c.deref.ensures) ∙ sym c.is_marked.ensures ∙ c.if-is_marked.false) c.in_ok-marked.ensures)
