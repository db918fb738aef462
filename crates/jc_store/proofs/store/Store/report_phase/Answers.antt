use Rattle.std.proofs.Common.{◌&&◌, Some, ap, fold, map, sym, ◌∙◌}
use Rattle.jc_types.specs.declared.objects.Phase.TheVariants.{Pending, Running}
use Rattle.jc_types.specs.Equality.{same_phase}
use Rattle.jc_states.specs.Pods.{is_final}
use Rattle.jc_log.specs.Log.{pod_in}
use Rattle.jc_log.specs.Requests.{changed_container, put_pattern}
use Rattle.jc_log.proofs.StepFacts.{goes_from_pod, report_step}
use Rattle.jc_store.proofs.store.Store.report_phase.Goals as goal

pub put_pod-requires-clause-step : goal.put_pod-requires-clause-step
put_pod-requires-clause-step c =
    goes_from_pod c.args.pod c.containers_after.new.self c.deref-5.result.now c.in_ok-changed.changed (ap Some (c.deref-5.ensures ∙ c.in_ok-found.ensures) ∙ c.in-Some.ensures ∙ ap (pod_in c.args.pod) (sym c.in_ok-containers.ensures.kept))
    (report_step c.deref-5.result.now c.in_ok-version.version c.args.change.now c.in_ok-changed.changed
    (ap (λ p. is_final p.phase) (c.deref-5.ensures ∙ sym c.deref.ensures) ∙ sym c.is_final.ensures ∙ c.if-is_final.false)
    (ap (λ p. same_phase p.phase Running && same_phase c.args.change.now.phase Pending) (c.deref-5.ensures ∙ sym c.deref-2.ensures)
    ∙ sym c.is_step_back.ensures ∙ c.if-is_step_back.false)
    (c.in_ok-changed.ensures
    ∙ ap (λ containers. record c.deref-5.result.now {
      version = c.in_ok-version.version;
      phase = c.args.change.now.phase;
      containers = containers;
      conditions = fold put_pattern c.deref-5.result.now.conditions c.args.change.now.conditions;
    })
    (c.in_ok-containers.ensures.containers ∙ ap (λ p. map (changed_container c.args.change.now.containers) p.containers) (c.deref-4.ensures ∙ sym c.deref-5.ensures))))
