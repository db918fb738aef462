-- The open pod that is found is the first that something can befall.
use Rattle.std.proofs.Common.{Some, ap, arith, option_map, sym, ◌∙◌}
use Rattle.jc_history.specs.Nodes.{act_on}
use Rattle.jc_log.specs.Log.{pods_in}
use Rattle.jc_log.proofs.PodFacts.{pods_in-rises}
use Rattle.jc_node.specs.Fated.{ends_at_key}
use Rattle.jc_node.specs.NodeSteps.{act_kind, step_of}
use Rattle.jc_node.proofs.NextFacts.{first-none, first-step, found-from, found-within, nothing_up_to, untold}
use Rattle.jc_node.proofs.steps.node_step.Goals as goal

pub returns-in-Some-act_on : goal.returns-in-Some-act_on
returns-in-Some-act_on c =
    first-step (ends_at_key c.args.fates.now) c.pods.from (pods_in c.args.store.now) c.deref.result.now c.in-Some-act_on.act
    c.pods.invariant (sym (ap Some c.deref.ensures ∙ c.in-Some.ensures))
    (c.in-Some-act_on.ensures ∙ ap (λ pod. option_map act_kind (act_on (ends_at_key c.args.fates.now) pod)) (c.deref-in-Some.ensures ∙ sym c.deref.ensures))

pub overflow_add-from : goal.overflow_add-from
overflow_add-from c =
    omega (
      arith,
      found-within c.args.store.now c.pods.from c.deref.result.now c.can_count_on.ensures.within (sym (ap Some c.deref.ensures ∙ c.in-Some.ensures)),
      c.can_count_on.ensures.small,
    )

pub pods-smaller : goal.pods-smaller
pods-smaller c =
    omega (
      arith,
      found-within c.args.store.now c.pods.from c.deref.result.now c.can_count_on.ensures.within (sym (ap Some c.deref.ensures ∙ c.in-Some.ensures)),
      found-from c.pods.from (pods_in c.args.store.now) c.deref.result.now (sym (ap Some c.deref.ensures ∙ c.in-Some.ensures)),
    )

pub pods-preserved : goal.pods-preserved
pods-preserved c =
    nothing_up_to (ends_at_key c.args.fates.now) 0 c.pods.from (pods_in c.args.store.now) c.deref.result.now
    (pods_in-rises c.args.store.now) c.pods.invariant (sym (ap Some c.deref.ensures ∙ c.in-Some.ensures))
    (untold (ends_at_key c.args.fates.now) c.deref.result.now
    (c.in_default-act_on.ensures ∙ ap (λ pod. option_map act_kind (act_on (ends_at_key c.args.fates.now) pod)) (c.deref-in-Some.ensures ∙ sym c.deref.ensures)))

pub returns : goal.returns
returns c =
    ap (option_map step_of)
    (sym
    (first-none (ends_at_key c.args.fates.now) c.pods.from (pods_in c.args.store.now) c.pods.invariant
    (sym c.in_default.ensures)))
