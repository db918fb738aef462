use Rattle.std.proofs.Common.{Some, is_some, option_copied, refl, sym, ap, ◌∙◌, subst, true≢false}
use Rattle.std.specs.Option.{IsSome}
use Rattle.jc_types.specs.declared.objects.Pod.{Pod}
use Rattle.jc_history.specs.Replies.{version_in}
use Rattle.jc_node.specs.Fated.{ends_at_key}
use Rattle.jc_machine.proofs.NodeCalls.{next_of, step_pod, step_replies, step_writes, told_act}
use Rattle.jc_machine.proofs.node_clock.report_step.Goals as goal

pub unreachable-requires : goal.unreachable-requires
unreachable-requires c = let n = next_of c.args.store.now (ends_at_key c.args.fates.now) c.args.step.now c.requires in true≢false (sym (ap is_some (sym (ap option_copied c.in_default.is) ∙ c.pod.ensures ∙ n.there)))

pub change-requires-clause-pod : goal.change-requires-clause-pod
change-requires-clause-pod c = step_pod c.args.store.now (ends_at_key c.args.fates.now) c.args.step.now
    (next_of c.args.store.now (ends_at_key c.args.fates.now) c.args.step.now c.requires) c.deref-2.result.now
    (ap (λ p. Some p) c.deref-2.ensures ∙ sym (ap option_copied c.in-Some.is) ∙ c.pod.ensures)

pub change-requires-clause-fate : goal.change-requires-clause-fate
change-requires-clause-fate c = subst IsSome
    (sym (told_act c.args.store.now (ends_at_key c.args.fates.now) c.args.step.now
    (next_of c.args.store.now (ends_at_key c.args.fates.now) c.args.step.now c.requires) c.deref-2.result.now
    (ap (λ p. Some p) c.deref-2.ensures ∙ sym (ap option_copied c.in-Some.is) ∙ c.pod.ensures))) refl

pub returns-clause-reply : goal.returns-clause-reply
returns-clause-reply c = step_replies c.args.store.now (ends_at_key c.args.fates.now) c.args.step.now
    (next_of c.args.store.now (ends_at_key c.args.fates.now) c.args.step.now c.requires) c.deref-2.result.now
    (ap (λ p. Some p) c.deref-2.ensures ∙ sym (ap option_copied c.in-Some.is) ∙ c.pod.ensures) c.in_ok-change.change
    c.in_ok-change.ensures c.in_ok-told.told c.version_in.result c.in_ok-told.ensures.0
    (c.version_in.ensures ∙ ap (λ (p : Pod). version_in c.in_ok-told.told p.version)
    (c.deref.ensures ∙ sym c.deref-2.ensures))

pub returns-clause-log : goal.returns-clause-log
returns-clause-log c = step_writes c.args.store.now (ends_at_key c.args.fates.now) c.args.step.now
    (next_of c.args.store.now (ends_at_key c.args.fates.now) c.args.step.now c.requires) c.deref-2.result.now
    (ap (λ p. Some p) c.deref-2.ensures ∙ sym (ap option_copied c.in-Some.is) ∙ c.pod.ensures) c.in_ok-change.change
    c.in_ok-change.ensures c.report_phase.new.self c.in_ok-told.ensures.1
