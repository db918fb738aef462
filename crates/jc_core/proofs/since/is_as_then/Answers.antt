use Rattle.std.proofs.Common.{reverse, ap, ◌∙◌}
use Rattle.jc_types.specs.declared.actions.Script.{Script}
use Rattle.jc_core.proofs.SinceFacts.{since-stays, since-told}
use Rattle.jc_core.proofs.since.is_as_then.Goals as goal

pub returns-clause-exactly : goal.returns-clause-exactly
returns-clause-exactly c =
    since-told c.args.machine.now c.args.controller c.args.worker c.args.events c.min-from.result
    c.as_slice-all.result.now c.script.result.now.commands c.is_touched.result
    (ap reverse c.as_slice-all.ensures ∙ c.history.ensures.events)
    (ap (λ (s : Script). s.commands) c.script.ensures) c.min-from.ensures c.is_touched.ensures

pub returns-clause-stays : goal.returns-clause-stays
returns-clause-stays c =
    since-stays c.args.machine.now c.args.controller c.args.worker c.args.events c.min-from.result
    c.as_slice-all.result.now c.script.result.now.commands c.is_touched.result
    (ap reverse c.as_slice-all.ensures ∙ c.history.ensures.events)
    (ap (λ (s : Script). s.commands) c.script.ensures) c.history.ensures.legal c.min-from.ensures
    c.is_touched.ensures
