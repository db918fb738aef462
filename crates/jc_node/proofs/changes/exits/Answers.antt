-- One more container has its code.
use Rattle.std.proofs.Common.{FitsSigned, rules, w32}
use Rattle.std.proofs.lemmas.Int.{to_z-of_z}
use Rattle.jc_node.proofs.ChangeFacts.{exits-step}
use Rattle.jc_node.proofs.changes.exits.Goals as goal

pub loop-container-preserved : goal.loop-container-preserved
loop-container-preserved c =
    let taken : FitsSigned w32 c.code_for.result = search rules in
    let left : FitsSigned w32 c.code_after-code.result = search rules in
    exits-step _ _ c.code_for.result _ c.code_after-code.result _ c.args.containers.now c.loop-container.changes
    c.push.new.self c.in_ok-with_exit.field-0 c.loop-container.container-index c.container-item.result
    c.loop-container-test.true c.container-item.is c.loop-container.invariant c.code_for.ensures
    (to_z-of_z w32 c.code_for.result taken) c.in_ok-with_exit.ensures c.in_ok-push.ensures.added
    c.code_after-code.ensures (to_z-of_z w32 c.code_after-code.result left)
