-- One more container was gone through.
use Rattle.std.proofs.Common.{◌++◌, option_to_list, ap, sym, ◌∙◌}
use Rattle.jc_history.specs.Nodes.{killed}
use Rattle.jc_node.proofs.ChangeFacts.{killed-more}
use Rattle.jc_node.proofs.changes.kills.Goals as goal

pub loop-container-preserved : goal.loop-container-preserved
loop-container-preserved c =
    c.in_ok-kill.ensures
    ∙ ap (λ changes. changes ++ option_to_list (killed c.container-item.result)) c.loop-container.invariant
    ∙ sym
    (killed-more c.args.containers.now c.loop-container.container-index c.container-item.result
    c.loop-container-test.true c.container-item.is)
