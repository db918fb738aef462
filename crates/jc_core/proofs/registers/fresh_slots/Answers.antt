use Rattle.std.proofs.Common.{◌∙◌}
use Rattle.jc_core.proofs.SlotFacts.{controller-more}
use Rattle.jc_core.proofs.registers.fresh_slots.Goals as goal

pub loop-controller-preserved : goal.loop-controller-preserved
loop-controller-preserved c = c.in_ok-add_slots.ensures ∙ controller-more c.loop-controller.slots.items c.loop-controller.controller c.args.shape.now.workers c.loop-controller.invariant
