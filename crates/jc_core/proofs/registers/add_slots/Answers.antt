use Rattle.std.proofs.Common.{[], ◌∷◌, ◌++◌, ap, ◌∙◌}
use Rattle.jc_core.proofs.SlotFacts.{worker-more}
use Rattle.jc_core.proofs.registers.add_slots.Goals as goal

pub loop-worker-preserved : goal.loop-worker-preserved
loop-worker-preserved c =
    c.in_ok-push.ensures.items
    ∙ ap (λ slot. c.loop-worker.slots.items ++ slot ∷ []) c.fresh_slot.ensures
    ∙ worker-more c.args.slots.now.items c.loop-worker.slots.items c.args.controller c.loop-worker.worker c.loop-worker.invariant
