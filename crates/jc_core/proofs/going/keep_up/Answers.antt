use Rattle.std.proofs.Common.{◌∙◌}
use Rattle.jc_core.proofs.ToldFacts.{told-on}
use Rattle.jc_core.proofs.going.keep_up.Goals as goal

pub loop-past-preserved : goal.loop-past-preserved
loop-past-preserved c = record {
  left =
      told-on c.args.script.now.commands c.args.events.now c.loop-past.past-index c.past-item.result
      c.loop-past.slots.items c.touch_all.new.slots.items c.args.slots.now.items c.touch_of_event-touch.result
      c.loop-past-test.true c.past-item.is c.touch_of_event-touch.ensures c.touch_all.ensures.slots
      c.loop-past.invariant.left;
  numbers = c.touch_all.ensures.numbers ∙ c.loop-past.invariant.numbers;
}
