use Rattle.std.proofs.Common.{◌<◌, length, set, ap, ◌∙◌, arith}
use Rattle.std.proofs.lemmas.List.{length-set}
use Rattle.jc_play.proofs.Clocks.{put_next}
use Rattle.jc_core.specs.RegisterChanges.{changed_slot}
use Rattle.jc_core.proofs.changes.change_each.Goals as goal

pub loop-i-preserved : goal.loop-i-preserved
loop-i-preserved c =
    let test = c.loop-i-test.true in
    let count = c.len-i-end.ensures in
    let within : c.loop-i.i < length c.args.slots.now.items = omega (arith, test, count) in
    record {
      made =
          ap (λ t. set c.loop-i.slots.items c.loop-i.i t) c.changed_slot.ensures
          ∙ put_next (changed_slot c.args.change) c.args.slots.now.items c.loop-i.slots.items c.loop-i.i c.index.result.now within c.loop-i.invariant.made c.index.ensures;
      count = length-set c.loop-i.slots.items c.loop-i.i c.changed_slot.result ∙ c.loop-i.invariant.count;
    }
