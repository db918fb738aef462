use Rattle.std.proofs.Common.{◌<◌, length, set, ap, ◌∙◌, arith}
use Rattle.std.proofs.lemmas.List.{length-set}
use Rattle.jc_runs.specs.Teams.{clocked_team}
use Rattle.jc_machine.proofs.Clocks.{put_next}
use Rattle.jc_machine.proofs.node_clock.clock_all.Goals as goal

pub loop-i-preserved : goal.loop-i-preserved
loop-i-preserved c =
    let test = c.loop-i-test.true in
    let count = c.len-i-end.ensures in
    let within : c.loop-i.i < length c.args.members.now.items = omega (arith, test, count) in
    record {
      clocked =
          ap (λ t. set c.loop-i.members.items c.loop-i.i t) c.clock.ensures
          ∙ put_next (clocked_team c.args.now) c.args.members.now.items c.loop-i.members.items c.loop-i.i c.index_mut.result.now within c.loop-i.invariant.clocked c.index_mut.ensures.value;
      count = length-set c.loop-i.members.items c.loop-i.i c.clock.new.self ∙ c.loop-i.invariant.count;
    }
