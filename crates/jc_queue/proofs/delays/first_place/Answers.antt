use Rattle.std.proofs.Common.{arith}
use Rattle.jc_queue.proofs.DelayFacts.{first_from}
use Rattle.jc_queue.proofs.delays.first_place.Goals as goal

pub loop-place-preserved : goal.loop-place-preserved
loop-place-preserved c =
    first_from c.args.rows.now.entries c.loop-place.place _ c.sooner_place.result c.loop-place.first (omega (arith, c.loop-place-test.true))
    c.loop-place.invariant c.sooner_place.ensures
