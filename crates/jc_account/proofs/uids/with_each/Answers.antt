use Rattle.std.proofs.Common.{length, drop, ap, arith, length-drop}
use Rattle.jc_account.proofs.Totals.{merge-few}
use Rattle.jc_account.proofs.uids.with_each.Goals as goal

pub returns-clause-no_longer : goal.returns-clause-no_longer
returns-clause-no_longer c =
    let rest = drop c.loop-place.place c.args.more.now in
    omega (arith, ap length c.loop-place.invariant, merge-few c.args.uids.now rest, length-drop c.loop-place.place c.args.more.now)
