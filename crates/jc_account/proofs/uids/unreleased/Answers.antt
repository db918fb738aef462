use Rattle.std.proofs.Common.{length, not, ap, arith}
use Rattle.jc_states.specs.UidLists.{is_in}
use Rattle.jc_account.proofs.Owned.{filter-shorter}
use Rattle.jc_account.proofs.uids.unreleased.Goals as goal

pub returns-clause-shorter : goal.returns-clause-shorter
returns-clause-shorter c =
    omega (arith, ap length c.loop-uid.invariant.rest, filter-shorter (λ u. not (is_in u c.args.released.now)) c.loop-uid.uid-index c.args.uids.now)
