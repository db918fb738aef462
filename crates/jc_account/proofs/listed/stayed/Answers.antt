use Rattle.std.proofs.Common.{length, ap, arith}
use Rattle.jc_states.specs.Bases.{own_pods}
use Rattle.jc_account.specs.Judged.{has_tracked}
use Rattle.jc_account.proofs.Owned.{filter-shorter}
use Rattle.jc_account.proofs.listed.stayed.Goals as goal

pub returns-clause-shorter : goal.returns-clause-shorter
returns-clause-shorter c =
    omega (arith, ap length c.loop-uid.invariant, filter-shorter (has_tracked (own_pods c.args.job.now c.args.pods.now)) c.loop-uid.uid-index c.args.uids.now)
