use Rattle.std.proofs.Common.{sym, subst}
use Rattle.jc_ranges.specs.Sets.{IsIncreasing}
use Rattle.jc_types.specs.Keys.{same_uid}
use Rattle.jc_log.specs.Tables.{at}
use Rattle.jc_ledger.proofs.DoneFacts.{increases_kept}
use Rattle.jc_verdicts.specs.Verdicts.{success_indexes}
use Rattle.jc_verdicts.proofs.rows.take_successes.Goals as goal
use Rattle.jc_perindex.proofs.Sets.{increasing-join as increases_join}

-- What stays of the indexes is in order.
pub put_successes-requires : goal.put_successes-requires
put_successes-requires c = subst IsIncreasing (sym c.retain_indexes.ensures) (increases_kept c.args.job.now c.args.done.now.items c.requires)

-- So it is with the new ones.
pub returns-clause-order : goal.returns-clause-order
returns-clause-order c =
    subst IsIncreasing (sym c.in_ok-put_successes.ensures)
    (increases_join c.retain_indexes.new.done.items (success_indexes c.args.job.now (at same_uid c.args.known.now.entries) c.args.pods.now)
    (subst IsIncreasing (sym c.retain_indexes.ensures) (increases_kept c.args.job.now c.args.done.now.items c.requires)))
