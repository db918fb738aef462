use Rattle.std.proofs.Common.{None, get_or}
use Rattle.jc_types.specs.Keys.{same_uid}
use Rattle.jc_log.specs.Tables.{at}
use Rattle.jc_failpol.specs.declared.outcomes.Outcome.TheVariants.{Alive}
use Rattle.jc_verdicts.proofs.FrontFacts.{ends-more}
use Rattle.jc_verdicts.proofs.VerdictRows.{noted_more}
use Rattle.jc_verdicts.proofs.rows.add_outcomes.Goals as goal

-- One row more is added.
pub loop-row-preserved : goal.loop-row-preserved
loop-row-preserved c = record {
  outcomes =
      λ u.
      noted_more u (at same_uid c.args.known.now.entries u) (at same_uid c.loop-row.known.entries u)
      (at same_uid c.add_outcome.new.known.entries u) c.args.rows.now c.loop-row.row-index
      (record { uid = record { 0 = 0 }; outcome = Alive; index = None }) c.loop-row-test.true (c.loop-row.invariant.outcomes u)
      (c.in_ok-add_outcome.ensures u);
  last =
      ends-more (get_or c.args.rows.now c.loop-row.row-index (record { uid = record { 0 = 0 }; outcome = Alive; index = None })) c.loop-row.last c.greater.result (at same_uid c.loop-row.known.entries) (at same_uid c.add_outcome.new.known.entries)
      c.loop-row.invariant.last c.greater.ensures.left c.greater.ensures.right c.in_ok-add_outcome.ensures;
}
