use Rattle.std.proofs.Common.{◌+◌, arith}
use Rattle.jc_ranges.proofs.Apart.{run_at}
use Rattle.jc_ranges.proofs.Counts.{count_more, count_few}
use Rattle.jc_ranges.proofs.runs.count_under.Goals as goal

pub count_in-count-requires-clause-ordered : goal.count_in-count-requires-clause-ordered
count_in-count-requires-clause-ordered c = (run_at 0 c.args.runs.now c.loop-run.run-index _ c.requires c.loop-run-test.true).ordered

pub count_in-count-requires-clause-small : goal.count_in-count-requires-clause-small
count_in-count-requires-clause-small c = (run_at 0 c.args.runs.now c.loop-run.run-index _ c.requires c.loop-run-test.true).small

pub overflow_add-count : goal.overflow_add-count
overflow_add-count c =
    let more = count_more c.args.n c.args.runs.now c.loop-run.run-index (record { first = 0; last = 0 }) c.loop-run-test.true in
    let few = count_few c.args.n c.args.runs.now (c.loop-run.run-index + 1) c.requires in
    omega (arith, more, few, c.loop-run.invariant, c.count_in-count.ensures)

pub loop-run-preserved : goal.loop-run-preserved
loop-run-preserved c =
    let more = count_more c.args.n c.args.runs.now c.loop-run.run-index (record { first = 0; last = 0 }) c.loop-run-test.true in
    omega (arith, more, c.loop-run.invariant, c.count_in-count.ensures)
