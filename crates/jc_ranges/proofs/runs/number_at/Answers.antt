use Rattle.jc_ranges.proofs.Apart.{run_at}
use Rattle.jc_ranges.proofs.Counts.{get_here, get_more}
use Rattle.jc_ranges.proofs.runs.number_at.Goals as goal

pub overflow_sub-more : goal.overflow_sub-more
overflow_sub-more c = (run_at 0 c.args.runs.now c.loop-run.run-index _ c.requires c.loop-run-test.true).ordered

pub returns-then-left-more : goal.returns-then-left-more
returns-then-left-more c =
    get_here c.args.runs.now c.args.place c.loop-run.run-index c.loop-run.left (record { first = 0; last = 0 }) c.requires c.loop-run-test.true c.loop-run.invariant c.if-left-more.true

pub loop-run-preserved : goal.loop-run-preserved
loop-run-preserved c =
    get_more c.args.runs.now c.args.place c.loop-run.run-index c.loop-run.left (record { first = 0; last = 0 }) c.requires c.loop-run-test.true c.loop-run.invariant c.if-left-more.false
