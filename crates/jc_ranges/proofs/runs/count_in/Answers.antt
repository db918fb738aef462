use Rattle.std.proofs.Common.{◌+◌, ◌-◌, suc, arith}
use Rattle.jc_ranges.proofs.Counts.{count_range}
use Rattle.jc_ranges.proofs.runs.count_in.Goals as goal

pub returns-then-n-run : goal.returns-then-n-run
returns-then-n-run c = count_range c.args.run.first (suc c.args.run.last - c.args.run.first) c.args.n 0 (omega arith) (λ j q. absurd (omega arith)) (λ j q r. omega arith)

pub returns-then-n-run-2 : goal.returns-then-n-run-2
returns-then-n-run-2 c =
    count_range c.args.run.first (suc c.args.run.last - c.args.run.first) c.args.n (c.args.n - c.args.run.first) (omega arith) (λ j q. omega arith) (λ j q r. omega arith)

pub returns-else-n-run-2 : goal.returns-else-n-run-2
returns-else-n-run-2 c =
    count_range c.args.run.first (suc c.args.run.last - c.args.run.first) c.args.n (c.args.run.last - c.args.run.first + 1) (omega arith) (λ j q. omega arith) (λ j q r. absurd (omega arith))
