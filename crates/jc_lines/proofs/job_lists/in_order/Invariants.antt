-- The Jobs so far.
use Rattle.std.proofs.Common.{◌≡◌}
use Rattle.jc_lines.proofs.job_lists.in_order.Given as goal

abbrev pub invariant-loop-job : goal.invariant-loop-job
invariant-loop-job l = l.list ≡ l.yielded
