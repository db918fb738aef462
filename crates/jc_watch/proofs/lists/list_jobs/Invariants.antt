use Rattle.std.proofs.Common.{◌≡◌, map}
use Rattle.jc_watch.proofs.lists.list_jobs.Given as goal

abbrev pub invariant-loop-job : goal.invariant-loop-job
invariant-loop-job l = l.list ≡ map (λ j. j.now) l.yielded
