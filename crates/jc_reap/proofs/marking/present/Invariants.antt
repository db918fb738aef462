-- The UIDs of the Jobs so far.
use Rattle.std.proofs.Common.{map}
use Rattle.jc_reap.specs.Reaping.{HasUids}
use Rattle.jc_reap.proofs.marking.present.Given as goal

abbrev pub invariant-loop-job : goal.invariant-loop-job
invariant-loop-job l = HasUids l.uids (map (λ job. job.now) l.yielded)
