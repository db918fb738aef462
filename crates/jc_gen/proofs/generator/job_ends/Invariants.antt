-- So far as many ends as turns, and in each the pod fails.
use Rattle.std.proofs.Common.{◌≡◌, replicate, pos}
use Rattle.jc_gen.specs.Generated.{end_with}
use Rattle.jc_gen.proofs.generator.job_ends.Given as goal

abbrev pub invariant-loop-failure : goal.invariant-loop-failure
invariant-loop-failure l = l.ends ≡ replicate l._failure (end_with (pos 1))
