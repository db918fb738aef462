-- So far the commands of the Jobs before the i-th.
use Rattle.std.proofs.Common.{◌≡◌}
use Rattle.std.specs.Prelude.{flat_map}
use Rattle.std.specs.List.{range_with_len}
use Rattle.jc_gen.specs.Generated.{job_commands}
use Rattle.jc_gen.proofs.generator.generate.Given as goal

abbrev pub invariant-loop-i : goal.invariant-loop-i
invariant-loop-i l = l.commands ≡ flat_map (job_commands l.fn.number l.fn.pods) (range_with_len 0 l.i)
