use Rattle.std.proofs.Common.{◌≡◌, true, take}
use Rattle.std.specs.List.{AllByRecursion, flat_map}
use Rattle.jc_ranges.specs.Sets.{has}
use Rattle.jc_ranges.specs.Texts.{numbers}
use Rattle.jc_ranges.proofs.set.has_runs.Given as goal

-- The set has all numbers of the runs before the index.
abbrev pub invariant-loop-run : goal.invariant-loop-run
invariant-loop-run l = AllByRecursion (λ n. has n l.set ≡ true) (flat_map numbers (take l.run-index l.runs))
