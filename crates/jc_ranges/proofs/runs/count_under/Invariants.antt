use Rattle.std.proofs.Common.{◌≡◌, take}
use Rattle.std.specs.List.{flat_map}
use Rattle.jc_ranges.specs.Sets.{count_below}
use Rattle.jc_ranges.specs.Texts.{numbers}
use Rattle.jc_ranges.proofs.runs.count_under.Given as goal

-- The numbers of the runs before the index are counted.
abbrev pub invariant-loop-run : goal.invariant-loop-run
invariant-loop-run l = l.count ≡ count_below l.n (flat_map numbers (take l.run-index l.runs))
