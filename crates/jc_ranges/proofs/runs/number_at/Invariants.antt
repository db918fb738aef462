use Rattle.std.proofs.Common.{◌≡◌, drop}
use Rattle.std.specs.List.{flat_map, slice_get}
use Rattle.jc_ranges.specs.Texts.{numbers}
use Rattle.jc_ranges.proofs.runs.number_at.Given as goal

-- The number stands at the place that is left among the numbers of the runs from the index on.
abbrev pub invariant-loop-run : goal.invariant-loop-run
invariant-loop-run l = slice_get (flat_map numbers l.runs) l.place ≡ slice_get (flat_map numbers (drop l.run-index l.runs)) l.left
