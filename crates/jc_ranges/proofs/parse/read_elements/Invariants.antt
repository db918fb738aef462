use Rattle.std.proofs.Common.{◌<◌, length}
use Rattle.std.specs.List.{AllByRecursion, flat_map}
use Rattle.jc_ranges.specs.Texts.{numbers, StandApart}
use Rattle.jc_ranges.proofs.Rising.{ReadSoFar}
use Rattle.jc_ranges.proofs.parse.read_elements.Given as goal

-- What was read of the text, in runs that stand apart and end below the next number.
abbrev pub invariant-loop-first : goal.invariant-loop-first
invariant-loop-first l = ReadSoFar l.text l.rest (flat_map numbers l.runs.items) l.low l.at × (StandApart 0 l.runs.items × AllByRecursion (λ run. run.last < l.low) l.runs.items)

abbrev pub decreases-loop-first : goal.decreases-loop-first
decreases-loop-first l = length l.rest
