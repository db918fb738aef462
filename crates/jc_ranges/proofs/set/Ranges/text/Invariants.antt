use Rattle.std.proofs.Common.{◌≡◌, ◌++◌, drop, map}
use Rattle.std.specs.Prelude.{string_bytes}
use Rattle.std.specs.List.{flat_map}
use Rattle.jc_ranges.specs.Texts.{ranges_text, written, element}
use Rattle.jc_ranges.proofs.Consecutive.{behind}
use Rattle.jc_ranges.proofs.set.Ranges.text.Given as goal

-- The text so far, before the elements of the runs from the index on, is the whole text.
abbrev pub invariant-loop-run : goal.invariant-loop-run
invariant-loop-run l = string_bytes l.out ++ behind (map element (flat_map written (drop l.run-index l.run-items))) ≡ ranges_text l.self
