use Rattle.std.proofs.Common.{◌≡◌, take}
use Rattle.jc_ranges.proofs.runs.same_runs.Given as goal

-- The runs before the index are equal.
abbrev pub invariant-loop-i : goal.invariant-loop-i
invariant-loop-i l = take l.i l.left ≡ take l.i l.right
