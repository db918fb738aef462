use Rattle.std.proofs.Common.{◌≡◌, take}
use Rattle.jc_types.proofs.lists.same_slices.Given as goal

-- The items before the index are equal.
abbrev pub invariant-loop-i : goal.invariant-loop-i
invariant-loop-i g l = take l.i l.left ≡ take l.i l.right
