use Rattle.std.proofs.Common.{◌≡◌, take}
use Rattle.jc_states.proofs.pod_lists.are_same.Given as goal

-- The pods before the index are equal.
abbrev pub invariant-loop-i : goal.invariant-loop-i
invariant-loop-i l = take l.i l.left ≡ take l.i l.right
