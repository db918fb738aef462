use Rattle.std.proofs.Common.{◌≡◌, ◌<◌, ℕ, None, Some, slice_get}
use Rattle.jc_lanes.proofs.lanes.are_none.Given as goal

-- The places before this one are none.
abbrev pub invariant-loop-i : goal.invariant-loop-i
invariant-loop-i l = (k : ℕ) → k < l.i → slice_get l.next k ≡ Some None
