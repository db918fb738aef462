use Rattle.std.proofs.Common.{◌≡◌, replicate, None}
use Rattle.jc_lanes.proofs.lanes.Lanes.of_none.Given as goal

-- So many lanes so far.
abbrev pub invariant-loop : goal.invariant-loop
invariant-loop l = l.next.items ≡ replicate l.counter None
