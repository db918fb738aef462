use Rattle.jc_seats.specs.Names.{AreUsedFrom}
use Rattle.jc_seats.proofs.lanes.lanes_left.Given as goal

-- Each lane from here on is used up.
abbrev pub invariant-loop-lane : goal.invariant-loop-lane
invariant-loop-lane l = AreUsedFrom l.lane l.cluster.seen
