use Rattle.std.proofs.Common.{◌≡◌, slice_get, drop}
use Rattle.jc_history.specs.Legal.{places_from}
use Rattle.jc_lanes.proofs.lanes.next_from.Given as goal

-- None of the commands from the first place on and before this one is of the lane.
abbrev pub invariant-loop-place : goal.invariant-loop-place
invariant-loop-place l =
    slice_get (places_from l.lane l.from (drop l.from l.commands)) 0 ≡ slice_get (places_from l.lane l.place (drop l.place l.commands)) 0
