use Rattle.std.proofs.Common.{[], take}
use Rattle.jc_lanes.specs.Places.{HasPlaces}
use Rattle.jc_lanes.proofs.lanes.Lanes.new.Given as goal

-- So the lanes are of the commands before this place.
abbrev pub invariant-loop-place : goal.invariant-loop-place
invariant-loop-place l = HasPlaces (take l.place l.commands) [] l.lanes
