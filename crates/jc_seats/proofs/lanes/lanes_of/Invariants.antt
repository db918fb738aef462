use Rattle.std.proofs.Common.{◌≤◌, take}
use Rattle.jc_core.specs.Places.{most_lanes}
use Rattle.jc_seats.specs.Names.{AreLanesBelow}
use Rattle.jc_seats.proofs.lanes.lanes_of.Given as goal

-- The commands before this one are of lanes below what was found.
abbrev pub invariant-loop-command : goal.invariant-loop-command
invariant-loop-command l = AreLanesBelow l.lanes (take l.command-index l.commands) × (l.lanes ≤ most_lanes)
