use Rattle.std.proofs.Common.{take}
use Rattle.jc_seats.specs.Names.{AreLanes}
use Rattle.jc_seats.proofs.lanes.lanes_are_bytes.Given as goal

-- The commands before this one have lanes.
abbrev pub invariant-loop-command : goal.invariant-loop-command
invariant-loop-command l = AreLanes (take l.command-index l.commands)
