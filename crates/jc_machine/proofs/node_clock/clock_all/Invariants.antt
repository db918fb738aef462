use Rattle.std.proofs.Common.{◌≡◌, ◌++◌, length, map, take, drop}
use Rattle.jc_runs.specs.Teams.{clocked_team}
use Rattle.jc_machine.proofs.node_clock.clock_all.Given as goal

-- The controllers before this one are clocked.
abbrev pub invariant-loop-i : goal.invariant-loop-i
invariant-loop-i l = record {
  clocked : l.members.items ≡ map (clocked_team l.now) (take l.i l.initial.members.items) ++ drop l.i l.initial.members.items;
  count : length l.members.items ≡ length l.initial.members.items;
}
