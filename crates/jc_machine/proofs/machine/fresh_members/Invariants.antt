use Rattle.std.proofs.Common.{◌≡◌, length}
use Rattle.std.specs.List.{AllByRecursion as Each}
use Rattle.jc_runs.specs.Teams.{KnowsNothing}
use Rattle.jc_machine.proofs.machine.fresh_members.Given as goal

-- So many controllers so far, and none knows anything.
abbrev pub invariant-loop : goal.invariant-loop
invariant-loop l = record {
  count : length l.members.items ≡ l.counter;
  fresh : Each (KnowsNothing l.workers) l.members.items;
}
