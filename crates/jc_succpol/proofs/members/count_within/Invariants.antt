use Rattle.std.proofs.Common.{◌≡◌, ◌+◌, ◌≤◌, drop}
use Rattle.jc_succpol.specs.SuccessRules.{count_within}
use Rattle.jc_succpol.proofs.members.count_within.Given as goal

-- The count so far, with the completed indexes from this place on that are among the indexes.
abbrev pub invariant-loop-place : goal.invariant-loop-place
invariant-loop-place l = record {
  counted : count_within l.indexes l.completed ≡ l.count + count_within l.indexes (drop l.place l.completed);
  few : l.count ≤ l.place;
}
