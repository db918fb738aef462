use Rattle.std.proofs.Common.{◌≡◌, ◌≤◌, take}
use Rattle.jc_account.specs.Modes.{gained}
use Rattle.jc_account.proofs.indexes.count_new.Given as goal

-- The count so far is that of the members before the place.
abbrev pub invariant-loop-place : goal.invariant-loop-place
invariant-loop-place l = record {
  counted : l.count ≡ gained l.before (take l.place l.after);
  few : l.count ≤ l.place;
}
