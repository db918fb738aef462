use Rattle.std.proofs.Common.{◌≡◌, ◌≤◌, length, map, take}
use Rattle.jc_types.specs.Keys.{same_uid}
use Rattle.jc_log.specs.Tables.{at}
use Rattle.jc_verdicts.specs.Verdicts.{row_for, waiting}
use Rattle.jc_verdicts.proofs.rows.waiting_rows.Given as goal

-- The rows so far are those of the pods before the index, and no more than there may be.
abbrev pub invariant-loop-pod : goal.invariant-loop-pod
invariant-loop-pod l = record {
  rows : l.new.items ≡ map (row_for l.spec) (waiting l.spec (at same_uid l.known.entries) (take l.pod-index l.pods));
  few : length l.new.items ≤ l.most;
}
