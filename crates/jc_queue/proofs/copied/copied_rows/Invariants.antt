use Rattle.std.proofs.Common.{◌≡◌, take}
use Rattle.jc_queue.proofs.copied.copied_rows.Given as goal

-- The table has the rows before the place.
abbrev pub invariant-loop-place : goal.invariant-loop-place
invariant-loop-place g l = l.table.entries ≡ take l.place l.rows.entries
