use Rattle.std.proofs.Common.{◌≡◌, ◌++◌}
use Rattle.jc_cache.proofs.pods.copied_rows.Given as goal

-- The copies so far and the rows that are left are all rows.
abbrev pub invariant-loop-owner : goal.invariant-loop-owner
invariant-loop-owner l = l.copies.entries ++ l.owner-iterator ≡ l.rows.entries
