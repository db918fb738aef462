use Rattle.std.proofs.Common.{◌≡◌, ◌++◌}
use Rattle.jc_node.proofs.fates.copied_rows.Given as goal

-- The copies so far and the rows that are left are all rows.
abbrev pub invariant-loop-key : goal.invariant-loop-key
invariant-loop-key l = l.copies.entries ++ l.key-iterator ≡ l.rows.entries
