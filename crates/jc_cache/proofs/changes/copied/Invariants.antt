use Rattle.std.proofs.Common.{◌≡◌, ◌++◌}
use Rattle.jc_cache.proofs.changes.copied.Given as goal

-- The copies so far and the changes that are left are all changes.
abbrev pub invariant-loop-uid : goal.invariant-loop-uid
invariant-loop-uid l = l.copies.entries ++ l.uid-iterator ≡ l.changes.entries
