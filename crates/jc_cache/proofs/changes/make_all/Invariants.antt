use Rattle.jc_cache.proofs.ChangeFacts.{Making}
use Rattle.jc_cache.proofs.changes.make_all.Given as goal

-- Some of the changes are made, and those of the iterator are left.
abbrev pub invariant-loop-uid : goal.invariant-loop-uid
invariant-loop-uid l = Making l.changes.entries l.uid-iterator l.initial.pods l.pods
