use Rattle.std.proofs.Common.{◌≡◌, take}
use Rattle.jc_queue.proofs.copied.copied_set.Given as goal

-- The set has the keys before the index.
abbrev pub invariant-loop-key : goal.invariant-loop-key
invariant-loop-key l = l.set.keys ≡ take l.key-index l.keys
