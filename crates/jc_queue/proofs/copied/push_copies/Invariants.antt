use Rattle.std.proofs.Common.{◌≡◌, ◌++◌, take}
use Rattle.jc_queue.proofs.copied.push_copies.Given as goal

-- The keys before the index are added.
abbrev pub invariant-loop-key : goal.invariant-loop-key
invariant-loop-key l = l.keys.items ≡ l.fn.keys.items ++ take l.key-index l.more
