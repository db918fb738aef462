use Rattle.std.proofs.Common.{◌≡◌, take}
use Rattle.jc_types.proofs.lists.copied_slice.Given as goal

-- The items copied so far are those before the index.
abbrev pub invariant-loop-item : goal.invariant-loop-item
invariant-loop-item g l = l.copied.items ≡ take l.item-index l.items
