use Rattle.std.proofs.Common.{◌≡◌, take}
use Rattle.jc_manage.proofs.lists.list_of.Given as goal

-- The items so far are those before the index.
abbrev pub invariant-loop-item : goal.invariant-loop-item
invariant-loop-item g l = l.list ≡ take l.item-index l.items
