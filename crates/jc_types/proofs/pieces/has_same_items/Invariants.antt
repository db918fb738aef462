use Rattle.std.proofs.Common.{◌≡◌, ◌≤◌, ◌++◌, length, take}
use Rattle.jc_types.specs.Pieces.{items_in, items_left}
use Rattle.jc_types.proofs.pieces.has_same_items.Given as goal

-- The items of the pieces before the index stand before the spot.
abbrev pub invariant-loop-piece : goal.invariant-loop-piece
invariant-loop-piece l = record {
  within : l.spot.piece ≤ length l.right;
  same : items_in l.right ≡ items_in (take l.piece-index l.left) ++ items_left l.right l.spot.piece l.spot.place;
}
