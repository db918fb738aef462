use Rattle.std.proofs.Common.{◌≡◌, ◌≤◌, ◌++◌, length, take}
use Rattle.jc_types.specs.Pieces.{items_left}
use Rattle.jc_types.proofs.pieces.spot_behind.Given as goal

-- The items before the index stand between the given spot and this one.
abbrev pub invariant-loop-item : goal.invariant-loop-item
invariant-loop-item l = record {
  within : l.spot.piece ≤ length l.pieces;
  same : items_left l.pieces l.fn.from.piece l.fn.from.place ≡ take l.item-index l.items ++ items_left l.pieces l.spot.piece l.spot.place;
}
