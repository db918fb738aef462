use Rattle.std.proofs.Common.{◌≡◌, ◌≤◌, length, take}
use Rattle.jc_types.specs.Pieces.{items_in}
use Rattle.jc_perindex.proofs.Placed.{place}
use Rattle.jc_perindex.proofs.counts.first_from.Given as goal

-- The counts of the pieces before the index are passed, and all are below.
abbrev pub invariant-loop-piece : goal.invariant-loop-piece
invariant-loop-piece l = record {
  passed : l.passed ≡ length (items_in (take l.piece-index l.pieces));
  below : length (items_in (take l.piece-index l.pieces)) ≤ place l.index (items_in (take l.piece-index l.pieces));
}
