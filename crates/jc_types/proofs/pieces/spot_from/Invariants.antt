use Rattle.std.proofs.Common.{◌≡◌}
use Rattle.jc_types.specs.Pieces.{place_in}
use Rattle.jc_types.proofs.pieces.spot_from.Given as goal

-- What is left of the place lies as far from the piece's begin as the given spot.
abbrev pub invariant-loop-number : goal.invariant-loop-number
invariant-loop-number l = place_in l.pieces l.number l.left ≡ place_in l.pieces l.fn.from.piece l.fn.from.place
