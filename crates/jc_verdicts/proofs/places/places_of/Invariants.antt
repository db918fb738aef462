use Rattle.std.proofs.Common.{reverse, take}
use Rattle.jc_verdicts.specs.LogPlaces.{ArePlaces}
use Rattle.jc_verdicts.proofs.places.places_of.Given as goal

-- The lists so far are those of the entries before the place.
abbrev pub invariant-loop-place : goal.invariant-loop-place
invariant-loop-place l = ArePlaces (reverse (take l.place l.log)) l.places
