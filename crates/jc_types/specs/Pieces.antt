-- What stands in pieces of a list.
--     items_in pieces               the items, piece by piece
--     place_in pieces piece place   how many items stand before this place of this piece
--     items_left pieces piece place the items from this place of this piece on
use Rattle.std.specs.Prelude.{ℕ, ◌+◌, List, take, drop, length}
use Rattle.std.specs.List.{flat_map}

-- The items, piece by piece.
abbrev pub items_in : {X : Type 0} → List (List X) → List X
items_in pieces = flat_map (λ piece. piece) pieces

-- How many items stand before this place of this piece.
abbrev pub place_in : {X : Type 0} → List (List X) → ℕ → ℕ → ℕ
place_in pieces piece place = length (items_in (take piece pieces)) + place

-- The items from this place of this piece on.
abbrev pub items_left : {X : Type 0} → List (List X) → ℕ → ℕ → List X
items_left pieces piece place = drop (place_in pieces piece place) (items_in pieces)
