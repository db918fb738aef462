-- The items of an array as a list.
use Rattle.std.proofs.Common.{◌≡◌, List, [], ◌∷◌, map, refl, ap}
use Rattle.serde_json.specs.Data.{Data}
use Rattle.serde_json.specs.View.{items_of}
use Rattle.jc_json.specs.View.{view, items_view}
use Rattle.jc_json.specs.declared.value.Value.{Value}
use Rattle.jc_json.specs.Field.{listed_items}

pub items_listed : (ds : List Data) → listed_items (items_of ds) ≡ ds
items_listed [] = refl
items_listed (d ∷ ds) = ap (λ rest. d ∷ rest) (items_listed ds)

-- what a slice of values shows is the list of its items
pub items_seen : (values : List Value) → listed_items (items_view values) ≡ map view values
items_seen values = items_listed (map view values)
