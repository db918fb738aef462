-- How many items a list has.
use Rattle.std.proofs.Common.{◌≡◌, refl, ap, suc, List, [], ◌∷◌, length}
use Rattle.serde_json.specs.Events.{items_len}
use Rattle.jc_json.specs.View.{items_view}
use Rattle.jc_json.specs.declared.value.Value.{Value}

-- as many as its values
pub items_counted : (values : List Value) → items_len (items_view values) ≡ length values
items_counted [] = refl
items_counted (v ∷ vs) = ap suc (items_counted vs)
