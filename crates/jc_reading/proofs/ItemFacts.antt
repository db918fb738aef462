-- Lists of containers, item by item.
use Rattle.std.proofs.Common.{◌≡◌, ◌≤◌, ℕ, List, [], ◌∷◌, map, take, length, refl, ap, ◌∙◌}
use Rattle.std.proofs.lemmas.List.{take_all}
use Rattle.serde_json.specs.Data.{Data, item}
use Rattle.serde_json.specs.View.{items_of, items_view, view}
use Rattle.serde_json.specs.declared.value.Value.{Value}
use Rattle.jc_reading.specs.Manifested.{container_named, items_named}

pub all_named : (ds : List Data) → items_of (map container_named ds) ≡ items_named (items_of ds)
all_named [] = refl
all_named (d ∷ ds) = ap (item (container_named d)) (all_named ds)

-- What the loop over the names has made is a container for each.
pub all_made : (vs made : List Value) (n : ℕ) → length vs ≤ n → map view made ≡ map container_named (map view (take n vs))
    → items_view made ≡ items_named (items_view vs)
all_made vs made n over is =
    ap items_of (is ∙ ap (λ us. map container_named (map view us)) (take_all n vs over)) ∙ all_named (map view vs)
