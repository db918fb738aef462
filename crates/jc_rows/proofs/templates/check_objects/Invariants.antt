use Rattle.std.proofs.Common.{◌≡◌, map, drop}
use Rattle.jc_json.specs.View.{view}
use Rattle.jc_json.specs.Field.{item_object}
use Rattle.jc_rows.specs.ManifestRows.{each, reads}
use Rattle.jc_rows.proofs.templates.check_objects.Given as goal

-- what the items so far leave open
abbrev pub invariant-loop-place : goal.invariant-loop-place
invariant-loop-place l =
    each (λ place d. reads (item_object l.path place d)) l.place (map view (drop l.place l.items))
    ≡ each (λ place d. reads (item_object l.path place d)) 0 (map view l.items)
