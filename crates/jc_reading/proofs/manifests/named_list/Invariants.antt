-- So far the containers of the names before.
use Rattle.std.proofs.Common.{◌≡◌, map, take}
use Rattle.serde_json.specs.View.{view}
use Rattle.jc_reading.specs.Manifested.{container_named}
use Rattle.jc_reading.proofs.manifests.named_list.Given as goal

abbrev pub invariant-loop-name : goal.invariant-loop-name
invariant-loop-name l = map view l.items.items ≡ map container_named (map view (take l.name-index l.names))
