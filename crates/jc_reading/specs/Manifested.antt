-- The manifest that the printed value of a specification is turned into: its Job has the key, and its template has the
-- pod's specification, whose containers are objects with a name each.
--     pod_spec_of template       the pod's specification, by the printed template
--     manifest_spec spec         the specification of a manifest
--     manifest_data key spec     the manifest
use Rattle.std.specs.Prelude.{codes, Option, Some, option_and_then, unwrap_or}
use Rattle.std.specs.Option.{option_map_or}
use Rattle.serde_json.specs.Data.{Data, null, string, array, object, Items, no_items, item, Members, no_members, put}
use Rattle.serde_json.specs.Find.{get, as_array, as_object}
use Rattle.jc_types.specs.declared.objects.KeyNames.{KeyNames as Key}

-- a container of that name
abbrev pub container_named : Data → Data
container_named name = object (put (codes "name") name no_members)

abbrev pub items_named : Items → Items
items_named no_items = no_items
items_named (item d ds) = item (container_named d) (items_named ds)

-- containers of these names, where they are a list
abbrev pub all_named : Option Data → Data
all_named names = option_map_or (λ items. array (items_named items)) (option_and_then as_array names) null

abbrev pub members_in : Option Data → Members
members_in given = unwrap_or (option_and_then as_object given) no_members

unfoldable pub pod_spec_of : Option Data → Data
pod_spec_of template =
    object (put (codes "initContainers") (all_named (option_and_then (get (codes "initContainers")) template))
    (put (codes "containers") (all_named (option_and_then (get (codes "containers")) template)) (members_in template)))

unfoldable pub manifest_spec : Data → Data
manifest_spec spec =
    object (put (codes "template") (object (put (codes "spec") (pod_spec_of (get (codes "template") spec)) no_members))
    (members_in (Some spec)))

unfoldable pub metadata_data : Key → Data
metadata_data key =
    object (put (codes "namespace") (string key.namespace) (put (codes "name") (string key.name) no_members))

unfoldable pub manifest_data : Key → Data → Data
manifest_data key spec =
    object (put (codes "spec") (manifest_spec spec) (put (codes "metadata") (metadata_data key)
    (put (codes "kind") (string (codes "Job")) (put (codes "apiVersion") (string (codes "batch/v1")) no_members))))
