-- What a manifest says of a Job's pods (`PodTemplateSpec` and `Container` of core/v1).
use Rattle.std.specs.Prelude.{ℕ, ◌+◌, List, [], ◌∷◌, ◌++◌, Bool, true, false, not, ◌&&◌, ◌||◌, nat_lt, nat_le, length, bytes_eq, codes, Option, Some, None, is_some, option_and_then, unwrap_or, if◌then◌else◌}
use Rattle.std.specs.List.{list_any}
use Rattle.std.specs.Option.{option_or, option_map_or}
use Rattle.std.specs.Result.{result_unwrap_or}
use Rattle.serde_json.specs.Data.{Data}
use Rattle.serde_json.specs.Events.{items_len}
use Rattle.serde_json.specs.Find.{get, as_array}
use Rattle.jc_json.specs.Place.{path_to, path_at}
use Rattle.jc_json.specs.Field.{needed_text, needed_list, optional_list, item_object}
use Rattle.jc_types.specs.declared.limits.TheConstants.{MOST_CONTAINERS}
use Rattle.jc_types.specs.declared.specifications.Restart.{Restart}
use Rattle.jc_types.specs.declared.specifications.Restart.TheVariants.{Never, OnFailure}
use Rattle.jc_types.specs.declared.specifications.Template.{Template}
use Rattle.jc_rows.specs.declared.templates.ContainerNames.{ContainerNames}
use Rattle.jc_rows.specs.ManifestRows.{Row, first_refusal, each, rule_row, reads, passes, text_row, object_row, object_in}
use Rattle.jc_rows.specs.NameForms.{is_label}

-- ---- restart policies

abbrev pub restart_of : List ℕ → Option Restart
restart_of s =
    if bytes_eq s (codes "Never") then Some Never
    else if bytes_eq s (codes "OnFailure") then Some OnFailure
    else None

abbrev pub is_restart : List ℕ → Bool
is_restart s = is_some (restart_of s)

unfoldable pub restart_in : List ℕ → Data → Restart
restart_in path pod =
    unwrap_or (restart_of (result_unwrap_or (needed_text path (codes "restartPolicy") pod) [])) Never

abbrev pub never_restarts : Restart → Bool
never_restarts Never = true
never_restarts OnFailure = false

-- where failures are limited by index, no container is restarted: rule 33
abbrev pub restart_row : Bool → List ℕ → Restart → Row
restart_row by_index path restart =
    rule_row (path_to path (codes "restartPolicy")) 33 (not by_index || never_restarts restart)

-- rules 9 and 33
unfoldable pub restart_refusal : Bool → List ℕ → Data → Row
restart_refusal by_index path pod = first_refusal
    (text_row path pod (codes "restartPolicy") 9 is_restart
    ∷ restart_row by_index path (restart_in path pod)
    ∷ [])

-- ---- lists of objects

-- each item is an object
unfoldable pub objects_row : List ℕ → List Data → Row
objects_row path items = each (λ place d. reads (item_object path place d)) 0 items

unfoldable pub list_in : List ℕ → Data → List ℕ → List Data
list_in path d name = result_unwrap_or (needed_list path name d) []

unfoldable pub given_list_in : List ℕ → Data → List ℕ → List Data
given_list_in path d name = unwrap_or (result_unwrap_or (optional_list path name d) None) []

-- how many init containers there are, where their member is a list at all
unfoldable pub init_count : Data → ℕ
init_count pod = option_map_or items_len (option_and_then as_array (get (codes "initContainers") pod)) 0

-- there is a container, and there are not too many with the init containers: rule 10
abbrev pub are_right_many : ℕ → List Data → Bool
are_right_many inits containers =
    nat_lt 0 (length containers) && nat_le (length containers + inits) MOST_CONTAINERS

unfoldable pub containers_refusal : List ℕ → Data → Row
containers_refusal path pod = first_refusal
    (passes (path_to path (codes "containers")) 10 (are_right_many (init_count pod))
    (needed_list path (codes "containers") pod)
    ∷ objects_row (path_to path (codes "containers")) (list_in path pod (codes "containers"))
    ∷ [])

unfoldable pub inits_refusal : List ℕ → Data → Row
inits_refusal path pod = first_refusal
    (reads (optional_list path (codes "initContainers") pod)
    ∷ objects_row (path_to path (codes "initContainers")) (given_list_in path pod (codes "initContainers"))
    ∷ [])

-- ---- names

abbrev pub is_among : List (List ℕ) → List ℕ → Bool
is_among names s = list_any (λ name. bytes_eq name s) names

-- a name is a label, and none of the names before it: rule 11
abbrev pub is_new_label : List (List ℕ) → List (List ℕ) → List ℕ → Bool
is_new_label others earlier s = is_label s && not (is_among others s || is_among earlier s)

-- the container's path is `path`
unfoldable pub name_row : List (List ℕ) → List (List ℕ) → List ℕ → Data → Row
name_row others earlier path container =
    text_row path container (codes "name") 11 (is_new_label others earlier)

unfoldable pub container_name : List ℕ → Data → List ℕ
container_name path container = result_unwrap_or (needed_text path (codes "name") container) []

-- each container's name, from the place on, behind the names of the earlier ones
abbrev pub names_row : List ℕ → List (List ℕ) → List (List ℕ) → ℕ → List Data → Row
names_row path others earlier place [] = None
names_row path others earlier place (d ∷ ds) = option_or (name_row others earlier (path_at path place) d)
    (names_row path others (earlier ++ container_name (path_at path place) d ∷ []) (place + 1) ds)

abbrev pub names_in : List ℕ → ℕ → List Data → List (List ℕ)
names_in path place [] = []
names_in path place (d ∷ ds) = container_name (path_at path place) d ∷ names_in path (place + 1) ds

-- ---- the template

-- each container's name, then each init container's
unfoldable pub all_names_refusal : List ℕ → List Data → List Data → Row
all_names_refusal path containers inits = first_refusal
    (names_row (path_to path (codes "containers")) [] [] 0 containers
    ∷ names_row (path_to path (codes "initContainers")) (names_in (path_to path (codes "containers")) 0 containers)
    [] 0 inits
    ∷ [])

unfoldable pub all_containers_refusal : List ℕ → Data → Row
all_containers_refusal path pod = first_refusal
    (containers_refusal path pod
    ∷ inits_refusal path pod
    ∷ all_names_refusal path (list_in path pod (codes "containers")) (given_list_in path pod (codes "initContainers"))
    ∷ [])

-- rules 9 to 11, and 33
unfoldable pub pod_refusal : Bool → List ℕ → Data → Row
pod_refusal by_index path pod = first_refusal
    (restart_refusal by_index path pod
    ∷ all_containers_refusal path pod
    ∷ [])

unfoldable pub names_of_both : List ℕ → List Data → List Data → ContainerNames
names_of_both path containers inits = record {
  containers = names_in (path_to path (codes "containers")) 0 containers;
  inits = names_in (path_to path (codes "initContainers")) 0 inits;
}

unfoldable pub all_names_in : List ℕ → Data → ContainerNames
all_names_in path pod =
    names_of_both path (list_in path pod (codes "containers")) (given_list_in path pod (codes "initContainers"))

unfoldable pub template_in_pod : List ℕ → Data → Template
template_in_pod path pod = record {
  restart = restart_in path pod;
  containers = (all_names_in path pod).containers;
  inits = (all_names_in path pod).inits;
}

-- the path of the pod's specification in a Job's specification, and that specification
abbrev pub pod_path : List ℕ → List ℕ
pod_path path = path_to (path_to path (codes "template")) (codes "spec")

abbrev pub pod_spec_in : List ℕ → Data → Data
pod_spec_in path spec =
    object_in (path_to path (codes "template")) (object_in path spec (codes "template")) (codes "spec")

unfoldable pub template_refusal : Bool → List ℕ → Data → Row
template_refusal by_index path spec = first_refusal
    (object_row path spec (codes "template")
    ∷ object_row (path_to path (codes "template")) (object_in path spec (codes "template")) (codes "spec")
    ∷ pod_refusal by_index (pod_path path) (pod_spec_in path spec)
    ∷ [])

unfoldable pub template_in : List ℕ → Data → Template
template_in path spec = template_in_pod (pod_path path) (pod_spec_in path spec)
