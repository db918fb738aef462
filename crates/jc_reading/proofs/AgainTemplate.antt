-- A printed template, turned into that of a manifest, is read back.
use Rattle.std.proofs.Common.{◌≡◌, ℕ, ◌+◌, List, [], ◌∷◌, ◌++◌, map, length, Bool, true, false, not, ◌&&◌, ◌||◌, codes, Option, Some, None, is_some, Ok, refl, ap, ap₂, ◌∙◌, arith}
use Rattle.std.specs.Prelude.{nat_le, nat_lt, ok_or, option_and_then, unwrap_or}
use Rattle.std.specs.Option.{option_map_or}
use Rattle.std.specs.Result.{result_unwrap_or}
use Rattle.serde_json.specs.Data.{Data, null, string, array, object, Items, item, Members, no_members, put}
use Rattle.serde_json.specs.Events.{items_len}
use Rattle.serde_json.specs.Find.{get, as_array}
use Rattle.serde_json.specs.View.{items_of}
use Rattle.jc_json.specs.Place.{path_to, path_at}
use Rattle.jc_json.specs.Field.{◌>>=◌, member_of, unless_null, missing, listed_items, list_of, object_of, text_of, may_be, needed_list, needed_object, needed_text, optional_list, item_object}
use Rattle.jc_types.specs.declared.limits.TheConstants.{MOST_CONTAINERS}
use Rattle.jc_types.specs.declared.specifications.JobSpec.{JobSpec}
use Rattle.jc_types.specs.declared.specifications.Restart.{Restart}
use Rattle.jc_types.specs.declared.specifications.Restart.TheVariants.{Never, OnFailure}
use Rattle.jc_types.specs.declared.specifications.Template.{Template}
use Rattle.jc_reading.specs.Allowed.{are_new_labels, IsAllowedSpec}
use Rattle.jc_reading.specs.Manifested.{all_named, container_named, items_named, pod_spec_of}
use Rattle.jc_print.specs.PrintedMembers.{with_json_member, texts_data}
use Rattle.jc_print.specs.PrintedSpecs.{restart_word, template_data, with_template}
use Rattle.jc_rows.specs.ManifestRows.{rule_row, each, reads, passes, text_row, object_row, object_in}
use Rattle.jc_rows.specs.Templates.{never_restarts, restart_of, is_restart, restart_in, restart_refusal, restart_row, objects_row, list_in, given_list_in, init_count, are_right_many, containers_refusal, inits_refusal, is_new_label}
use Rattle.jc_rows.specs.Templates.{name_row, container_name, names_row, names_in, all_names_refusal, all_containers_refusal, pod_refusal, names_of_both, all_names_in, template_in_pod, pod_path, pod_spec_in, template_refusal, template_in}
use Rattle.jc_reading.proofs.AgainHead.{made, manifest_rows, pod_member}
use Rattle.jc_reading.proofs.Found.{puts, get_found, member_found}
use Rattle.jc_rows.proofs.RowFacts.{none_or}
use Rattle.jc_json.proofs.Items.{items_listed as listed}
use Rattle.jc_manifest.proofs.IndexSetFacts.{left, right}

-- ---- what a member says, by what is found

pub text_needed : (path name : List ℕ) (d : Data) (s : List ℕ) → member_of name d ≡ Some (string s) → needed_text path name d ≡ Ok s
unfolding needed_text
text_needed path name d s is = ap (λ o. ok_or o (missing (path_to path name)) >>= text_of (path_to path name)) is

pub list_needed : (path name : List ℕ) (d : Data) (items : Items) → member_of name d ≡ Some (array items) → needed_list path name d ≡ Ok (listed_items items)
unfolding needed_list
list_needed path name d items is = ap (λ o. ok_or o (missing (path_to path name)) >>= list_of (path_to path name)) is

pub list_given : (path name : List ℕ) (d : Data) (items : Items) → member_of name d ≡ Some (array items) → optional_list path name d ≡ Ok (Some (listed_items items))
unfolding optional_list
list_given path name d items is = ap (may_be (list_of (path_to path name))) is

pub object_needed : (path name : List ℕ) (d : Data) (ms : Members) → member_of name d ≡ Some (object ms) → needed_object path name d ≡ Ok (object ms)
unfolding needed_object
object_needed path name d ms is = ap (λ o. ok_or o (missing (path_to path name)) >>= object_of (path_to path name)) is

pub text_row_passes : (path name : List ℕ) (d : Data) (rule : ℕ) (test : List ℕ → Bool) (s : List ℕ) → member_of name d ≡ Some (string s) → test s ≡ true → text_row path d name rule test ≡ None
unfolding text_row
text_row_passes path name d rule test s is good =
    ap (passes (path_to path name) rule test) (text_needed path name d s is) ∙ ap (rule_row (path_to path name) rule) good

pub object_row_passes : (path name : List ℕ) (d : Data) (ms : Members) → member_of name d ≡ Some (object ms) → object_row path d name ≡ None
unfolding object_row
object_row_passes path name d ms is = ap reads (object_needed path name d ms is)

pub object_read : (path name : List ℕ) (d : Data) (ms : Members) → member_of name d ≡ Some (object ms) → object_in path d name ≡ object ms
unfolding object_in
object_read path name d ms is = ap (λ r. result_unwrap_or r null) (object_needed path name d ms is)

pub list_read : (path name : List ℕ) (d : Data) (items : Items) → member_of name d ≡ Some (array items) → list_in path d name ≡ listed_items items
unfolding list_in
list_read path name d items is = ap (λ r. result_unwrap_or r []) (list_needed path name d items is)

-- ---- containers of names

-- the objects that have these names
abbrev named : List (List ℕ) → List Data
named [] = []
named (name ∷ names) = container_named (string name) ∷ named names

named_items : (names : List (List ℕ)) → items_named (items_of (map string names)) ≡ items_of (named names)
named_items [] = refl
named_items (name ∷ names) = ap (item (container_named (string name))) (named_items names)

counted : (names : List (List ℕ)) → items_len (items_of (named names)) ≡ length names
counted [] = refl
counted (name ∷ names) = let more = counted names in omega (arith, more)

as_many : (names : List (List ℕ)) → length (named names) ≡ length names
as_many [] = refl
as_many (name ∷ names) = let more = as_many names in omega (arith, more)

name_found : (name : List ℕ) → member_of (codes "name") (container_named (string name)) ≡ Some (string name)
unfolding member_of
name_found name = refl

name_again : (path name : List ℕ) → container_name path (container_named (string name)) ≡ name
unfolding container_name
name_again path name = ap (λ r. result_unwrap_or r []) (text_needed path (codes "name") (container_named (string name)) name (name_found name))

names_again : (path : List ℕ) (place : ℕ) (names : List (List ℕ)) → names_in path place (named names) ≡ names
names_again path place [] = refl
names_again path place (name ∷ names) = ap₂ (λ n ns. n ∷ ns) (name_again (path_at path place) name) (names_again path (place + 1) names)

names_pass : (path : List ℕ) (others earlier : List (List ℕ)) (place : ℕ) (names : List (List ℕ)) → are_new_labels others earlier names ≡ true
    → names_row path others earlier place (named names) ≡ None
unfolding name_row
names_pass path others earlier place [] good = refl
names_pass path others earlier place (name ∷ names) good =
    let d = container_named (string name) in
    none_or _ _ (text_row_passes (path_at path place) (codes "name") d 11 (is_new_label others earlier) name (name_found name) (left _ _ good))
    (ap (λ n. names_row path others (earlier ++ n ∷ []) (place + 1) (named names)) (name_again (path_at path place) name)
    ∙ names_pass path others (earlier ++ name ∷ []) (place + 1) names (right (is_new_label others earlier name) _ good))

objects_pass : (path : List ℕ) (place : ℕ) (names : List (List ℕ)) → each (λ place d. reads (item_object path place d)) place (named names) ≡ None
unfolding item_object
objects_pass path place [] = refl
objects_pass path place (name ∷ names) = objects_pass path (place + 1) names

-- ---- the pod

abbrev template_rows : Template → List (List ℕ × Option Data)
template_rows template =
    (codes "restartPolicy", Some (string (restart_word template.restart)))
    ∷ (codes "initContainers", Some (texts_data template.inits))
    ∷ (codes "containers", Some (texts_data template.containers)) ∷ []

abbrev pod_rows : Template → List (List ℕ × Option Data)
pod_rows template =
    (codes "initContainers", Some (array (items_of (named template.inits))))
    ∷ (codes "containers", Some (array (items_of (named template.containers))))
    ∷ template_rows template

abbrev pod : Template → Data
pod template = object (puts (pod_rows template))

template_puts : (template : Template) → template_data template ≡ object (puts (template_rows template))
unfolding template_data with_template with_json_member
template_puts template = refl

pod_puts : (template : Template) → pod_spec_of (Some (template_data template)) ≡ pod template
unfolding pod_spec_of
pod_puts template =
    ap (λ t. pod_spec_of (Some t)) (template_puts template)
    ∙ ap₂ (λ i c. object (put (codes "initContainers") (all_named i) (put (codes "containers") (all_named c) (puts (template_rows template)))))
    (get_found (codes "initContainers") (template_rows template)) (get_found (codes "containers") (template_rows template))
    ∙ ap₂ (λ i c. object (put (codes "initContainers") (array i) (put (codes "containers") (array c) (puts (template_rows template)))))
    (named_items template.inits) (named_items template.containers)

module _ (path : List ℕ) (t : Template) where
  inits_found : member_of (codes "initContainers") (pod t) ≡ Some (array (items_of (named t.inits)))
  inits_found = member_found (codes "initContainers") (pod_rows t)

  containers_found : member_of (codes "containers") (pod t) ≡ Some (array (items_of (named t.containers)))
  containers_found = member_found (codes "containers") (pod_rows t)

  restart_found : member_of (codes "restartPolicy") (pod t) ≡ Some (string (restart_word t.restart))
  restart_found = member_found (codes "restartPolicy") (pod_rows t)

  restart_again : restart_in path (pod t) ≡ t.restart
  unfolding restart_in
  restart_again =
      ap (λ r. unwrap_or (restart_of (result_unwrap_or r [])) Never) (text_needed path (codes "restartPolicy") (pod t) (restart_word t.restart) restart_found)
      ∙ told t.restart
    where
      told : (restart : Restart) → unwrap_or (restart_of (restart_word restart)) Never ≡ restart
      told Never = refl
      told OnFailure = refl

  count_again : init_count (pod t) ≡ length t.inits
  unfolding init_count
  count_again =
      ap (λ o. option_map_or items_len (option_and_then as_array o) 0) (get_found (codes "initContainers") (pod_rows t)) ∙ counted t.inits

  containers_listed : list_in path (pod t) (codes "containers") ≡ named t.containers
  containers_listed = list_read path (codes "containers") (pod t) _ containers_found ∙ listed (named t.containers)

  inits_listed : given_list_in path (pod t) (codes "initContainers") ≡ named t.inits
  unfolding given_list_in
  inits_listed =
      ap (λ r. unwrap_or (result_unwrap_or r None) []) (list_given path (codes "initContainers") (pod t) _ inits_found) ∙ listed (named t.inits)

  pod_passes : (b : Bool) → (not b || never_restarts t.restart) ≡ true → (nat_lt 0 (length t.containers) && nat_le (length t.containers + length t.inits) MOST_CONTAINERS) ≡ true
      → are_new_labels [] [] t.containers ≡ true → are_new_labels t.containers [] t.inits ≡ true
      → pod_refusal b path (pod t) ≡ None
  unfolding pod_refusal restart_refusal all_containers_refusal containers_refusal inits_refusal all_names_refusal objects_row
  pod_passes b never many good others =
      none_or _ _
      (none_or _ _ (text_row_passes path (codes "restartPolicy") (pod t) 9 is_restart (restart_word t.restart) restart_found (is_word t.restart))
      (none_or _ _
      (ap (restart_row b path) restart_again ∙ ap (rule_row (path_to path (codes "restartPolicy")) 33) never) refl))
      (none_or _ _
      (none_or _ _
      (none_or _ _
      (ap (passes (path_to path (codes "containers")) 10 (are_right_many (init_count (pod t)))) (list_needed path (codes "containers") (pod t) _ containers_found)
      ∙ ap₂ (λ n ds. rule_row (path_to path (codes "containers")) 10 (are_right_many n ds)) count_again (listed (named t.containers))
      ∙ ap (λ n. rule_row (path_to path (codes "containers")) 10 (nat_lt 0 n && nat_le (n + length t.inits) MOST_CONTAINERS)) (as_many t.containers)
      ∙ ap (rule_row (path_to path (codes "containers")) 10) many)
      (none_or _ _ (ap (each (λ place d. reads (item_object (path_to path (codes "containers")) place d)) 0) containers_listed ∙ objects_pass _ 0 t.containers) refl))
      (none_or _ _
      (none_or _ _ (ap reads (list_given path (codes "initContainers") (pod t) _ inits_found))
      (none_or _ _ (ap (each (λ place d. reads (item_object (path_to path (codes "initContainers")) place d)) 0) inits_listed ∙ objects_pass _ 0 t.inits) refl))
      (none_or _ _
      (none_or _ _ (ap (names_row (path_to path (codes "containers")) [] [] 0) containers_listed ∙ names_pass _ [] [] 0 t.containers good)
      (none_or _ _
      (ap₂ (λ cs is. names_row (path_to path (codes "initContainers")) (names_in (path_to path (codes "containers")) 0 cs) [] 0 is) containers_listed inits_listed
      ∙ ap (λ ns. names_row (path_to path (codes "initContainers")) ns [] 0 (named t.inits)) (names_again (path_to path (codes "containers")) 0 t.containers)
      ∙ names_pass _ t.containers [] 0 t.inits others)
      refl))
      refl)))
      refl)
    where
      is_word : (restart : Restart) → is_restart (restart_word restart) ≡ true
      is_word Never = refl
      is_word OnFailure = refl

  pod_again : template_in_pod path (pod t) ≡ t
  unfolding template_in_pod all_names_in names_of_both
  pod_again =
      let cs = ap (names_in (path_to path (codes "containers")) 0) containers_listed ∙ names_again (path_to path (codes "containers")) 0 t.containers in
      let is = ap (names_in (path_to path (codes "initContainers")) 0) inits_listed ∙ names_again (path_to path (codes "initContainers")) 0 t.inits in
      (λ i. record { restart = restart_again i; containers = cs i; inits = is i })

-- ---- the template of the manifest

module _ (path : List ℕ) (spec : JobSpec) where
  outer : member_of (codes "template") (made spec) ≡ Some (pod_member spec)
  outer = member_found (codes "template") (manifest_rows spec)

  inner : member_of (codes "spec") (pod_member spec) ≡ Some (pod spec.template)
  unfolding member_of
  inner = ap (λ d. option_and_then unless_null (get (codes "spec") (object (put (codes "spec") d no_members)))) (pod_puts spec.template)

  abbrev at : List ℕ
  at = path_to path (codes "template")

  template_object : object_in path (made spec) (codes "template") ≡ pod_member spec
  template_object = object_read path (codes "template") (made spec) _ outer

  pod_object : pod_spec_in path (made spec) ≡ pod spec.template
  pod_object = ap (λ d. object_in at d (codes "spec")) template_object ∙ object_read at (codes "spec") (pod_member spec) _ inner

  pub template_passes : IsAllowedSpec spec → template_refusal (is_some spec.per_index) path (made spec) ≡ None
  unfolding template_refusal
  template_passes allowed =
      none_or _ _ (object_row_passes path (codes "template") (made spec) _ outer)
      (none_or _ _ (ap (λ d. object_row at d (codes "spec")) template_object ∙ object_row_passes at (codes "spec") (pod_member spec) _ inner)
      (none_or _ _ (ap (pod_refusal (is_some spec.per_index) (pod_path path)) pod_object ∙ pod_passes (pod_path path) spec.template (is_some spec.per_index) allowed.by_index.never allowed.many allowed.containers allowed.inits) refl))

  pub template_again : template_in path (made spec) ≡ spec.template
  unfolding template_in
  template_again = ap (template_in_pod (pod_path path)) pod_object ∙ pod_again (pod_path path) spec.template
