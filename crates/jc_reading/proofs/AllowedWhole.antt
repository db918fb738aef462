-- The key and the specification that an accepted manifest says are such as its table allows.
use Rattle.std.proofs.Common.{◌≡◌, ℕ, ◌+◌, ◌<◌, ◌≤◌, List, [], length, Bool, true, false, not, ◌&&◌, ◌||◌, codes, Option, Some, None, IfSome, IsSome, Result, Ok, Err, refl, sym, ap, ap₂, ◌∙◌, subst, le-leb, lt-ltb}
use Rattle.std.specs.List.{AllByRecursion as Each}
use Rattle.std.specs.Prelude.{is_none, nat_lt, nat_le, unwrap_or}
use Rattle.std.specs.Option.{option_map_or}
use Rattle.std.specs.Result.{result_unwrap_or}
use Rattle.serde_json.specs.Data.{Data}
use Rattle.jc_json.specs.Place.{path_to}
use Rattle.jc_json.specs.Field.{Refusal, needed_text, optional_text}
use Rattle.jc_types.specs.declared.limits.TheConstants.{MOST_CONTAINERS}
use Rattle.jc_types.specs.declared.policies.SuccessPolicy.{SuccessPolicy}
use Rattle.jc_types.specs.declared.specifications.JobSpec.{JobSpec}
use Rattle.jc_types.specs.declared.specifications.Mode.{Mode}
use Rattle.jc_types.specs.declared.specifications.Mode.TheVariants.{NonIndexed, Indexed}
use Rattle.jc_types.specs.ValidSpecs.{IsValidSpec}
use Rattle.jc_rows.specs.declared.counts.Counts.{Counts}
use Rattle.jc_manifest.specs.declared.index_limits.IndexLimits.{IndexLimits}
use Rattle.jc_log.specs.Requests.{is_indexed}
use Rattle.jc_rows.specs.PodCountRows.{counts_in, counts_refusal}
use Rattle.jc_manifest.specs.IndexLimits.{by_index_refusal, has_indexes_to_fail, has_indexes_to_limit, index_limits_in, index_limits_refusal, is_by_index}
use Rattle.jc_manifest.specs.Limits.{managed_row}
use Rattle.jc_manifest.specs.Manifests.{head_in, head_refusal, key_of, manifest_refusal, metadata_part_refusal, policies_in, policies_refusal, replacement_refusal, spec_in, spec_of, spec_part_refusal, spec_refusal}
use Rattle.jc_manifest.specs.Metadata.{key_in, metadata_refusal, name_in, namespace_in, type_refusal}
use Rattle.jc_rows.specs.ManifestRows.{object_in, object_row, passes, text_row, given_text_row}
use Rattle.jc_manifest.specs.SuccessPolicies.{success_in}
use Rattle.jc_rows.specs.Templates.{all_containers_refusal, all_names_in, all_names_refusal, given_list_in, list_in, names_in, names_of_both, never_restarts, pod_path, pod_refusal, pod_spec_in, restart_refusal, template_in, template_in_pod}
use Rattle.jc_rows.specs.Templates.{template_refusal}
use Rattle.jc_rows.specs.NameForms.{has_length_of_name, is_label, is_part, is_subdomain}
use Rattle.jc_manifest.proofs.AcceptedFacts.{accepted_is_valid, parts, kept, passed}
use Rattle.jc_reading.specs.Allowed.{are_new_labels, IsAllowedKey, IsAllowedSpec, IsAllowedSuccess, IsAllowedSuccessRule}
use Rattle.jc_reading.proofs.AllowedFacts.{failure_allowed, labels}
use Rattle.jc_reading.proofs.AllowedSets.{IsAllowedPolicy, success_allowed}
use Rattle.std.proofs.lemmas.Bool.{not-true as not_false}

-- ---- the template

pod_labels : (by_index : Bool) (path : List ℕ) (pod : Data) → pod_refusal by_index path pod ≡ None
    → (are_new_labels [] [] (template_in_pod path pod).containers ≡ true) × (are_new_labels (template_in_pod path pod).containers [] (template_in_pod path pod).inits ≡ true)
unfolding pod_refusal all_containers_refusal all_names_refusal template_in_pod all_names_in names_of_both
pod_labels by_index path pod e =
    let rows = parts _ _ (parts _ _ (parts _ _ e).1).0 in
    let names = parts _ _ (parts _ _ (parts _ _ rows.1).1).0 in
    let containers = list_in path pod (codes "containers") in
    let inits = given_list_in path pod (codes "initContainers") in (
      labels (path_to path (codes "containers")) [] [] 0 containers names.0,
      labels (path_to path (codes "initContainers")) (names_in (path_to path (codes "containers")) 0 containers) [] 0 inits (parts _ _ names.1).0,
    )

template_labels : (by_index : Bool) (path : List ℕ) (spec : Data) → template_refusal by_index path spec ≡ None
    → (are_new_labels [] [] (template_in path spec).containers ≡ true) × (are_new_labels (template_in path spec).containers [] (template_in path spec).inits ≡ true)
unfolding template_refusal template_in
template_labels by_index path spec e = pod_labels by_index (pod_path path) (pod_spec_in path spec) (parts _ _ (parts _ _ (parts _ _ e).1).1).0

pod_never : (by_index : Bool) (path : List ℕ) (pod : Data) → pod_refusal by_index path pod ≡ None → (not by_index || never_restarts (template_in_pod path pod).restart) ≡ true
unfolding pod_refusal restart_refusal template_in_pod
pod_never by_index path pod e = kept _ 33 _ (parts _ _ (parts _ _ (parts _ _ e).0).1).0

template_never : (by_index : Bool) (path : List ℕ) (spec : Data) → template_refusal by_index path spec ≡ None → (not by_index || never_restarts (template_in path spec).restart) ≡ true
unfolding template_refusal template_in
template_never by_index path spec e = pod_never by_index (pod_path path) (pod_spec_in path spec) (parts _ _ (parts _ _ (parts _ _ e).1).1).0

-- ---- limits for each index

limits_allowed : (path : List ℕ) (counts : Counts) (limits : IndexLimits) → by_index_refusal path counts limits ≡ None
    → (has_indexes_to_limit counts limits ≡ true) × (has_indexes_to_fail counts limits ≡ true)
unfolding by_index_refusal
limits_allowed path counts limits e = let rows = parts _ _ e in (kept _ 31 _ rows.0, kept _ 32 _ (parts _ _ rows.1).0)

head_limits : (path : List ℕ) (spec : Data) → head_refusal path spec ≡ None → by_index_refusal path (counts_in path spec) (index_limits_in path spec) ≡ None
unfolding head_refusal
head_limits path spec e =
    let managed = parts (managed_row path spec) _ e in
    let limits = parts (index_limits_refusal path spec) _ managed.1 in
    let counts = parts (counts_refusal path spec) _ limits.1 in
    (parts (by_index_refusal path (counts_in path spec) (index_limits_in path spec)) _ counts.1).0

-- ---- tests by what is valid

indexed_test : (mode : Mode) (completions : Option ℕ) → (mode ≡ Indexed → IsSome completions) → (is_indexed mode && is_none completions) ≡ false
indexed_test NonIndexed completions h = refl
indexed_test Indexed completions h = ap not (h refl)

many_test : (containers inits : ℕ) → 0 < containers → containers + inits ≤ MOST_CONTAINERS → (nat_lt 0 containers && nat_le (containers + inits) MOST_CONTAINERS) ≡ true
many_test containers inits some few = ap₂ (λ a b. a && b) (lt-ltb 0 containers some) (le-leb (containers + inits) MOST_CONTAINERS few)

-- ---- the specification

policy_as : (spec : JobSpec) (counts : Counts) → counts.mode ≡ spec.mode → counts.completions ≡ spec.completions → (o : Option SuccessPolicy) → IfSome o (IsAllowedPolicy counts) → IfSome o (IsAllowedSuccess spec)
policy_as spec counts mode many None h = tt
policy_as spec counts mode many (Some policy) h = record {
  indexed = ap is_indexed (sym mode) ∙ h.indexed;
  few = h.few;
  rules = subst (λ c. Each (IsAllowedSuccessRule (unwrap_or c 0)) policy.rules) many h.rules;
}

spec_allowed : (path : List ℕ) (d : Data) → spec_refusal path d ≡ None → IsValidSpec (spec_in path d) → IsAllowedSpec (spec_in path d)
unfolding spec_refusal spec_in head_in policies_refusal policies_in replacement_refusal counts_in index_limits_in
spec_allowed path d e valid =
    let rows = parts _ _ e in
    let later = parts _ _ rows.1 in
    let policies = parts _ _ (parts _ _ later.1).0 in
    let others = parts _ _ policies.1 in
    let by_index : Bool = is_by_index (index_limits_in path d) in
    let names = template_labels by_index path d later.0 in
    let limits = limits_allowed path (counts_in path d) (index_limits_in path d) (head_limits path d rows.0) in
    let spec : JobSpec = spec_in path d in
    record {
      parallelism = valid.parallelism;
      completions = valid.completions;
      indexed = indexed_test spec.mode spec.completions valid.indexed;
      backoff_limit = valid.backoff_limit;
      deadline = valid.deadline;
      many = many_test (length spec.template.containers) (length spec.template.inits) valid.some valid.few;
      containers = names.0;
      inits = names.1;
      by_index = record {
        per_index = valid.per_index;
        max_failed = valid.max_failed;
        indexed = limits.0;
        failing = limits.1;
        never = template_never by_index path d later.0;
      };
      failure = failure_allowed by_index (template_in path d) path d policies.0;
      replacement = not_false _ (kept _ 8 _ (parts _ _ (parts _ _ others.0).1).0);
      success = policy_as spec (counts_in path d) refl refl (success_in (counts_in path d) path d) (success_allowed (counts_in path d) path d (parts _ _ others.1).0);
    }

-- ---- the key

given_or : (test : List ℕ → Bool) (path usual : List ℕ) (rule : ℕ) (read : Result (Option (List ℕ)) Refusal) → test usual ≡ true
    → passes path rule (λ o. option_map_or test o true) read ≡ None → test (unwrap_or (result_unwrap_or read None) usual) ≡ true
given_or test path usual rule (Ok None) good e = good
given_or test path usual rule (Ok (Some s)) good e = kept path rule (test s) e
given_or test path usual rule (Err refusal) good e = absurd (cc (e))

default_is_label : is_label (codes "default") ≡ true
unfolding has_length_of_name is_part
default_is_label = refl

key_allowed : (path : List ℕ) (d : Data) → metadata_refusal path d ≡ None → IsAllowedKey (key_in path d)
unfolding metadata_refusal key_in name_in namespace_in text_row given_text_row
key_allowed path d e =
    let rows = parts _ _ e in
    record {
      name = passed _ 3 is_subdomain (needed_text path (codes "name") d) [] rows.0;
      namespace = given_or is_label _ (codes "default") 4 (optional_text path (codes "namespace") d) default_is_label (parts _ _ rows.1).0;
    }

-- ---- the manifest

pub manifest_allowed : (path : List ℕ) (job : Data) → manifest_refusal path job ≡ None → IsAllowedSpec (spec_of path job)
unfolding manifest_refusal spec_part_refusal spec_of
manifest_allowed path job e =
    let rows = parts (type_refusal path job) _ e in
    let later = parts (metadata_part_refusal path job) _ rows.1 in
    let spec = parts (spec_part_refusal path job) None later.1 in
    let inner = parts (object_row path job (codes "spec")) _ spec.0 in
    let last = parts (spec_refusal (path_to path (codes "spec")) (object_in path job (codes "spec"))) None inner.1 in
    spec_allowed (path_to path (codes "spec")) (object_in path job (codes "spec")) last.0 (accepted_is_valid path job e)

pub names_allowed : (path : List ℕ) (job : Data) → manifest_refusal path job ≡ None → IsAllowedKey (key_of path job)
unfolding manifest_refusal metadata_part_refusal key_of
names_allowed path job e =
    let rows = parts (type_refusal path job) _ e in
    let later = parts (metadata_part_refusal path job) _ rows.1 in
    let inner = parts (object_row path job (codes "metadata")) _ later.0 in
    let last = parts (metadata_refusal (path_to path (codes "metadata")) (object_in path job (codes "metadata"))) None inner.1 in
    key_allowed (path_to path (codes "metadata")) (object_in path job (codes "metadata")) last.0
