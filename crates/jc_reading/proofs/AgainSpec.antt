-- A printed specification, turned into a manifest, is accepted and read back.
use Rattle.std.proofs.Common.{◌≡◌, ℕ, List, [], ◌∷◌, Bool, true, not, ◌&&◌, bytes_eq, codes, Option, Some, None, option_map, is_some, IfSome, Ok, refl, ap, ap₂, ◌∙◌}
use Rattle.std.specs.Prelude.{option_and_then, unwrap_or}
use Rattle.std.specs.Option.{option_or}
use Rattle.std.specs.Result.{result_unwrap_or}
use Rattle.serde_json.specs.Data.{Data, string, object, no_members, put}
use Rattle.jc_json.specs.Place.{path_to}
use Rattle.jc_json.specs.Field.{member_of, unless_null, may_be, object_of, optional_object, optional_text, needed_text}
use Rattle.jc_types.specs.declared.objects.KeyNames.{KeyNames as Key}
use Rattle.jc_types.specs.declared.policies.FailurePolicy.{FailurePolicy}
use Rattle.jc_types.specs.declared.policies.SuccessPolicy.{SuccessPolicy}
use Rattle.jc_types.specs.declared.specifications.JobSpec.{JobSpec}
use Rattle.jc_types.specs.declared.specifications.Replacement.{Replacement}
use Rattle.jc_types.specs.declared.specifications.Replacement.TheVariants.{TerminatingOrFailed, FailedOnly}
use Rattle.jc_rows.specs.declared.counts.Counts.{Counts}
use Rattle.jc_reading.specs.Allowed.{IsAllowedKey, IsAllowedSpec, IsAllowedFailure, IsAllowedSuccess}
use Rattle.jc_rows.specs.PodCountRows.{completions_of, counts_in}
use Rattle.jc_manifest.specs.FailurePolicies.{given_failure_refusal, failure_refusal, failure_rules_in, failure_in}
use Rattle.jc_manifest.specs.IndexLimits.{index_limits_in, is_by_index}
use Rattle.jc_reading.specs.Manifested.{manifest_data, metadata_data}
use Rattle.jc_manifest.specs.Manifests.{replacement_of, is_replacement, usual_replacement, replacement_in, is_early, replacement_refusal, head_refusal, policies_refusal, spec_refusal, head_in, policies_in, spec_with, spec_in}
use Rattle.jc_manifest.specs.Manifests.{metadata_part_refusal, spec_part_refusal, manifest_refusal, key_of, spec_of}
use Rattle.jc_manifest.specs.Metadata.{type_refusal, metadata_refusal, name_in, namespace_in, key_in}
use Rattle.jc_print.specs.PrintedSpecs.{rules_data, failure_data, success_data, replacement_word, spec_data}
use Rattle.jc_rows.specs.ManifestRows.{rule_row, object_in, rows_of_given}
use Rattle.jc_manifest.specs.SuccessPolicies.{given_success_refusal, success_refusal, success_rules_in, success_in}
use Rattle.jc_rows.specs.Templates.{template_refusal}
use Rattle.jc_rows.specs.NameForms.{is_label, is_subdomain}
use Rattle.jc_reading.proofs.AgainFailures as failures
use Rattle.jc_reading.proofs.AgainHead.{made, manifest_rows, manifest_puts, given_text, text_passes, by_index_pass, counts_pass, counts_again, index_limits_again, index_limits_pass, managed_pass, limits_pass, limits_again}
use Rattle.jc_reading.proofs.AgainSuccess as successes
use Rattle.jc_reading.proofs.AgainTemplate.{text_needed, text_row_passes, object_row_passes, object_read, template_passes, template_again}
use Rattle.jc_reading.proofs.Found.{puts, member_found}
use Rattle.jc_rows.proofs.RowFacts.{none_or}

-- ---- policies that may be given

-- the printed policy is an object
failure_whole : (o : Option FailurePolicy) → option_and_then unless_null (option_or (option_map failure_data o) None) ≡ option_map failure_data o
unfolding rules_data
failure_whole None = refl
failure_whole (Some p) = refl

success_whole : (o : Option SuccessPolicy) → option_and_then unless_null (option_or (option_map success_data o) None) ≡ option_map success_data o
unfolding rules_data
success_whole None = refl
success_whole (Some p) = refl

module _ (path name : List ℕ) (d : Data) where
  no_object : member_of name d ≡ None → optional_object path name d ≡ Ok None
  unfolding optional_object
  no_object is = ap (may_be (object_of (path_to path name))) is

  an_object : (rules : List Data) → member_of name d ≡ Some (rules_data rules) → optional_object path name d ≡ Ok (Some (rules_data rules))
  unfolding optional_object rules_data
  an_object rules is = ap (may_be (object_of (path_to path name))) is

module _ (path : List ℕ) (spec : JobSpec) (allowed : IsAllowedSpec spec) where
  abbrev d : Data
  d = made spec

  failure_found : member_of (codes "podFailurePolicy") (made spec) ≡ option_map failure_data spec.failure
  failure_found = member_found (codes "podFailurePolicy") (manifest_rows spec) ∙ failure_whole spec.failure

  success_found : member_of (codes "successPolicy") (made spec) ≡ option_map success_data spec.success
  success_found = member_found (codes "successPolicy") (manifest_rows spec) ∙ success_whole spec.success

  failure_passes : failure_refusal (is_some spec.per_index) spec.template path (made spec) ≡ None
  unfolding failure_refusal
  failure_passes = by spec.failure failure_found allowed.failure
    where
      by : (o : Option FailurePolicy) → member_of (codes "podFailurePolicy") (made spec) ≡ option_map failure_data o → IfSome o (IsAllowedFailure (is_some spec.per_index) spec.template)
          → rows_of_given (optional_object path (codes "podFailurePolicy") (made spec)) (given_failure_refusal (is_some spec.per_index) spec.template (path_to path (codes "podFailurePolicy"))) ≡ None
      by None is allowed = ap (λ r. rows_of_given r (given_failure_refusal (is_some spec.per_index) spec.template (path_to path (codes "podFailurePolicy")))) (no_object path (codes "podFailurePolicy") (made spec) is)
      by (Some p) is allowed =
          ap (λ r. rows_of_given r (given_failure_refusal (is_some spec.per_index) spec.template (path_to path (codes "podFailurePolicy")))) (an_object path (codes "podFailurePolicy") (made spec) _ is)
          ∙ failures.policy_passes (path_to path (codes "podFailurePolicy")) (is_some spec.per_index) spec.template p allowed

  pub failure_again : failure_in path (made spec) ≡ spec.failure
  unfolding failure_in
  failure_again = by spec.failure failure_found allowed.failure
    where
      by : (o : Option FailurePolicy) → member_of (codes "podFailurePolicy") (made spec) ≡ option_map failure_data o → IfSome o (IsAllowedFailure (is_some spec.per_index) spec.template)
          → option_map (failure_rules_in (path_to path (codes "podFailurePolicy"))) (result_unwrap_or (optional_object path (codes "podFailurePolicy") (made spec)) None) ≡ o
      by None is allowed = ap (λ r. option_map (failure_rules_in (path_to path (codes "podFailurePolicy"))) (result_unwrap_or r None)) (no_object path (codes "podFailurePolicy") (made spec) is)
      by (Some p) is allowed =
          ap (λ r. option_map (failure_rules_in (path_to path (codes "podFailurePolicy"))) (result_unwrap_or r None)) (an_object path (codes "podFailurePolicy") (made spec) _ is)
          ∙ ap Some (failures.policy_again (path_to path (codes "podFailurePolicy")) (is_some spec.per_index) spec.template p allowed)

  abbrev counted : Counts
  counted = record { parallelism = spec.parallelism; completions = spec.completions; mode = spec.mode }

  success_passes : success_refusal counted path (made spec) ≡ None
  unfolding success_refusal
  success_passes = by spec.success success_found allowed.success
    where
      by : (o : Option SuccessPolicy) → member_of (codes "successPolicy") (made spec) ≡ option_map success_data o → IfSome o (IsAllowedSuccess spec)
          → rows_of_given (optional_object path (codes "successPolicy") (made spec)) (given_success_refusal counted (path_to path (codes "successPolicy"))) ≡ None
      by None is allowed = ap (λ r. rows_of_given r (given_success_refusal counted (path_to path (codes "successPolicy")))) (no_object path (codes "successPolicy") (made spec) is)
      by (Some p) is allowed =
          ap (λ r. rows_of_given r (given_success_refusal counted (path_to path (codes "successPolicy")))) (an_object path (codes "successPolicy") (made spec) _ is)
          ∙ successes.policy_passes (path_to path (codes "successPolicy")) spec counted p allowed refl refl

  success_again : success_in counted path (made spec) ≡ spec.success
  unfolding success_in
  success_again = by spec.success success_found allowed.success
    where
      by : (o : Option SuccessPolicy) → member_of (codes "successPolicy") (made spec) ≡ option_map success_data o → IfSome o (IsAllowedSuccess spec)
          → option_map (success_rules_in (completions_of counted) (path_to path (codes "successPolicy"))) (result_unwrap_or (optional_object path (codes "successPolicy") (made spec)) None) ≡ o
      by None is allowed = ap (λ r. option_map (success_rules_in (completions_of counted) (path_to path (codes "successPolicy"))) (result_unwrap_or r None)) (no_object path (codes "successPolicy") (made spec) is)
      by (Some p) is allowed =
          ap (λ r. option_map (success_rules_in (completions_of counted) (path_to path (codes "successPolicy"))) (result_unwrap_or r None)) (an_object path (codes "successPolicy") (made spec) _ is)
          ∙ ap Some (successes.policy_again (path_to path (codes "successPolicy")) spec counted p allowed refl refl)

  -- ---- replacement

  replacement_at : optional_text path (codes "podReplacementPolicy") (made spec) ≡ Ok (Some (replacement_word spec.replacement))
  replacement_at = given_text path (codes "podReplacementPolicy") (made spec) (replacement_word spec.replacement) (member_found (codes "podReplacementPolicy") (manifest_rows spec))

  replacement_again : (b : Bool) → replacement_in b path (made spec) ≡ spec.replacement
  unfolding replacement_in
  replacement_again b =
      ap (λ r. unwrap_or (option_and_then replacement_of (result_unwrap_or r None)) (usual_replacement b)) replacement_at ∙ told spec.replacement
    where
      told : (r : Replacement) → unwrap_or (replacement_of (replacement_word r)) (usual_replacement b) ≡ r
      told TerminatingOrFailed = refl
      told FailedOnly = refl

  replacement_passes : replacement_refusal (is_some (failure_in path (made spec))) path (made spec) ≡ None
  unfolding replacement_refusal
  replacement_passes =
      none_or _ _ (text_passes path (codes "podReplacementPolicy") (made spec) 7 is_replacement (replacement_word spec.replacement) replacement_at (is_word spec.replacement))
      (none_or _ _
      (ap₂ (λ f r. rule_row (path_to path (codes "podReplacementPolicy")) 8 (not (is_some f && is_early r))) failure_again (replacement_again (is_some (failure_in path (made spec))))
      ∙ ap (λ b. rule_row (path_to path (codes "podReplacementPolicy")) 8 (not b)) allowed.replacement) refl)
    where
      is_word : (r : Replacement) → is_replacement (replacement_word r) ≡ true
      is_word TerminatingOrFailed = refl
      is_word FailedOnly = refl

  -- ---- the specification

  spec_passes : spec_refusal path (made spec) ≡ None
  unfolding spec_refusal head_refusal policies_refusal head_in
  spec_passes =
      none_or _ _
      (none_or _ _ (managed_pass path spec allowed)
      (none_or _ _ (index_limits_pass path spec allowed)
      (none_or _ _ (counts_pass path spec allowed)
      (none_or _ _ (by_index_pass path spec allowed) (none_or _ _ (limits_pass path spec allowed) refl)))))
      (none_or _ _ (ap (λ l. template_refusal (is_by_index l) path (made spec)) (index_limits_again path spec allowed) ∙ template_passes path spec allowed)
      (none_or _ _
      (none_or _ _ (ap₂ (λ l t. failure_refusal (is_by_index l) t path (made spec)) (index_limits_again path spec allowed) (template_again path spec) ∙ failure_passes)
      (none_or _ _ replacement_passes
      (none_or _ _ (ap (λ c. success_refusal c path (made spec)) (counts_again path spec allowed) ∙ success_passes) refl)))
      refl))

  spec_again : spec_in path (made spec) ≡ spec
  unfolding spec_in head_in policies_in
  spec_again =
      let counts = counts_again path spec allowed in
      let index_limits = index_limits_again path spec allowed in
      let limits = limits_again path spec allowed (is_by_index (index_limits_in path (made spec))) in
      let template = template_again path spec in
      let replacement = replacement_again (is_some (failure_in path (made spec))) in
      let success : success_in (counts_in path (made spec)) path (made spec) ≡ spec.success = ap (λ c. success_in c path (made spec)) counts ∙ success_again in
      (λ i. spec_with (record { counts = counts i; index_limits = index_limits i; limits = limits i }) (template i)
      (record { failure = failure_again i; replacement = replacement i; success = success i }))

-- ---- the manifest

abbrev metadata_rows : Key → List (List ℕ × Option Data)
metadata_rows key = (codes "namespace", Some (string key.namespace)) ∷ (codes "name", Some (string key.name)) ∷ []

abbrev job_rows : Key → JobSpec → List (List ℕ × Option Data)
job_rows key spec =
    (codes "spec", Some (made spec)) ∷ (codes "metadata", Some (object (puts (metadata_rows key))))
    ∷ (codes "kind", Some (string (codes "Job"))) ∷ (codes "apiVersion", Some (string (codes "batch/v1"))) ∷ []

abbrev job : Key → JobSpec → Data
job key spec = object (puts (job_rows key spec))

job_puts : (key : Key) (spec : JobSpec) → manifest_data key (spec_data spec) ≡ job key spec
unfolding manifest_data metadata_data
job_puts key spec =
    ap (λ d. object (put (codes "spec") d (put (codes "metadata") (object (puts (metadata_rows key)))
    (put (codes "kind") (string (codes "Job")) (put (codes "apiVersion") (string (codes "batch/v1")) no_members))))) (manifest_puts spec)

module _ (path : List ℕ) (key : Key) (spec : JobSpec) where
  spec_found : member_of (codes "spec") (job key spec) ≡ Some (made spec)
  spec_found = member_found (codes "spec") (job_rows key spec)

  metadata_found : member_of (codes "metadata") (job key spec) ≡ Some (object (puts (metadata_rows key)))
  metadata_found = member_found (codes "metadata") (job_rows key spec)

  spec_object : object_in path (job key spec) (codes "spec") ≡ made spec
  spec_object = object_read path (codes "spec") (job key spec) _ spec_found

  metadata_object : object_in path (job key spec) (codes "metadata") ≡ object (puts (metadata_rows key))
  metadata_object = object_read path (codes "metadata") (job key spec) _ metadata_found

  key_again : (at : List ℕ) → key_in at (object (puts (metadata_rows key))) ≡ key
  unfolding key_in name_in namespace_in
  key_again at =
      let m = object (puts (metadata_rows key)) in
      let name : result_unwrap_or (needed_text at (codes "name") m) [] ≡ key.name =
      ap (λ r. result_unwrap_or r []) (text_needed at (codes "name") m key.name (member_found (codes "name") (metadata_rows key))) in
      let namespace : unwrap_or (result_unwrap_or (optional_text at (codes "namespace") m) None) (codes "default") ≡ key.namespace =
      ap (λ r. unwrap_or (result_unwrap_or r None) (codes "default")) (given_text at (codes "namespace") m key.namespace (member_found (codes "namespace") (metadata_rows key))) in
      (λ i. record { namespace = namespace i; name = name i })

  pub key_is_read : key_of path (manifest_data key (spec_data spec)) ≡ key
  unfolding key_of
  key_is_read =
      ap (key_of path) (job_puts key spec)
      ∙ ap (key_in (path_to path (codes "metadata"))) metadata_object ∙ key_again (path_to path (codes "metadata"))

  pub spec_is_read : IsAllowedSpec spec → spec_of path (manifest_data key (spec_data spec)) ≡ spec
  unfolding spec_of
  spec_is_read allowed =
      ap (spec_of path) (job_puts key spec)
      ∙ ap (spec_in (path_to path (codes "spec"))) spec_object ∙ spec_again (path_to path (codes "spec")) spec allowed

  pub manifest_passes : IsAllowedKey key → IsAllowedSpec spec → manifest_refusal path (manifest_data key (spec_data spec)) ≡ None
  unfolding manifest_refusal type_refusal metadata_part_refusal metadata_refusal spec_part_refusal
  manifest_passes named allowed =
      let d = job key spec in
      let m = object (puts (metadata_rows key)) in
      let at = path_to path (codes "metadata") in
      ap (manifest_refusal path) (job_puts key spec)
      ∙ none_or _ _
      (none_or _ _ (text_row_passes path (codes "apiVersion") d 1 (λ s. bytes_eq s (codes "batch/v1")) (codes "batch/v1") (member_found (codes "apiVersion") (job_rows key spec)) refl)
      (none_or _ _ (text_row_passes path (codes "kind") d 2 (λ s. bytes_eq s (codes "Job")) (codes "Job") (member_found (codes "kind") (job_rows key spec)) refl) refl))
      (none_or _ _
      (none_or _ _ (object_row_passes path (codes "metadata") d _ metadata_found)
      (none_or _ _
      (ap (metadata_refusal at) metadata_object
      ∙ none_or _ _ (text_row_passes at (codes "name") m 3 is_subdomain key.name (member_found (codes "name") (metadata_rows key)) named.name)
      (none_or _ _ (text_passes at (codes "namespace") m 4 is_label key.namespace (given_text at (codes "namespace") m key.namespace (member_found (codes "namespace") (metadata_rows key))) named.namespace) refl))
      refl))
      (none_or _ _
      (none_or _ _ (object_row_passes path (codes "spec") d _ spec_found)
      (none_or _ _ (ap (spec_refusal (path_to path (codes "spec"))) spec_object ∙ spec_passes (path_to path (codes "spec")) spec allowed) refl))
      refl))
