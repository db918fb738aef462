-- The manifest of a Job, as a table of its members: the first refusal in the order of the table is the answer.
-- An accepted manifest says a key and a specification.
--     manifest_refusal path job     the first refusal
--     key_of, spec_of               what an accepted manifest says
use Rattle.std.specs.Prelude.{ℕ, List, [], ◌∷◌, Bool, true, false, not, ◌&&◌, bytes_eq, codes, Option, Some, None, is_some, option_and_then, unwrap_or, if◌then◌else◌}
use Rattle.std.specs.Result.{result_unwrap_or}
use Rattle.serde_json.specs.Data.{Data}
use Rattle.jc_json.specs.Place.{path_to}
use Rattle.jc_json.specs.Field.{optional_text}
use Rattle.jc_types.specs.declared.objects.KeyNames.{KeyNames as Key}
use Rattle.jc_types.specs.declared.specifications.JobSpec.{JobSpec}
use Rattle.jc_types.specs.declared.specifications.Replacement.{Replacement}
use Rattle.jc_types.specs.declared.specifications.Replacement.TheVariants.{TerminatingOrFailed, FailedOnly}
use Rattle.jc_types.specs.declared.specifications.Template.{Template}
use Rattle.jc_rows.specs.declared.counts.Counts.{Counts}
use Rattle.jc_manifest.specs.declared.manifests.Head.{Head}
use Rattle.jc_manifest.specs.declared.manifests.Policies.{Policies}
use Rattle.jc_rows.specs.PodCountRows.{counts_refusal, counts_in}
use Rattle.jc_policies.specs.FailurePolicies.{failure_refusal, failure_in}
use Rattle.jc_manifest.specs.IndexLimits.{index_limits_refusal, index_limits_in, is_by_index, by_index_refusal}
use Rattle.jc_manifest.specs.Limits.{managed_row, limits_refusal, limits_in}
use Rattle.jc_manifest.specs.Metadata.{type_refusal, metadata_refusal, key_in}
use Rattle.jc_rows.specs.ManifestRows.{Row, first_refusal, rule_row, given_text_row, object_row, object_in}
use Rattle.jc_policies.specs.SuccessPolicies.{success_refusal, success_in}
use Rattle.jc_rows.specs.Templates.{template_refusal, template_in}

-- ---- pod replacement (KEP-3939)

abbrev pub replacement_of : List ℕ → Option Replacement
replacement_of s =
    if bytes_eq s (codes "TerminatingOrFailed") then Some TerminatingOrFailed
    else if bytes_eq s (codes "Failed") then Some FailedOnly
    else None

abbrev pub is_replacement : List ℕ → Bool
is_replacement s = is_some (replacement_of s)

-- a failure policy judges only pods that have ended
abbrev pub usual_replacement : Bool → Replacement
usual_replacement true = FailedOnly
usual_replacement false = TerminatingOrFailed

unfoldable pub replacement_in : Bool → List ℕ → Data → Replacement
replacement_in has_failure path spec = unwrap_or
    (option_and_then replacement_of (result_unwrap_or (optional_text path (codes "podReplacementPolicy") spec) None))
    (usual_replacement has_failure)

abbrev pub is_early : Replacement → Bool
is_early TerminatingOrFailed = true
is_early FailedOnly = false

-- rules 7 and 8
unfoldable pub replacement_refusal : Bool → List ℕ → Data → Row
replacement_refusal has_failure path spec = first_refusal
    (given_text_row path spec (codes "podReplacementPolicy") 7 is_replacement
    ∷ rule_row (path_to path (codes "podReplacementPolicy")) 8
    (not (has_failure && is_early (replacement_in has_failure path spec)))
    ∷ [])

-- ---- the specification

unfoldable pub head_refusal : List ℕ → Data → Row
head_refusal path spec = first_refusal
    (managed_row path spec
    ∷ index_limits_refusal path spec
    ∷ counts_refusal path spec
    ∷ by_index_refusal path (counts_in path spec) (index_limits_in path spec)
    ∷ limits_refusal path spec
    ∷ [])

unfoldable pub head_in : List ℕ → Data → Head
head_in path spec = record {
  counts = counts_in path spec;
  index_limits = index_limits_in path spec;
  limits = limits_in (is_by_index (index_limits_in path spec)) path spec;
}

unfoldable pub policies_refusal : Head → Template → List ℕ → Data → Row
policies_refusal head template path spec = first_refusal
    (failure_refusal (is_by_index head.index_limits) template path spec
    ∷ replacement_refusal (is_some (failure_in path spec)) path spec
    ∷ success_refusal head.counts path spec
    ∷ [])

unfoldable pub spec_refusal : List ℕ → Data → Row
spec_refusal path spec = first_refusal
    (head_refusal path spec
    ∷ template_refusal (is_by_index (index_limits_in path spec)) path spec
    ∷ policies_refusal (head_in path spec) (template_in path spec) path spec
    ∷ [])

unfoldable pub policies_in : Counts → List ℕ → Data → Policies
policies_in counts path spec = record {
  failure = failure_in path spec;
  replacement = replacement_in (is_some (failure_in path spec)) path spec;
  success = success_in counts path spec;
}

abbrev pub spec_with : Head → Template → Policies → JobSpec
spec_with head template policies = record {
  parallelism = head.counts.parallelism;
  completions = head.counts.completions;
  mode = head.counts.mode;
  suspend = head.limits.suspend;
  backoff_limit = head.limits.backoff_limit;
  per_index = head.index_limits.per_index;
  max_failed = head.index_limits.max_failed;
  deadline = head.limits.deadline;
  replacement = policies.replacement;
  failure = policies.failure;
  success = policies.success;
  template = template;
}

unfoldable pub spec_in : List ℕ → Data → JobSpec
spec_in path spec =
    spec_with (head_in path spec) (template_in path spec) (policies_in (counts_in path spec) path spec)

-- ---- the manifest

unfoldable pub metadata_part_refusal : List ℕ → Data → Row
metadata_part_refusal path job = first_refusal
    (object_row path job (codes "metadata")
    ∷ metadata_refusal (path_to path (codes "metadata")) (object_in path job (codes "metadata"))
    ∷ [])

unfoldable pub spec_part_refusal : List ℕ → Data → Row
spec_part_refusal path job = first_refusal
    (object_row path job (codes "spec")
    ∷ spec_refusal (path_to path (codes "spec")) (object_in path job (codes "spec"))
    ∷ [])

unfoldable pub manifest_refusal : List ℕ → Data → Row
manifest_refusal path job = first_refusal
    (type_refusal path job
    ∷ metadata_part_refusal path job
    ∷ spec_part_refusal path job
    ∷ [])

unfoldable pub key_of : List ℕ → Data → Key
key_of path job = key_in (path_to path (codes "metadata")) (object_in path job (codes "metadata"))

unfoldable pub spec_of : List ℕ → Data → JobSpec
spec_of path job = spec_in (path_to path (codes "spec")) (object_in path job (codes "spec"))
