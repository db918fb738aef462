-- Who manages a Job, and what bounds its run (`JobSpec` of batch/v1).
use Rattle.std.specs.Prelude.{ℕ, List, [], ◌∷◌, Bool, false, bytes_eq, codes, None, unwrap_or, if◌then◌else◌}
use Rattle.std.specs.Result.{result_unwrap_or}
use Rattle.serde_json.specs.Data.{Data}
use Rattle.jc_json.specs.Field.{optional_bool}
use Rattle.jc_types.specs.declared.limits.TheConstants.{GREATEST_LIMIT}
use Rattle.jc_manifest.specs.declared.limits.Limits.{Limits}
use Rattle.jc_rows.specs.ManifestRows.{Row, first_refusal, given_text_row, number_row, bool_row, number_in}

-- This controller manages the Job: rule 26.
abbrev pub managed_row : List ℕ → Data → Row
managed_row path spec =
    given_text_row path spec (codes "managedBy") 26 (λ s. bytes_eq s (codes "kubernetes.io/job-controller"))

unfoldable pub limits_refusal : List ℕ → Data → Row
limits_refusal path spec = first_refusal
    (bool_row path spec (codes "suspend")
    ∷ number_row path spec (codes "backoffLimit") GREATEST_LIMIT
    ∷ number_row path spec (codes "activeDeadlineSeconds") GREATEST_LIMIT
    ∷ [])

unfoldable pub suspend_in : List ℕ → Data → Bool
suspend_in path spec = unwrap_or (result_unwrap_or (optional_bool path (codes "suspend") spec) None) false

-- Unless a Job says otherwise six of its pods may fail, and any number where failures are limited by index.
abbrev pub usual_backoff : Bool → ℕ
usual_backoff by_index = if by_index then GREATEST_LIMIT else 6

-- A Job runs unless it is suspended.
unfoldable pub limits_in : Bool → List ℕ → Data → Limits
limits_in by_index path spec = record {
  suspend = suspend_in path spec;
  backoff_limit = unwrap_or (number_in path spec (codes "backoffLimit") GREATEST_LIMIT) (usual_backoff by_index);
  deadline = number_in path spec (codes "activeDeadlineSeconds") GREATEST_LIMIT;
}
