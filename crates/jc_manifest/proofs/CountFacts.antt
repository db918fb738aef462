-- The numbers that bound the run of a Job.
use Rattle.std.proofs.Common.{◌≡◌, ℕ, List, Bool, Option, codes}
use Rattle.std.specs.Prelude.{unwrap_or}
use Rattle.serde_json.specs.Data.{Data}
use Rattle.jc_types.specs.declared.limits.TheConstants.{GREATEST_COMPLETIONS, GREATEST_LIMIT}
use Rattle.jc_manifest.specs.declared.index_limits.IndexLimits.{IndexLimits}
use Rattle.jc_manifest.specs.declared.limits.Limits.{Limits}
use Rattle.jc_manifest.specs.IndexLimits.{index_limits_in}
use Rattle.jc_manifest.specs.Limits.{suspend_in, usual_backoff, limits_in}
use Rattle.jc_rows.specs.ManifestRows.{number_in}

-- the limits by index
pub index_limits_said : (path : List ℕ) (spec : Data) (per_index max_failed : Option ℕ)
    → per_index ≡ number_in path spec (codes "backoffLimitPerIndex") GREATEST_LIMIT
    → max_failed ≡ number_in path spec (codes "maxFailedIndexes") GREATEST_COMPLETIONS
    → (let limits : IndexLimits = record { per_index = per_index; max_failed = max_failed } in limits ≡ index_limits_in path spec)
unfolding index_limits_in
index_limits_said path spec per_index max_failed ps ms = cc

-- the limits, with their defaults
pub limits_said : (by_index : Bool) (path : List ℕ) (spec : Data) (suspend : Bool) (limit deadline : Option ℕ) (usual backoff_limit : ℕ)
    → usual ≡ usual_backoff by_index → backoff_limit ≡ unwrap_or limit usual → suspend ≡ suspend_in path spec
    → limit ≡ number_in path spec (codes "backoffLimit") GREATEST_LIMIT
    → deadline ≡ number_in path spec (codes "activeDeadlineSeconds") GREATEST_LIMIT
    → (let limits : Limits = record { suspend = suspend; backoff_limit = backoff_limit; deadline = deadline } in limits ≡ limits_in by_index path spec)
unfolding limits_in
limits_said by_index path spec suspend limit deadline usual backoff_limit u b s ls ds = cc
