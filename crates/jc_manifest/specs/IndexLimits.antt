-- What bounds the failures of each index, and the indexes that fail (KEP-3850).
use Rattle.std.specs.Prelude.{ℕ, List, [], ◌∷◌, Bool, true, ◌&&◌, ◌||◌, not, nat_le, codes, is_some}
use Rattle.std.specs.Option.{option_map_or}
use Rattle.serde_json.specs.Data.{Data}
use Rattle.jc_json.specs.Place.{path_to}
use Rattle.jc_log.specs.Requests.{is_indexed}
use Rattle.jc_types.specs.declared.limits.TheConstants.{GREATEST_COMPLETIONS, GREATEST_LIMIT}
use Rattle.jc_rows.specs.declared.counts.Counts.{Counts}
use Rattle.jc_manifest.specs.declared.index_limits.IndexLimits.{IndexLimits}
use Rattle.jc_rows.specs.PodCountRows.{completions_of}
use Rattle.jc_rows.specs.ManifestRows.{Row, first_refusal, rule_row, number_row, number_in}

-- the two numbers
unfoldable pub index_limits_refusal : List ℕ → Data → Row
index_limits_refusal path spec = first_refusal
    (number_row path spec (codes "backoffLimitPerIndex") GREATEST_LIMIT
    ∷ number_row path spec (codes "maxFailedIndexes") GREATEST_COMPLETIONS
    ∷ [])

unfoldable pub index_limits_in : List ℕ → Data → IndexLimits
index_limits_in path spec = record {
  per_index = number_in path spec (codes "backoffLimitPerIndex") GREATEST_LIMIT;
  max_failed = number_in path spec (codes "maxFailedIndexes") GREATEST_COMPLETIONS;
}

-- failures are limited for each index
abbrev pub is_by_index : IndexLimits → Bool
is_by_index limits = is_some limits.per_index

-- only an Indexed Job has indexes whose failures can be limited
abbrev pub has_indexes_to_limit : Counts → IndexLimits → Bool
has_indexes_to_limit counts limits = not (is_by_index limits) || is_indexed counts.mode

-- a greatest number of failed indexes stands beside a limit for each, and is at most that of all indexes
abbrev pub has_indexes_to_fail : Counts → IndexLimits → Bool
has_indexes_to_fail counts limits =
    option_map_or (λ most. is_by_index limits && nat_le most (completions_of counts)) limits.max_failed true

-- rules 31 and 32
unfoldable pub by_index_refusal : List ℕ → Counts → IndexLimits → Row
by_index_refusal path counts limits = first_refusal
    (rule_row (path_to path (codes "backoffLimitPerIndex")) 31 (has_indexes_to_limit counts limits)
    ∷ rule_row (path_to path (codes "maxFailedIndexes")) 32 (has_indexes_to_fail counts limits)
    ∷ [])
