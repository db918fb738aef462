-- What a specification says of its pods' number (`JobSpec` of batch/v1, KEP-2214).
use Rattle.std.specs.Prelude.{ℕ, List, [], ◌∷◌, Bool, not, ◌&&◌, bytes_eq, codes, Option, Some, None, is_none, is_some, option_and_then, unwrap_or, if◌then◌else◌}
use Rattle.std.specs.Result.{result_unwrap_or}
use Rattle.serde_json.specs.Data.{Data}
use Rattle.jc_json.specs.Place.{path_to}
use Rattle.jc_json.specs.Field.{optional_text}
use Rattle.jc_log.specs.Requests.{is_indexed}
use Rattle.jc_types.specs.declared.limits.TheConstants.{GREATEST_COMPLETIONS, GREATEST_PARALLELISM}
use Rattle.jc_types.specs.declared.specifications.Mode.{Mode}
use Rattle.jc_types.specs.declared.specifications.Mode.TheVariants.{NonIndexed, Indexed}
use Rattle.jc_rows.specs.declared.counts.Counts.{Counts}
use Rattle.jc_rows.specs.declared.counts.Numbers.{Numbers}
use Rattle.jc_rows.specs.ManifestRows.{Row, first_refusal, rule_row, given_text_row, number_row, number_in}

-- ---- modes

abbrev pub mode_of : List ℕ → Option Mode
mode_of s =
    if bytes_eq s (codes "NonIndexed") then Some NonIndexed
    else if bytes_eq s (codes "Indexed") then Some Indexed
    else None

abbrev pub is_mode : List ℕ → Bool
is_mode s = is_some (mode_of s)

unfoldable pub mode_in : List ℕ → Data → Mode
mode_in path spec =
    unwrap_or (option_and_then mode_of (result_unwrap_or (optional_text path (codes "completionMode") spec) None))
    NonIndexed

-- ---- completions

-- one completion where neither member is given; a parallelism alone makes a work queue
abbrev pub completions_or : Option ℕ → Option ℕ → Option ℕ
completions_or parallelism (Some completions) = Some completions
completions_or None None = Some 1
completions_or (Some parallelism) None = None

-- an Indexed Job has completions: rule 6
unfoldable pub indexed_row : List ℕ → Mode → Option ℕ → Row
indexed_row path mode completions =
    rule_row (path_to path (codes "completionMode")) 6 (not (is_indexed mode && is_none completions))

-- ---- all together

unfoldable pub parallelism_in : List ℕ → Data → ℕ
parallelism_in path spec = unwrap_or (number_in path spec (codes "parallelism") GREATEST_PARALLELISM) 1

unfoldable pub completions_in : List ℕ → Data → Option ℕ
completions_in path spec = completions_or (number_in path spec (codes "parallelism") GREATEST_PARALLELISM)
    (number_in path spec (codes "completions") GREATEST_COMPLETIONS)

unfoldable pub numbers_refusal : List ℕ → Data → Row
numbers_refusal path spec = first_refusal
    (number_row path spec (codes "parallelism") GREATEST_PARALLELISM
    ∷ number_row path spec (codes "completions") GREATEST_COMPLETIONS
    ∷ [])

-- rules 5 and 6
unfoldable pub counts_refusal : List ℕ → Data → Row
counts_refusal path spec = first_refusal
    (numbers_refusal path spec
    ∷ given_text_row path spec (codes "completionMode") 5 is_mode
    ∷ indexed_row path (mode_in path spec) (completions_in path spec)
    ∷ [])

unfoldable pub numbers_in : List ℕ → Data → Numbers
numbers_in path spec =
    record { parallelism = parallelism_in path spec; completions = completions_in path spec }

-- an Indexed Job has completions
abbrev pub completions_of : Counts → ℕ
completions_of counts = unwrap_or counts.completions 0

unfoldable pub counts_in : List ℕ → Data → Counts
counts_in path spec =
    record { parallelism = parallelism_in path spec; completions = completions_in path spec; mode = mode_in path spec }
