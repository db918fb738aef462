-- The indexes of a rule, by what their text names.
use Rattle.std.proofs.Common.{◌≡◌, sym, ◌∙◌, ap, ℕ, List, true, Option, Some, None, is_some, Ok, codes}
use Rattle.std.specs.Prelude.{option_and_then}
use Rattle.std.specs.Option.{option_map_or}
use Rattle.std.specs.Result.{result_unwrap_or}
use Rattle.serde_json.specs.Data.{Data}
use Rattle.jc_json.specs.Place.{path_to}
use Rattle.jc_json.specs.Field.{optional_text}
use Rattle.jc_rows.specs.ManifestRows.{rule_row, passes, given_text_row, invalid}
use Rattle.jc_policies.specs.SuccessPolicies.{indexes_read, names_indexes, indexes_row, succeeded_indexes_in}

-- the row by what the text names
row_of : (completions : ℕ) (path : List ℕ) (rule : Data) (text : List ℕ) (named : Option (List ℕ))
    → optional_text path (codes "succeededIndexes") rule ≡ Ok (Some text) → named ≡ indexes_read completions text
    → indexes_row completions path rule ≡ rule_row (path_to path (codes "succeededIndexes")) 24 (is_some named)
unfolding indexes_row given_text_row
row_of completions path rule text named read same =
    ap (passes (path_to path (codes "succeededIndexes")) 24 (λ o. option_map_or (names_indexes completions) o true)) read
    ∙ ap (λ o. rule_row (path_to path (codes "succeededIndexes")) 24 (is_some o)) (sym same)

pub indexes_kept : (completions : ℕ) (path : List ℕ) (rule : Data) (text set : List ℕ)
    → optional_text path (codes "succeededIndexes") rule ≡ Ok (Some text) → Some set ≡ indexes_read completions text
    → indexes_row completions path rule ≡ None
indexes_kept completions path rule text set read same = row_of completions path rule text (Some set) read same

pub indexes_said : (completions : ℕ) (path : List ℕ) (rule : Data) (text set : List ℕ)
    → optional_text path (codes "succeededIndexes") rule ≡ Ok (Some text) → Some set ≡ indexes_read completions text
    → Some set ≡ succeeded_indexes_in completions path rule
unfolding succeeded_indexes_in
indexes_said completions path rule text set read same =
    same ∙ sym (ap (λ r. option_and_then (indexes_read completions) (result_unwrap_or r None)) read)

pub indexes_broken : (completions : ℕ) (path : List ℕ) (rule : Data) (text : List ℕ)
    → optional_text path (codes "succeededIndexes") rule ≡ Ok (Some text) → None ≡ indexes_read completions text
    → indexes_row completions path rule ≡ Some (invalid (path_to path (codes "succeededIndexes")) 24)
indexes_broken completions path rule text read same = row_of completions path rule text None read same
