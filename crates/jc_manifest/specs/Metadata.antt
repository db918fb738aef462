-- What a manifest is, and what it names (`TypeMeta` and `ObjectMeta` of apimachinery).
use Rattle.std.specs.Prelude.{ℕ, List, [], ◌∷◌, bytes_eq, codes, None, unwrap_or}
use Rattle.std.specs.Result.{result_unwrap_or}
use Rattle.serde_json.specs.Data.{Data}
use Rattle.jc_json.specs.Field.{needed_text, optional_text}
use Rattle.jc_types.specs.declared.objects.KeyNames.{KeyNames as Key}
use Rattle.jc_rows.specs.ManifestRows.{Row, first_refusal, text_row, given_text_row}
use Rattle.jc_rows.specs.NameForms.{is_label, is_subdomain}

-- what is made: rules 1 and 2
unfoldable pub type_refusal : List ℕ → Data → Row
type_refusal path job = first_refusal
    (text_row path job (codes "apiVersion") 1 (λ s. bytes_eq s (codes "batch/v1"))
    ∷ text_row path job (codes "kind") 2 (λ s. bytes_eq s (codes "Job"))
    ∷ [])

-- its names: rules 3 and 4
unfoldable pub metadata_refusal : List ℕ → Data → Row
metadata_refusal path metadata = first_refusal
    (text_row path metadata (codes "name") 3 is_subdomain
    ∷ given_text_row path metadata (codes "namespace") 4 is_label
    ∷ [])

unfoldable pub name_in : List ℕ → Data → List ℕ
name_in path metadata = result_unwrap_or (needed_text path (codes "name") metadata) []

-- the namespace is `default` where none is given
unfoldable pub namespace_in : List ℕ → Data → List ℕ
namespace_in path metadata =
    unwrap_or (result_unwrap_or (optional_text path (codes "namespace") metadata) None) (codes "default")

unfoldable pub key_in : List ℕ → Data → Key
key_in path metadata = record { namespace = namespace_in path metadata; name = name_in path metadata }
