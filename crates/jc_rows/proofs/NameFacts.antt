-- The names of containers and init containers.
use Rattle.std.proofs.Common.{◌≡◌, subst, ℕ, List, [], None, codes}
use Rattle.serde_json.specs.Data.{Data}
use Rattle.jc_json.specs.Place.{path_to}
use Rattle.jc_rows.specs.declared.refusals.ManifestFault.{ManifestFault}
use Rattle.jc_rows.specs.ManifestRows.{IsRefusal}
use Rattle.jc_rows.specs.Templates.{names_row, names_in, all_names_refusal}
use Rattle.jc_rows.proofs.RowFacts.{refuses_or, refuses_later}

-- an init container's name is refused where no container's is
pub init_refused : (fault : ManifestFault) (path at init_at : List ℕ) (none names : List (List ℕ)) (containers inits : List Data)
    → at ≡ path_to path (codes "containers") → init_at ≡ path_to path (codes "initContainers") → none ≡ []
    → names_row at none [] 0 containers ≡ None → names ≡ names_in at 0 containers
    → IsRefusal fault (names_row init_at names [] 0 inits) → IsRefusal fault (all_names_refusal path containers inits)
unfolding all_names_refusal
init_refused fault path at init_at none names containers inits at_is init_is none_is first said h =
    let kept : names_row (path_to path (codes "containers")) [] [] 0 containers ≡ None = cc in
    let same : names_row init_at names [] 0 inits
    ≡ names_row (path_to path (codes "initContainers")) (names_in (path_to path (codes "containers")) 0 containers) [] 0 inits = cc in
    refuses_later fault _ _ kept (refuses_or fault _ None (subst (IsRefusal fault) same h))
