-- What a deed leaves of the sync of a worker.
use Rattle.std.proofs.Common.{◌≡◌, ℕ, List, ◌∷◌, Option, Some, None, is_some, ap}
use Rattle.std.specs.Prelude.{find, option_and_then}
use Rattle.std.proofs.lemmas.Bool.{cond-false}
use Rattle.jc_log.specs.Deeds.{Deed}
use Rattle.jc_ledger.specs.Syncs.{began_by, sync_of}

-- A deed that began nothing leaves each worker's sync.
pub sync_of-other : (c w : ℕ) (d : Deed) (past : List Deed) → began_by c w d ≡ None → sync_of c w (d ∷ past) ≡ sync_of c w past
sync_of-other c w d past none =
    ap (option_and_then (began_by c w)) (cond-false (is_some (began_by c w d)) (Some d) (find (λ e. is_some (began_by c w e)) past) (ap is_some none))
