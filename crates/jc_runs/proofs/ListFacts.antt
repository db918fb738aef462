-- Lists with one element set, and the registers of teams.
use Rattle.std.proofs.Common.{◌≡◌, ℕ, zero, suc, ◌<◌, List, [], ◌∷◌, length, set, slice_get, Option, Some, None, is_some, refl, sym, ap, ◌∙◌, true≢false, arith, ◌⊎◌}
use Rattle.std.specs.Option.{option_and_then, option_map, unwrap_or}
use Rattle.std.proofs.lemmas.Option.{slice_get-map}
use Rattle.std.proofs.lemmas.List.{map-set}
use Rattle.jc_sync.specs.AllRegisters.{Registers, freed, put_at, put_worker, register_at, restarted}
use Rattle.jc_asks.specs.Steps.{Sync}
use Rattle.jc_runs.specs.Teams.{Team, registers_of}

pub set_itself : {A : Type 0} (xs : List A) (i : ℕ) (x : A) → slice_get xs i ≡ Some x → set xs i x ≡ xs
set_itself [] i x e = refl
set_itself (y ∷ xs) zero x e = ap (λ z. z ∷ xs) (sym (ap (λ o. unwrap_or o x) e))
set_itself (y ∷ xs) (suc i) x e = ap (λ zs. y ∷ zs) (set_itself xs i x e)

pub missing : {A : Type 0} (xs : List A) (i : ℕ) → i < length xs → slice_get xs i ≡ None → ⊥
missing [] i within e = omega (arith, within)
missing (x ∷ xs) zero within e = true≢false (ap is_some e)
missing (x ∷ xs) (suc i) within e = missing xs i (omega (arith, within)) e

-- ---- registers

worker_is : (w : ℕ) (ws : List (Option Sync)) (x : Option Sync) → set ws w x ≡ put_worker w x ws
worker_is w [] x = refl
worker_is zero (y ∷ ws) x = refl
worker_is (suc w) (y ∷ ws) x = ap (λ zs. y ∷ zs) (worker_is w ws x)

put_is : (i w : ℕ) (rs : Registers) (ws : List (Option Sync)) (x : Option Sync) → slice_get rs i ≡ Some ws → set rs i (set ws w x) ≡ put_at i w x rs
put_is i w [] ws x e = refl
put_is zero w (y ∷ rs) ws x e = ap (λ zs. zs ∷ rs) (ap (λ (o : Option (List (Option Sync))). set (unwrap_or o ws) w x) (sym e) ∙ worker_is w y x)
put_is (suc i) w (y ∷ rs) ws x e = ap (λ zs. y ∷ zs) (put_is i w rs ws x e)

restart_is : (i : ℕ) (rs : Registers) (ws : List (Option Sync)) → slice_get rs i ≡ Some ws → set rs i (freed ws) ≡ restarted i rs
restart_is i [] ws e = refl
restart_is zero (y ∷ rs) ws e = ap (λ zs. zs ∷ rs) (ap (λ (o : Option (List (Option Sync))). freed (unwrap_or o ws)) (sym e))
restart_is (suc i) (y ∷ rs) ws e = ap (λ zs. y ∷ zs) (restart_is i rs ws e)

module _ (teams : List Team) (i : ℕ) (old new : Team) (there : slice_get teams i ≡ Some old) where
  registers_there : slice_get (registers_of teams) i ≡ Some old.registers
  registers_there = slice_get-map (λ (team : Team). team.registers) teams i ∙ ap (λ o. option_map (λ (team : Team). team.registers) o) there

  registers_set : registers_of (set teams i new) ≡ set (registers_of teams) i new.registers
  registers_set = map-set (λ (team : Team). team.registers) teams i new

  -- No register changes.
  pub registers_stay : new.registers ≡ old.registers → registers_of teams ≡ registers_of (set teams i new)
  registers_stay e = sym (registers_set ∙ ap (set (registers_of teams) i) e ∙ set_itself (registers_of teams) i old.registers registers_there)

  -- One does.
  pub registers_put : (w : ℕ) (x : Option Sync) → new.registers ≡ set old.registers w x → put_at i w x (registers_of teams) ≡ registers_of (set teams i new)
  registers_put w x e = sym (registers_set ∙ ap (set (registers_of teams) i) e ∙ put_is i w (registers_of teams) old.registers x registers_there)

  -- All of the controller become free.
  pub registers_restart : new.registers ≡ freed old.registers → restarted i (registers_of teams) ≡ registers_of (set teams i new)
  registers_restart e = sym (registers_set ∙ ap (set (registers_of teams) i) e ∙ restart_is i (registers_of teams) old.registers registers_there)

  pub register_there : (w : ℕ) (x : Option Sync) → slice_get old.registers w ≡ Some x → register_at i w (registers_of teams) ≡ Some x
  register_there w x e = ap (option_and_then (λ (ws : List (Option Sync)). slice_get ws w)) registers_there ∙ e
