-- Which versions have an entry.
use Rattle.std.proofs.Common.{◌≡◌, ◌<◌, ◌≤◌, ◌+◌, ℕ, Bool, true, false, cond, eqb, List, [], ◌∷◌, length, Some, None, refl, arith}
use Rattle.std.proofs.lemmas.Bool.{eqb-false}
use Rattle.jc_types.specs.declared.objects.Entry.{Entry}
use Rattle.jc_log.specs.Log.{entry_at}

below : (v n : ℕ) → v ≤ n + 1 → (n + 1 ≡ v → ⊥) → v ≤ n
below v n h other = omega (arith, h, other)

-- Each version from 1 to the log's length has an entry.
pub entry_there : (log : List Entry) (v : ℕ) → 0 < v → v ≤ length log → entry_at v log ≡ None → ⊥
entry_there [] v from to none = omega (arith, from, to)
entry_there (entry ∷ older) v from to none =
    by (eqb (length (entry ∷ older)) v) refl (entry_there older v from) none
  where
    by : (b : Bool) → eqb (length (entry ∷ older)) v ≡ b → (v ≤ length older → entry_at v older ≡ None → ⊥) → cond b (Some entry) (entry_at v older) ≡ None → ⊥
    by true e earlier none = absurd (cc)
    by false e earlier none =
        earlier (below v (length older) (omega (arith, to)) (λ same. eqb-false (length (entry ∷ older)) v e (omega (arith, same)))) none
