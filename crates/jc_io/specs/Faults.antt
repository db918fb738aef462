-- Counts of calls and of faults, and the answers that only a fault gives.
use Rattle.std.specs.Prelude.{ℕ, ◌≡◌, ◌<◌, ◌+◌, ◌-◌, ◌^◌, ◌⊎◌, min, OnErr, Result}

-- the count one higher, which stops at the last value of 64 bits
abbrev pub raised_count : ℕ → ℕ
raised_count count = min (count + 1) (2 ^ 64 - 1)

-- a count of faults rose: it is greater than before, or it stands at the last value of 64 bits, which it can't leave
abbrev pub Rose : ℕ → ℕ → Type 0
Rose old new = (old < new) ⊎ (new ≡ 2 ^ 64 - 1)

-- an error comes only where the count of faults rose
abbrev pub HasCause : {A E : Type 0} → ℕ → ℕ → Result A E → Type 0
HasCause old new result = OnErr result (Rose old new)
