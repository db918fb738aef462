-- What a count of the failures of an index weighs against a limit.
--     IsWithin limit count   not more pods of the index have failed than this, and the failure policy failed it for none
--     weight count           the failures, or more than any limit where the failure policy failed the index
--     IsGreatest most counts this is the greatest weight of the counts, 0 of none
use Rattle.std.specs.Prelude.{ℕ, ◌≡◌, ◌↔◌, ◌-◌, ◌^◌, ◌≤◌, All, List, false, if◌then◌else◌}
use Rattle.jc_types.specs.declared.statuses.IndexCount.{IndexCount}

-- Not more pods of the index have failed than this, and the failure policy failed it for none.
abbrev pub IsWithin : ℕ → IndexCount → Type 0
IsWithin limit count = (count.failures ≤ limit) × (count.fail ≡ false)

-- The failures, or more than any limit of 32 bits where the failure policy failed the index.
abbrev pub weight : IndexCount → ℕ
weight count = if count.fail then 2 ^ 64 - 1 else count.failures

-- The least number that no weight is above.
abbrev pub IsGreatest : ℕ → List IndexCount → Type 0
IsGreatest most counts = (n : ℕ) → (most ≤ n) ↔ All (λ (count : IndexCount). weight count ≤ n) counts
