-- The greatest weight of counts, and what it says of all of them.
use Rattle.std.proofs.Common.{◌≡◌, ◌↔◌, ℕ, ◌+◌, ◌-◌, ◌^◌, ◌<◌, ◌≤◌, Bool, true, false, Some, max, All, List, [], length, get_or, take, if◌then◌else◌, refl, sym, subst, arith}
use Rattle.std.proofs.lemmas.List.{take_more}
use Rattle.std.proofs.lemmas.List.Elements.{All-more, All-nil, All-pop, All-weaker}
use Rattle.jc_types.specs.declared.statuses.IndexCount.{IndexCount}
use Rattle.jc_types.specs.Weights.{IsGreatest, IsWithin, weight}

-- Of no counts it is 0.
pub greatest-none : IsGreatest 0 []
greatest-none n = (λ low. All-nil (λ (count : IndexCount). weight count ≤ n), λ all. omega arith)

-- The next count makes it greater where it weighs more.
pub greatest-more : (most w r : ℕ) (counts : List IndexCount) (i : ℕ) (d : IndexCount) → i < length counts → w ≡ weight (get_or counts i d) → r ≡ max most w
    → IsGreatest most (take i counts) → IsGreatest r (take (i + 1) counts)
greatest-more most w r counts i d within weighs is old n = (to, from)
  where
    P : IndexCount → Type 0
    P count = weight count ≤ n

    to : r ≤ n → All P (take (i + 1) counts)
    to low = All-more P counts i d within ((old n).0 (omega (arith, is, low))) (omega (arith, is, low, weighs))

    from : All P (take (i + 1) counts) → r ≤ n
    from all =
        let both = All-pop P (take (i + 1) counts) (take i counts) (Some (get_or counts i d)) (take_more counts i d within) all in
        omega (arith, is, weighs, (old n).1 both.0, both.1)

-- ---- weights and limits

light : (limit : ℕ) (count : IndexCount) (fail : Bool) → limit < 2 ^ 64 - 1 → count.fail ≡ fail → weight count ≤ limit → IsWithin limit count
light limit count true small is low = absurd (omega (arith, small, subst (λ b. (if b then 2 ^ 64 - 1 else count.failures) ≤ limit) is low))
light limit count false small is low = (subst (λ b. (if b then 2 ^ 64 - 1 else count.failures) ≤ limit) is low, is)

-- What weighs no more than a limit of 32 bits is within it, and the other way round.
pub within-greatest : (limit most : ℕ) (counts : List IndexCount) → limit < 2 ^ 64 - 1 → IsGreatest most counts → (most ≤ limit) ↔ All (λ count. IsWithin limit count) counts
within-greatest limit most counts small greatest = (
  λ low. All-weaker (λ (count : IndexCount). weight count ≤ limit) (IsWithin limit) (λ count. light limit count count.fail small refl) counts ((greatest limit).0 low),
  λ all. (greatest limit).1 (All-weaker (IsWithin limit) (λ (count : IndexCount). weight count ≤ limit) (λ count h. subst (λ b. (if b then 2 ^ 64 - 1 else count.failures) ≤ limit) (sym h.1) h.0) counts all),
)
