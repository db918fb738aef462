-- Outcomes are told apart by their test.
use Rattle.std.proofs.Common.{◌≡◌, ℕ, eqb, true, cond, refl, ap, sym, ◌∙◌, eqb-true}
use Rattle.jc_types.specs.Equality.{IsExact}
use Rattle.jc_types.proofs.EqualityFacts.{exact_from}
use Rattle.jc_failpol.specs.declared.outcomes.Outcome.{Outcome}
use Rattle.jc_failpol.specs.declared.outcomes.Outcome.TheVariants.{Alive, Succeeded, Failed, Ignored}
use Rattle.jc_failpol.specs.Outcomes.{outcome_place, same_outcome}

-- The outcome at a place.
outcome_at : ℕ → Outcome
outcome_at n = cond (eqb n 0) Alive (cond (eqb n 1) Succeeded (cond (eqb n 2) Failed Ignored))

outcome_at-place : (outcome : Outcome) → outcome_at (outcome_place outcome) ≡ outcome
unfolding outcome_at
outcome_at-place Alive = refl
outcome_at-place Succeeded = refl
outcome_at-place Failed = refl
outcome_at-place Ignored = refl

outcome_itself : (a : Outcome) → same_outcome a a ≡ true
outcome_itself Alive = refl
outcome_itself Succeeded = refl
outcome_itself Failed = refl
outcome_itself Ignored = refl

pub outcome-exact : IsExact same_outcome
outcome-exact =
    exact_from same_outcome (λ a b e. sym (outcome_at-place a) ∙ ap outcome_at (eqb-true (outcome_place a) (outcome_place b) e) ∙ outcome_at-place b) outcome_itself
