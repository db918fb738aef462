-- Sums that are equal, where none of their parts is greater.
use Rattle.std.proofs.Common.{◌≡◌, ℕ, zero, suc, ◌<◌, ◌≤◌, ◌==◌, Bool, true, false, arith, eqb-true, subst, sym, refl}
use Rattle.std.proofs.lemmas.Bool.{eqb-false}
use Rattle.jc_settle.specs.Totals.{total}
use Rattle.jc_settle.proofs.TotalFacts.{total-most}

module _ (f g : ℕ → ℕ) where
  -- Each part is equal.
  pub parts-equal : (n : ℕ) → ((e : ℕ) → e < n → g e ≤ f e) → total f n ≤ total g n → (e : ℕ) → e < n → g e ≡ f e
  parts-equal zero h le e lt = absurd (omega (arith, lt))
  parts-equal (suc n) h le e lt = by (e == n) refl (λ here. parts-equal n below more e here)
    where
      below : (e : ℕ) → e < n → g e ≤ f e
      below e lt = h e (omega (arith, lt))

      few : total g n ≤ total f n
      few = total-most f g n below

      more : total f n ≤ total g n
      more = let last = h n (omega arith) in omega (arith, le, last)

      same : g n ≡ f n
      same = let last = h n (omega arith) in let rest = few in omega (arith, le, last, rest)

      by : (b : Bool) → (e == n) ≡ b → (e < n → g e ≡ f e) → g e ≡ f e
      by true s more = subst (λ x. g x ≡ f x) (sym (eqb-true e n s)) same
      by false s more = let other = eqb-false e n s in more (omega (arith, lt, other))
