-- Sums over the numbers below a bound.
use Rattle.std.proofs.Common.{◌≡◌, ℕ, zero, suc, ◌+◌, ◌<◌, ◌≤◌, ◌==◌, Bool, true, false, refl, arith, eqb-true, subst}
use Rattle.std.proofs.lemmas.Bool.{eqb-false}
use Rattle.jc_settle.specs.Totals.{total}

module _ (f g : ℕ → ℕ) where
  pub total-most : (n : ℕ) → ((e : ℕ) → e < n → g e ≤ f e) → total g n ≤ total f n
  total-most zero h = omega arith
  total-most (suc n) h = let here = h n (omega arith) in let more = total-most n (λ e lt. h e (omega (arith, lt))) in omega (arith, here, more)

  -- It falls where one summand does and none rises.
  pub total-less : (n c : ℕ) → c < n → ((e : ℕ) → e < n → g e ≤ f e) → g c < f c → total g n < total f n
  total-less zero c lt h less = absurd (omega (arith, lt))
  total-less (suc n) c lt h less = by (c == n) refl (λ lt. total-less n c lt (λ e lt. h e (omega (arith, lt))) less)
    where
      by : (b : Bool) → (c == n) ≡ b → (c < n → total g n < total f n) → total g n + g n < total f n + f n
      by true s more =
          let here = subst (λ k. g k < f k) (eqb-true c n s) less in
          let rest = total-most n (λ e lt. h e (omega (arith, lt))) in omega (arith, here, rest)
      by false s more =
          let other = eqb-false c n s in let here = h n (omega arith) in
          let rest = more (omega (arith, lt, other)) in omega (arith, here, rest)
