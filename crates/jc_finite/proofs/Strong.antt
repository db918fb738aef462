-- Descent by one number.
use Rattle.std.proofs.Common.{ℕ, zero, suc, ◌<◌, arith}

module _ {A : Type 0} (f : A → ℕ) (P Q : A → Type 0) (step : (x : A) → P x → ((y : A) → f y < f x → P y → Q y) → Q x) where
  below : (n : ℕ) (x : A) → f x < n → P x → Q x
  below zero x lt p = absurd (omega (arith, lt))
  below (suc n) x lt p = step x p (λ y less q. below n y (omega (arith, lt, less)) q)

  -- What holds where it holds of all with a lesser number, holds of all.
  pub by-descent : (x : A) → P x → Q x
  by-descent x p = below (suc (f x)) x (omega arith) p
