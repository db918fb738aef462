-- Sums over the numbers below a bound.
--     total f n    the sum of the function over the numbers below n
use Rattle.std.specs.Prelude.{ℕ, zero, suc, ◌+◌}

-- The sum of the function over the numbers below n.
abbrev pub total : (ℕ → ℕ) → ℕ → ℕ
total f zero = 0
total f (suc n) = total f n + f n
