-- What is left of failures, where more have failed.
use Rattle.std.proofs.Common.{◌≡◌, ℕ, ◌≤◌, nat_lt, Bool, true, false, cond, ◌||◌, refl, arith}
use Rattle.std.proofs.lemmas.Bool.{ltb-false, ltb-true}

-- What is left is no more, where it is no more unless more had failed already than the limit allows.
pub spends : (settled : Bool) (limit were are m n : ℕ) → were ≤ are → (were ≤ limit → n ≤ m) → cond (settled || nat_lt limit are) 0 n ≤ cond (settled || nat_lt limit were) 0 m
spends true limit were are m n more less = omega arith
spends false limit were are m n more less = by (nat_lt limit were) (nat_lt limit are) refl refl
  where
    by : (b c : Bool) → nat_lt limit were ≡ b → nat_lt limit are ≡ c → cond c 0 n ≤ cond b 0 m
    by true true e f = omega arith
    by true false e f = let low = ltb-true limit were e in let high = ltb-false limit are f in absurd (omega (arith, low, high, more))
    by false true e f = omega arith
    by false false e f = less (ltb-false limit were e)
