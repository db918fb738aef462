-- What stands in a list where it was written.
use Rattle.std.proofs.Common.{◌≡◌, ℕ, zero, suc, List, [], ◌∷◌, set, refl, sym}
use mathlib.Core.Option.{some, some-ne-none}
use lib.ListN.{get_elem?}

module _ {A : Type 0} where
  pub there_set : (xs : List A) (i : ℕ) (x y : A) → get_elem? xs i ≡ some x → get_elem? (set xs i y) i ≡ some y
  there_set [] i x y e = absurd (some-ne-none x (sym e))
  there_set (z ∷ zs) zero x y e = refl
  there_set (z ∷ zs) (suc i) x y e = there_set zs i x y e
