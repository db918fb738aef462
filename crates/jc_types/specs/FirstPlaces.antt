-- The first place at which a test passes.
--     IsLeast test xs n     n is the least place at which the test passes
use Rattle.std.specs.Prelude.{◌≡◌, ℕ, ◌<◌, Bool, true, false, List, length}
use Rattle.std.specs.List.{HoldsAt, AllWithin}

-- n is the least place at which the test passes.
pub record IsLeast {X : Type 0} (test : X → Bool) (xs : List X) (n : ℕ) : Type 0 where
  pub within : n < length xs
  pub passes : HoldsAt (λ x. test x ≡ true) xs n
  pub least : AllWithin (λ x. test x ≡ false) xs 0 n
