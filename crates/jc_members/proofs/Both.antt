-- What is said where one reading follows another.
use Rattle.std.proofs.Common.{◌≡◌, sym, ap, ◌∙◌, Result, Ok}
use Rattle.jc_json.specs.Field.{◌>>=◌}
use Rattle.jc_members.specs.LineCauses.{IsFault}
use Rattle.jc_members.specs.declared.causes.Cause.{Cause}
use Rattle.jc_members.specs.declared.causes.LineFault.{LineFault}
use Rattle.jc_members.specs.declared.causes.LineFault.TheVariants.{Bad, Want}

module _ {A B C : Type 0} (one : Result A Cause) (two : Result B Cause) (next : A → B → Result C Cause) where
  -- both are good
  pub both_said : (a : A) (b : B) → one ≡ Ok a → two ≡ Ok b → next a b ≡ (one >>= (λ x. two >>= (λ y. next x y)))
  both_said a b first second =
      sym (ap (λ r. r >>= (λ x. two >>= (λ y. next x y))) first ∙ ap (λ r. r >>= (λ y. next a y)) second)

  -- the second is bad
  pub second_bad : (fault : LineFault) (a : A) → one ≡ Ok a → IsFault fault two
      → IsFault fault (one >>= (λ x. two >>= (λ y. next x y)))
  second_bad (Bad cause) a first bad =
      ap (λ r. r >>= (λ x. two >>= (λ y. next x y))) first ∙ ap (λ r. r >>= (λ y. next a y)) bad
  second_bad Want a first bad = tt
