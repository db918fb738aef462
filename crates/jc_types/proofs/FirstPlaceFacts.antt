-- The first place at which a test passes is the least one.
use Rattle.std.proofs.Common.{◌≡◌, ℕ, ◌<◌, Bool, true, false, cond, List, [], ◌∷◌, length, Some, None, is_some, nat_lt, refl, sym, ap, arith, ltb-false, true≢false}
use Rattle.std.specs.List.{position, position_or_len, All}
use Rattle.std.proofs.lemmas.List.Quantifiers.{position-Some}
use Rattle.std.proofs.lemmas.List.Sums.{fails_before_first}
use Rattle.jc_types.specs.FirstPlaces.{IsLeast}

module _ {X : Type 0} (test : X → Bool) where
  -- The first place is within the list.
  within_list : (xs : List X) (n : ℕ) → position test xs ≡ Some n → n < length xs
  within_list [] n h = absurd (true≢false (sym (ap is_some h)))
  within_list (x ∷ xs) n h = (position-Some test (x ∷ xs) n x h).0

  -- The first place is the least.
  pub first_is_least : (xs : List X) (n : ℕ) → position test xs ≡ Some n → IsLeast test xs n
  first_is_least xs n h = record {
    within = within_list xs n h;
    passes = λ d. (position-Some test xs n d h).1;
    least = λ k d low below. (position-Some test xs n d h).2 k below;
  }

  -- Where there is none, the test passes nowhere.
  pub none_passes : (xs : List X) → position test xs ≡ None → All (λ x. test x ≡ false) xs
  none_passes xs h k d below = fails_before_first test xs k d (by (nat_lt (position_or_len test xs) (length xs)) refl h)
    where
      by : (b : Bool) → nat_lt (position_or_len test xs) (length xs) ≡ b → cond b (Some (position_or_len test xs)) None ≡ None → k < position_or_len test xs
      by true t g = absurd (true≢false (ap is_some g))
      by false t g = let past = ltb-false (position_or_len test xs) (length xs) t in omega (arith, past)
