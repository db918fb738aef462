-- The members of a list from a place on.
use Rattle.std.proofs.Common.{◌≡◌, ℕ, zero, suc, ◌+◌, ◌<◌, Bool, false, cond, ◌&&◌, List, [], ◌∷◌, length, drop, Some, slice_get, refl, sym, ap, ◌∙◌, arith}
use Rattle.std.specs.List.{list_all, count_by}
use Rattle.std.specs.Option.{option_map_or}
use Rattle.std.proofs.lemmas.List.Sums.{sum_by-cons}

module _ {X : Type 0} where
  -- At the place stands an item, and behind it what stands from the next place on.
  pub record Cut (xs : List X) (k : ℕ) : Type 0 where
    pub item : X
    pub here : slice_get xs k ≡ Some item
    pub rest : drop k xs ≡ item ∷ drop (k + 1) xs

  pub cut_at : (xs : List X) (k : ℕ) → k < length xs → Cut xs k
  cut_at [] k lt = absurd (omega (arith, lt))
  cut_at (x ∷ xs) zero lt = record { item = x; here = refl; rest = refl }
  cut_at (x ∷ xs) (suc k) lt =
      let cut = cut_at xs k (omega arith) in
      let next : suc k + 1 ≡ suc (k + 1) = omega arith in
      record { item = cut.item; here = cut.here; rest = cut.rest ∙ ap (λ n. cut.item ∷ drop n (x ∷ xs)) (sym next) }

module _ (test : ℕ → Bool) (xs : List ℕ) (k : ℕ) (lt : k < length xs) where
  -- All pass from the place on where the one there does, and all behind it.
  pub all_from : list_all test (drop k xs) ≡ (option_map_or test (slice_get xs k) false && list_all test (drop (k + 1) xs))
  all_from =
      let cut = cut_at xs k lt in
      ap (list_all test) cut.rest ∙ ap (λ o. option_map_or test o false && list_all test (drop (k + 1) xs)) (sym cut.here)

  -- As many pass from the place on as behind it, and one more where the one there does.
  pub count_from : count_by test (drop k xs) ≡ cond (option_map_or test (slice_get xs k) false) 1 0 + count_by test (drop (k + 1) xs)
  count_from =
      let cut = cut_at xs k lt in
      ap (count_by test) cut.rest ∙ sum_by-cons (λ n. cond (test n) 1 0) cut.item (drop (k + 1) xs)
      ∙ ap (λ o. cond (option_map_or test o false) 1 0 + count_by test (drop (k + 1) xs)) (sym cut.here)
