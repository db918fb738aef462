-- The commands of one Job more.
use Rattle.std.proofs.Common.{◌≡◌, ℕ, ◌+◌, List, [], ◌∷◌, ◌++◌, refl, sym, ap, ◌∙◌, append_assoc, append-nil, zero, suc, arith}
use Rattle.std.specs.Prelude.{flat_map}
use Rattle.std.specs.List.{range_with_len}
use Rattle.std.proofs.lemmas.Grind.{flat_map-append}
use Rattle.std.proofs.lemmas.List.Concat.{flat_map-cons}

-- The last of one number more.
range_more : (a k : ℕ) → range_with_len a (suc k) ≡ range_with_len a k ++ (a + k) ∷ []
range_more a zero = let e : a ≡ a + 0 = omega arith in ap (λ n. n ∷ []) e
range_more a (suc k) =
    let e : a + 1 + k ≡ a + suc k = omega arith in
    ap (λ xs. a ∷ xs) (range_more (a + 1) k ∙ ap (λ n. range_with_len (a + 1) k ++ n ∷ []) e)

module _ {A : Type 0} (f : ℕ → List A) where
  -- Those of one place more are those before, and its own behind them.
  pub one_more : (k : ℕ) → flat_map f (range_with_len 0 (k + 1)) ≡ flat_map f (range_with_len 0 k) ++ f k
  one_more k =
      let next : k + 1 ≡ suc k = omega arith in
      let last : 0 + k ≡ k = omega arith in
      ap (λ n. flat_map f (range_with_len 0 n)) next ∙ ap (flat_map f) (range_more 0 k)
      ∙ flat_map-append f (range_with_len 0 k) ((0 + k) ∷ [])
      ∙ ap (λ xs. flat_map f (range_with_len 0 k) ++ xs) (flat_map-cons f (0 + k) [] ∙ append-nil (f (0 + k)) ∙ ap f last)

module _ {A : Type 0} (first second : ℕ → A) where
  -- Two items are pushed, which are those of the place.
  pub pushed_two : (k : ℕ) (old mid new : List A) (x y : A)
      → old ≡ flat_map (λ i. first i ∷ second i ∷ []) (range_with_len 0 k)
      → x ≡ first k → y ≡ second k → mid ≡ old ++ x ∷ [] → new ≡ mid ++ y ∷ []
      → new ≡ flat_map (λ i. first i ∷ second i ∷ []) (range_with_len 0 (k + 1))
  pushed_two k old mid new x y was is_first is_second one two =
      let before = flat_map (λ i. first i ∷ second i ∷ []) (range_with_len 0 k) in
      two ∙ ap (λ xs. xs ++ y ∷ []) one ∙ append_assoc old (x ∷ []) (y ∷ [])
      ∙ ap (λ xs. xs ++ x ∷ y ∷ []) was ∙ ap (λ z. before ++ z ∷ y ∷ []) is_first
      ∙ ap (λ z. before ++ first k ∷ z ∷ []) is_second ∙ sym (one_more (λ i. first i ∷ second i ∷ []) k)
