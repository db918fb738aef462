-- Lists that are empty, and functions that give none anywhere.
use Rattle.std.proofs.Common.{◌≡◌, ℕ, zero, suc, ◌+◌, ◌<◌, ◌≤◌, ◌==◌, Bool, true, false, List, [], ◌∷◌, ◌++◌, Option, Some, None, refl, sym, ap, ◌∙◌, arith, eqb-true, true≢false}
use Rattle.std.proofs.lemmas.Bool.{eqb-false}
use Rattle.std.specs.List.{cons_option, filter_map, flat_map, range_with_len}
use Rattle.jc_history.specs.Available.{is_empty}

module _ {A : Type 0} where
  pub no-cons : (x : A) (xs : List A) → x ∷ xs ≡ [] → ⊥
  no-cons x xs e = true≢false (sym (ap is_empty e))

  pub nil-first : (xs ys : List A) → xs ++ ys ≡ [] → xs ≡ []
  nil-first [] ys e = refl
  nil-first (x ∷ xs) ys e = absurd (no-cons x (xs ++ ys) e)

  pub nil-rest : (xs ys : List A) → xs ++ ys ≡ [] → ys ≡ []
  nil-rest [] ys e = e
  nil-rest (x ∷ xs) ys e = absurd (no-cons x (xs ++ ys) e)

  pub empty-is : (xs : List A) → is_empty xs ≡ true → xs ≡ []
  empty-is [] e = refl
  empty-is (x ∷ xs) e = absurd (true≢false (sym e))

  pub flat-none : (f : ℕ → List A) (a n c : ℕ) → flat_map f (range_with_len a n) ≡ [] → a ≤ c → c < a + n → f c ≡ []
  flat-none f a zero c e le lt = absurd (omega (arith, le, lt))
  flat-none f a (suc n) c e le lt = by (c == a) refl (λ w. flat-none f (a + 1) n c (nil-rest (f a) _ e) w (omega (arith, lt)))
    where
      by : (b : Bool) → (c == a) ≡ b → (a + 1 ≤ c → f c ≡ []) → f c ≡ []
      by true s more = ap f (eqb-true c a s) ∙ nil-first (f a) _ e
      by false s more = let other = eqb-false c a s in more (omega (arith, le, other))

  pub flat-all : (f : ℕ → List A) (a n : ℕ) → ((c : ℕ) → a ≤ c → c < a + n → f c ≡ []) → flat_map f (range_with_len a n) ≡ []
  flat-all f a zero h = refl
  flat-all f a (suc n) h = (λ i. h a (omega arith) (omega arith) i ++ flat-all f (a + 1) n (λ c w v. h c (omega (arith, w)) (omega (arith, v))) i)

  pub some-none : (f : ℕ → Option A) (a n c : ℕ) → filter_map f (range_with_len a n) ≡ [] → a ≤ c → c < a + n → f c ≡ None
  some-none f a zero c e le lt = absurd (omega (arith, le, lt))
  some-none f a (suc n) c e le lt = by (f a) refl e (λ e w. some-none f (a + 1) n c e w (omega (arith, lt)))
    where
      here : (b : Bool) → (c == a) ≡ b → f a ≡ None → (a + 1 ≤ c → f c ≡ None) → f c ≡ None
      here true s g more = ap f (eqb-true c a s) ∙ g
      here false s g more = let other = eqb-false c a s in more (omega (arith, le, other))

      by : (o : Option A) → f a ≡ o → cons_option o (filter_map f (range_with_len (a + 1) n)) ≡ [] → (filter_map f (range_with_len (a + 1) n) ≡ [] → a + 1 ≤ c → f c ≡ None) → f c ≡ None
      by (Some x) g e more = absurd (no-cons x _ e)
      by None g e more = here (c == a) refl g (more e)

  pub some-all : (f : ℕ → Option A) (a n : ℕ) → ((c : ℕ) → a ≤ c → c < a + n → f c ≡ None) → filter_map f (range_with_len a n) ≡ []
  some-all f a zero h = refl
  some-all f a (suc n) h = (λ i. cons_option (h a (omega arith) (omega arith) i) (some-all f (a + 1) n (λ c w v. h c (omega (arith, w)) (omega (arith, v))) i))
