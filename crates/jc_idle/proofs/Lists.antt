-- Lists of which nothing is left.
use Rattle.std.proofs.Common.{◌≡◌, ℕ, zero, suc, ◌<◌, ◌≤◌, Bool, true, false, cond, ◌||◌, List, [], ◌∷◌, map, filter, length, take, replicate, refl, sym, ap, ◌∙◌, arith, true≢false}
use Rattle.std.specs.List.{list_any}

-- Where nothing passes, no filter of it maps to anything.
pub none-mapped : {A B : Type 0} (f : A → B) (test : A → Bool) (xs : List A) → map f (filter test xs) ≡ [] → list_any test xs ≡ false
none-mapped f test [] e = refl
none-mapped f test (x ∷ xs) e = by (test x) e (none-mapped f test xs)
  where
    by : (b : Bool) → map f (cond b (x ∷ filter test xs) (filter test xs)) ≡ [] → (map f (filter test xs) ≡ [] → list_any test xs ≡ false) → (b || list_any test xs) ≡ false
    by true e ih = absurd (true≢false (ap (λ (l : List _). elim l [ [] ↦ false | y ∷ ys ↦ true ]) e))
    by false e ih = ih e

-- What passes one test passes one of two others; so where none passes these, none passes it.
pub none-either : {A : Type 0} (f g h : A → Bool) → ((x : A) → h x ≡ true → (f x || g x) ≡ true) → (xs : List A) → list_any f xs ≡ false → list_any g xs ≡ false → list_any h xs ≡ false
none-either f g h imp [] a b = refl
none-either f g h imp (x ∷ xs) a b = by (f x) refl (g x) refl (h x) refl a b (none-either f g h imp xs)
  where
    by : (p : Bool) → f x ≡ p → (q : Bool) → g x ≡ q → (r : Bool) → h x ≡ r → (p || list_any f xs) ≡ false → (q || list_any g xs) ≡ false
        → (list_any f xs ≡ false → list_any g xs ≡ false → list_any h xs ≡ false) → (r || list_any h xs) ≡ false
    by true e q i r j a b ih = absurd (true≢false a)
    by false e true i r j a b ih = absurd (true≢false b)
    by false e false i true j a b ih = absurd (true≢false (sym (imp x j) ∙ (λ t. e t || i t)))
    by false e false i false j a b ih = ih a b

pub some-replicated : {A : Type 0} (n : ℕ) (x : A) → 0 < n → replicate n x ≡ [] → ⊥
some-replicated zero x lt e = omega (arith, lt)
some-replicated (suc n) x lt e = true≢false (ap (λ (l : List _). elim l [ [] ↦ false | y ∷ ys ↦ true ]) e)

pub some-taken : {A B : Type 0} (f : A → B) (n : ℕ) (xs : List A) → 0 < n → map f (take n xs) ≡ [] → xs ≡ []
some-taken f n [] lt e = refl
some-taken f zero (x ∷ xs) lt e = absurd (omega (arith, lt))
some-taken f (suc n) (x ∷ xs) lt e = absurd (true≢false (ap (λ (l : List _). elim l [ [] ↦ false | y ∷ ys ↦ true ]) e))

-- Where each that passes one test passes another or one of two that none passes, no more pass it than that one.
pub no-more : {A : Type 0} (f g h test : A → Bool) → ((x : A) → test x ≡ true → (f x || (g x || h x)) ≡ true) → (xs : List A) → list_any g xs ≡ false → list_any h xs ≡ false
    → length (filter test xs) ≤ length (filter f xs)
no-more f g h test imp [] a b = omega arith
no-more f g h test imp (x ∷ xs) a b = by (test x) refl (f x) refl (g x) refl (h x) refl a b (no-more f g h test imp xs)
  where
    by : (t : Bool) → test x ≡ t → (p : Bool) → f x ≡ p → (q : Bool) → g x ≡ q → (r : Bool) → h x ≡ r → (q || list_any g xs) ≡ false → (r || list_any h xs) ≡ false
        → (list_any g xs ≡ false → list_any h xs ≡ false → length (filter test xs) ≤ length (filter f xs))
        → length (cond t (x ∷ filter test xs) (filter test xs)) ≤ length (cond p (x ∷ filter f xs) (filter f xs))
    by t s p e true i r j a b ih = absurd (true≢false a)
    by t s p e false i true j a b ih = absurd (true≢false b)
    by true s true e false i false j a b ih = let le = ih a b in omega (arith, le)
    by true s false e false i false j a b ih = absurd (true≢false (sym (imp x s) ∙ (λ t. e t || (i t || j t))))
    by false s true e false i false j a b ih = let le = ih a b in omega (arith, le)
    by false s false e false i false j a b ih = ih a b
