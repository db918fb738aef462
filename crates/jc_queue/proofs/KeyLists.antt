-- Lists of keys in which no key stands twice: a key that goes last, and one that is taken out.
use Rattle.std.proofs.Common.{◌≡◌, Bool, true, false, cond, not, ◌&&◌, ◌||◌, List, [], ◌∷◌, ◌++◌, refl, sym, ap, ◌∙◌, true≢false}
use Rattle.std.specs.List.{AllByRecursion as Each, IsDistinct}
use Rattle.std.proofs.lemmas.List.Folds.{list_any-append}
use Rattle.std.proofs.Math.Bool.{or-false}
use Rattle.jc_types.specs.declared.objects.KeyNames.{KeyNames as Key}
use Rattle.jc_types.specs.Keys.{same_key}
use Rattle.jc_types.proofs.KeyFacts.{same_key-eq, same_key-itself, same_key-either_way}
use Rattle.jc_queue.specs.Queued.{has_key, without}

-- None of the keys is k, as one test.
pub none_is : (k : Key) (keys : List Key) → Each (λ y. same_key k y ≡ false) keys → has_key k keys ≡ false
none_is k [] h = refl
none_is k (x ∷ xs) h = ap (λ b. b || has_key k xs) h.0 ∙ none_is k xs h.1

-- A key that goes last is among the keys, beside those that were.
pub is_in-last : (q k : Key) (keys : List Key) → has_key q (keys ++ k ∷ []) ≡ (has_key q keys || same_key q k)
is_in-last q k keys = list_any-append (same_key q) keys (k ∷ []) ∙ ap (λ b. has_key q keys || b) (or-false (same_key q k))

-- A key that is not among the keys may go last.
each-last : (y k : Key) (keys : List Key) → same_key y k ≡ false → Each (λ z. same_key y z ≡ false) keys → Each (λ z. same_key y z ≡ false) (keys ++ k ∷ [])
each-last y k [] f h = (f, tt)
each-last y k (z ∷ zs) f h = (h.0, each-last y k zs f h.1)

pub distinct-last : (k : Key) (keys : List Key) → has_key k keys ≡ false → IsDistinct same_key keys → IsDistinct same_key (keys ++ k ∷ [])
unfolding IsDistinct
distinct-last k [] h d = (tt, tt)
distinct-last k (x ∷ xs) h d = by (same_key k x) refl h (distinct-last k xs)
  where
    by : (b : Bool) → same_key k x ≡ b → (b || has_key k xs) ≡ false → (has_key k xs ≡ false → IsDistinct same_key xs → IsDistinct same_key (xs ++ k ∷ [])) → IsDistinct same_key (x ∷ (xs ++ k ∷ []))
    by true t h rest = absurd (true≢false h)
    by false t h rest = (each-last x k xs (same_key-either_way x k ∙ t) d.0, rest h d.1)

-- What holds of each key holds of those that are left.
pub each-without : (P : Key → Type 0) (k : Key) (keys : List Key) → Each P keys → Each P (without k keys)
each-without P k [] h = tt
each-without P k (x ∷ xs) h = by (same_key k x) (each-without P k xs h.1)
  where
    by : (b : Bool) → Each P (without k xs) → Each P (cond b xs (x ∷ without k xs))
    by true rest = h.1
    by false rest = (h.0, rest)

pub distinct-without : (k : Key) (keys : List Key) → IsDistinct same_key keys → IsDistinct same_key (without k keys)
unfolding IsDistinct
distinct-without k [] d = tt
distinct-without k (x ∷ xs) d = by (same_key k x) (distinct-without k xs d.1)
  where
    by : (b : Bool) → IsDistinct same_key (without k xs) → IsDistinct same_key (cond b xs (x ∷ without k xs))
    by true rest = d.1
    by false rest = (each-without (λ y. same_key x y ≡ false) k xs d.0, rest)

-- Just k is among the keys no more.
pub is_in-without : (q k : Key) (keys : List Key) → IsDistinct same_key keys → has_key q (without k keys) ≡ (not (same_key k q) && has_key q keys)
unfolding IsDistinct
is_in-without q k [] d = by (same_key k q)
  where
    by : (b : Bool) → false ≡ (not b && false)
    by true = refl
    by false = refl
is_in-without q k (x ∷ xs) d = by (same_key k x) refl (is_in-without q k xs d.1)
  where
    by : (b : Bool) → same_key k x ≡ b → has_key q (without k xs) ≡ (not (same_key k q) && has_key q xs) → has_key q (cond b xs (x ∷ without k xs)) ≡ (not (same_key k q) && (same_key q x || has_key q xs))
    by true t rest = at_key (same_key k q) refl
      where
        at_key : (b : Bool) → same_key k q ≡ b → has_key q xs ≡ (not b && (same_key q x || has_key q xs))
        at_key true s = ap (λ z. has_key z xs) (sym (same_key-eq k q s) ∙ same_key-eq k x t) ∙ none_is x xs d.0
        at_key false s = ap (λ b. b || has_key q xs) (sym (ap (λ z. same_key q z) (sym (same_key-eq k x t)) ∙ same_key-either_way q k ∙ s))
    by false t rest = at_key (same_key q x) refl
      where
        at_key : (b : Bool) → same_key q x ≡ b → (b || has_key q (without k xs)) ≡ (not (same_key k q) && (b || has_key q xs))
        at_key true s = sym (ap (λ b. not b && true) (ap (λ z. same_key k z) (same_key-eq q x s) ∙ t))
        at_key false s = rest

-- The first key is one of the keys.
pub first_in : (k : Key) (rest : List Key) → has_key k (k ∷ rest) ≡ true
first_in k rest = ap (λ b. b || has_key k rest) (same_key-itself k)
