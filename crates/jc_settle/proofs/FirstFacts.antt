-- Where the first event of lists that are joined comes from.
use Rattle.std.proofs.Common.{◌≡◌, ℕ, zero, suc, ◌+◌, ◌<◌, ◌≤◌, List, [], ◌∷◌, ◌++◌, Some, None, refl, sym, ap, arith, is_some, true≢false, ◌⊎◌, inl, inr}
use Rattle.std.specs.List.{flat_map, range_with_len}
use Rattle.jc_types.specs.declared.runs.Event.{Event}
use Rattle.jc_types.specs.declared.runs.Sys.{Sys}
use Rattle.jc_history.specs.Play.{first_event}

-- It is that of the first list, or this is empty.
pub first-of : (xs ys : List Sys) (event : Event) → first_event (xs ++ ys) ≡ Some event → (first_event xs ≡ Some event) ⊎ ((xs ≡ []) × (first_event ys ≡ Some event))
first-of [] ys event e = inr (refl, e)
first-of (x ∷ xs) ys event e = inl e

-- That of many comes from one of them.
pub record From (f : ℕ → List Sys) (a n : ℕ) (event : Event) : Type 0 where
  pub place : ℕ
  pub low : a ≤ place
  pub high : place < a + n
  pub is : first_event (f place) ≡ Some event

pub first-from : (f : ℕ → List Sys) (a n : ℕ) (event : Event) → first_event (flat_map f (range_with_len a n)) ≡ Some event → From f a n event
first-from f a zero event e = absurd (none event e)
  where
    none : (event : Event) → None ≡ Some event → ⊥
    none event e = true≢false (sym (ap is_some e))
first-from f a (suc n) event e = by (first-of (f a) (flat_map f (range_with_len (a + 1) n)) event e) (λ h. first-from f (a + 1) n event h)
  where
    by : (first_event (f a) ≡ Some event) ⊎ ((f a ≡ []) × (first_event (flat_map f (range_with_len (a + 1) n)) ≡ Some event)) → (first_event (flat_map f (range_with_len (a + 1) n)) ≡ Some event → From f (a + 1) n event) → From f a (suc n) event
    by (inl h) more = record { place = a; low = omega arith; high = omega arith; is = h }
    by (inr h) more = let m = more h.1 in let low = m.low in let high = m.high in record { place = m.place; low = omega (arith, low); high = omega (arith, high); is = m.is }
