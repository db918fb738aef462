-- The least delay of all controllers is that of one of them.
use Rattle.std.proofs.Common.{◌≡◌, ℕ, zero, suc, ◌+◌, ◌<◌, ◌≤◌, nat_le, min, Bool, true, false, List, ◌∷◌, Option, Some, None, refl, ap, ◌∙◌, arith, ◌⊎◌, inl, inr}
use Rattle.std.proofs.lemmas.Bool.{leb-false, leb-true}
use Rattle.std.proofs.lemmas.Option.{none-some as none_some, same_Some as some_is}
use Rattle.std.specs.List.{cons_option, filter_map, range_with_len}
use Rattle.jc_types.specs.declared.runs.Shape.{Shape}
use Rattle.jc_log.specs.Deeds.{Deed}
use Rattle.jc_history.specs.Available.{earliest, least_of_all}
use Rattle.jc_history.specs.Delays.{least_delay}
use Rattle.jc_history.specs.Replies.{diary, log_given}

-- The number is that of a place from a on.
record At (f : ℕ → Option ℕ) (a n due : ℕ) : Type 0 where
  place : ℕ
  low : a ≤ place
  high : place < a + n
  is : f place ≡ Some due

further : (f : ℕ → Option ℕ) (a n due : ℕ) → At f (a + 1) n due → At f a (suc n) due
further f a n due h = let low = h.low in let high = h.high in record { place = h.place; low = omega (arith, low); high = omega (arith, high); is = h.is }

lesser : (x m due : ℕ) → min x m ≡ due → (x ≡ due) ⊎ (m ≡ due)
lesser x m due e = by (nat_le x m) refl
  where
    by : (b : Bool) → nat_le x m ≡ b → (x ≡ due) ⊎ (m ≡ due)
    by true s = let le = leb-true x m s in inl (omega (arith, le, e))
    by false s = let lt = leb-false x m s in inr (omega (arith, lt, e))

earliest-at : (f : ℕ → Option ℕ) (a n : ℕ) (found : Option ℕ) (due : ℕ) → earliest found (filter_map f (range_with_len a n)) ≡ Some due → (found ≡ Some due) ⊎ At f a n due
earliest-at f a zero found due e = inl e
earliest-at f a (suc n) found due e = by (f a) refl e (λ other. earliest-at f (a + 1) n other due)
  where
    rest : List ℕ
    rest = filter_map f (range_with_len (a + 1) n)

    here : (m : ℕ) → f a ≡ Some m → m ≡ due → At f a (suc n) due
    here m is same = record { place = a; low = omega arith; high = omega arith; is = is ∙ ap (λ x. Some x) same }

    of-none : (m : ℕ) → f a ≡ Some m → (Some m ≡ Some due) ⊎ At f (a + 1) n due → (None ≡ Some due) ⊎ At f a (suc n) due
    of-none m is (inl h) = inr (here m is (some_is m due h))
    of-none m is (inr h) = inr (further f a n due h)

    of-some : (x m : ℕ) → f a ≡ Some m → (Some (min x m) ≡ Some due) ⊎ At f (a + 1) n due → (Some x ≡ Some due) ⊎ At f a (suc n) due
    of-some x m is (inr h) = inr (further f a n due h)
    of-some x m is (inl h) = on (lesser x m due (some_is (min x m) due h))
      where
        on : (x ≡ due) ⊎ (m ≡ due) → (Some x ≡ Some due) ⊎ At f a (suc n) due
        on (inl g) = inl (ap (λ y. Some y) g)
        on (inr g) = inr (here m is g)

    with-one : (m : ℕ) → f a ≡ Some m → (found : Option ℕ) → earliest found (m ∷ rest) ≡ Some due → ((other : Option ℕ) → earliest other rest ≡ Some due → (other ≡ Some due) ⊎ At f (a + 1) n due) → (found ≡ Some due) ⊎ At f a (suc n) due
    with-one m is None e more = of-none m is (more (Some m) e)
    with-one m is (Some x) e more = of-some x m is (more (Some (min x m)) e)

    by : (o : Option ℕ) → f a ≡ o → earliest found (cons_option o rest) ≡ Some due → ((other : Option ℕ) → earliest other rest ≡ Some due → (other ≡ Some due) ⊎ At f (a + 1) n due) → (found ≡ Some due) ⊎ At f a (suc n) due
    by None is e more = on (more found e)
      where
        on : (found ≡ Some due) ⊎ At f (a + 1) n due → (found ≡ Some due) ⊎ At f a (suc n) due
        on (inl h) = inl h
        on (inr h) = inr (further f a n due h)
    by (Some m) is e more = with-one m is found e more

pub record IsDueOf (shape : Shape) (past : List Deed) (due : ℕ) : Type 0 where
  pub controller : ℕ
  pub within : controller < shape.controllers
  pub is : least_delay (diary shape controller past) ≡ Some due

pub due-of : (shape : Shape) (past : List Deed) (due : ℕ) → least_of_all shape past (log_given shape past) ≡ Some due → IsDueOf shape past due
due-of shape past due e = by (earliest-at (λ c. least_delay (diary shape c past)) 0 shape.controllers None due e)
  where
    by : (None ≡ Some due) ⊎ At (λ c. least_delay (diary shape c past)) 0 shape.controllers due → IsDueOf shape past due
    by (inl h) = absurd (none_some due h)
    by (inr h) = let high = h.high in record { controller = h.place; within = omega (arith, high); is = h.is }
