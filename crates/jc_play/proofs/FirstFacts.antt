-- The first event of lists that are joined.
use Rattle.std.proofs.Common.{◌≡◌, ℕ, zero, suc, ◌+◌, ◌-◌, ◌<◌, ◌≤◌, ◌==◌, Bool, true, false, cond, List, [], ◌∷◌, ◌++◌, find, Option, Some, None, is_none, refl, sym, ap, ◌∙◌, arith, eqb-true}
use Rattle.std.proofs.lemmas.Bool.{eqb-false}
use Rattle.std.specs.List.{cons_option, filter_map, flat_map, range_with_len}
use Rattle.std.specs.Option.{option_or}
use Rattle.jc_types.specs.declared.runs.Event.{Event}
use Rattle.jc_types.specs.declared.runs.Sys.{Sys}
use Rattle.jc_history.specs.Available.{earliest, is_empty, or_clock}
use Rattle.jc_history.specs.Play.{first_event}
use Rattle.jc_play.specs.Turns.{earliest_of}

-- The first of two lists.
pub first-append : (xs ys : List Sys) → first_event (xs ++ ys) ≡ option_or (first_event xs) (first_event ys)
first-append [] ys = refl
first-append (x ∷ xs) ys = refl

-- Where the first list has none.
pub first-later : (xs ys : List Sys) → first_event xs ≡ None → first_event (xs ++ ys) ≡ first_event ys
first-later xs ys e = first-append xs ys ∙ ap (λ o. option_or o (first_event ys)) e

-- Where it has one.
pub first-here : (xs ys : List Sys) (event : Event) → first_event xs ≡ Some event → first_event (xs ++ ys) ≡ Some event
first-here xs ys event e = first-append xs ys ∙ ap (λ o. option_or o (first_event ys)) e

-- The clock is tried where there is nothing else.
pub first-clock : (xs clock : List Sys) → first_event (or_clock xs clock) ≡ option_or (first_event xs) (first_event clock)
first-clock [] clock = refl
first-clock (x ∷ xs) clock = refl

-- There is none just where the list is empty.
pub none-empty : (xs : List Sys) → is_none (first_event xs) ≡ is_empty xs
none-empty [] = refl
none-empty (x ∷ xs) = refl

-- ---- over numbers

module _ (f : ℕ → List Sys) where
  nones : (a n : ℕ) → ((k : ℕ) → a ≤ k → k < a + n → first_event (f k) ≡ None) → first_event (flat_map f (range_with_len a n)) ≡ None
  nones a zero h = refl
  nones a (suc n) h = first-later (f a) _ (h a (omega arith) (omega arith)) ∙ nones (a + 1) n (λ k le lt. h k (omega (arith, le)) (omega (arith, lt)))

  -- None of all.
  pub first-none : (n : ℕ) → ((k : ℕ) → k < n → first_event (f k) ≡ None) → first_event (flat_map f (range_with_len 0 n)) ≡ None
  first-none n h = nones 0 n (λ k le lt. h k (omega (arith, lt)))

  founds : (a n i : ℕ) (event : Event) → a ≤ i → i < a + n → ((k : ℕ) → a ≤ k → k < i → first_event (f k) ≡ None) → first_event (f i) ≡ Some event → first_event (flat_map f (range_with_len a n)) ≡ Some event
  founds a zero i event le lt h e = absurd (omega (arith, le, lt))
  founds a (suc n) i event le lt h e = by (i == a) refl (λ w. founds (a + 1) n i event w (omega (arith, lt)) (λ k le lt. h k (omega (arith, le)) lt) e)
    where
      by : (b : Bool) → (i == a) ≡ b → (a + 1 ≤ i → first_event (flat_map f (range_with_len (a + 1) n)) ≡ Some event) → first_event (f a ++ flat_map f (range_with_len (a + 1) n)) ≡ Some event
      by true s more = first-here (f a) _ event (ap (λ k. first_event (f k)) (sym (eqb-true i a s)) ∙ e)
      by false s more = let other = eqb-false i a s in first-later (f a) _ (h a (omega arith) (omega (arith, le, other))) ∙ more (omega (arith, le, other))

  -- The first of those that have one.
  pub first-found : (n i : ℕ) (event : Event) → i < n → ((k : ℕ) → k < i → first_event (f k) ≡ None) → first_event (f i) ≡ Some event → first_event (flat_map f (range_with_len 0 n)) ≡ Some event
  first-found n i event lt h e = founds 0 n i event (omega arith) (omega (arith, lt)) (λ k le less. h k less) e

module _ (test : ℕ → Bool) where
  finds-none : (a n : ℕ) → ((k : ℕ) → a ≤ k → k < a + n → test k ≡ false) → find test (range_with_len a n) ≡ None
  finds-none a zero h = refl
  finds-none a (suc n) h =
      ap (λ b. cond b (Some a) (find test (range_with_len (a + 1) n))) (h a (omega arith) (omega arith))
      ∙ finds-none (a + 1) n (λ k le lt. h k (omega (arith, le)) (omega (arith, lt)))

  -- No number passes.
  pub find-none : (n : ℕ) → ((k : ℕ) → k < n → test k ≡ false) → find test (range_with_len 0 n) ≡ None
  find-none n h = finds-none 0 n (λ k le lt. h k (omega (arith, lt)))

  finds : (a n i : ℕ) → a ≤ i → i < a + n → ((k : ℕ) → a ≤ k → k < i → test k ≡ false) → test i ≡ true → find test (range_with_len a n) ≡ Some i
  finds a zero i le lt h e = absurd (omega (arith, le, lt))
  finds a (suc n) i le lt h e = by (i == a) refl (λ w. finds (a + 1) n i w (omega (arith, lt)) (λ k le lt. h k (omega (arith, le)) lt) e)
    where
      by : (b : Bool) → (i == a) ≡ b → (a + 1 ≤ i → find test (range_with_len (a + 1) n) ≡ Some i) → cond (test a) (Some a) (find test (range_with_len (a + 1) n)) ≡ Some i
      by true s more = ap (λ b. cond b (Some a) (find test (range_with_len (a + 1) n))) (ap test (sym (eqb-true i a s)) ∙ e) ∙ ap Some (sym (eqb-true i a s))
      by false s more = let other = eqb-false i a s in ap (λ b. cond b (Some a) (find test (range_with_len (a + 1) n))) (h a (omega arith) (omega (arith, le, other))) ∙ more (omega (arith, le, other))

  -- The first number that passes.
  pub find-first : (n i : ℕ) → i < n → ((k : ℕ) → k < i → test k ≡ false) → test i ≡ true → find test (range_with_len 0 n) ≡ Some i
  find-first n i lt h e = finds 0 n i (omega arith) (omega (arith, lt)) (λ k le less. h k less) e

-- ---- moments

-- One more moment, if it is there.
earliest-cons : (found o : Option ℕ) (rest : List ℕ) → earliest found (cons_option o rest) ≡ earliest (earliest_of found o) rest
earliest-cons found None rest = refl
earliest-cons found (Some moment) rest = refl

-- The least of what is left, after one more.
pub earliest-step : (f : ℕ → Option ℕ) (found : Option ℕ) (i n : ℕ) → i < n
    → earliest found (filter_map f (range_with_len i (n - i))) ≡ earliest (earliest_of found (f i)) (filter_map f (range_with_len (i + 1) (n - (i + 1))))
earliest-step f found i n lt =
    (let more : n - i ≡ suc (n - (i + 1)) = omega (arith, lt) in ap (λ m. earliest found (filter_map f (range_with_len i m))) more)
    ∙ earliest-cons found (f i) (filter_map f (range_with_len (i + 1) (n - (i + 1))))

-- The least of all, once there is none left.
pub earliest-last : (f : ℕ → Option ℕ) (found : Option ℕ) (i n : ℕ) → n ≤ i → earliest found (filter_map f (range_with_len i (n - i))) ≡ found
earliest-last f found i n le = let none : n - i ≡ 0 = omega (arith, le) in ap (λ m. earliest found (filter_map f (range_with_len i m))) none

pub least-step : (f : ℕ → Option ℕ) (found next new : Option ℕ) (i n : ℕ) → i < n → next ≡ f i → new ≡ earliest_of found next → (all : Option ℕ) → all ≡ earliest found (filter_map f (range_with_len i (n - i)))
    → all ≡ earliest new (filter_map f (range_with_len (i + 1) (n - (i + 1))))
least-step f found next new i n lt e g all h =
    h ∙ earliest-step f found i n lt ∙ ap (λ (o : Option ℕ). earliest o (filter_map f (range_with_len (i + 1) (n - (i + 1))))) (sym (g ∙ ap (earliest_of found) e))
