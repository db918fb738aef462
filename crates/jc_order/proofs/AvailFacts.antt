-- What is among the events that are available, and that all of them are of the shape.
use Rattle.std.proofs.Common.{◌≡◌, ℕ, zero, suc, ◌+◌, ◌-◌, ◌<◌, ◌≤◌, ◌==◌, nat_lt, Bool, true, false, cond, List, [], ◌∷◌, ◌++◌, length, find, Option, Some, None, is_none, is_some, refl, sym, ap, subst, arith, ltb-false, eqb-true}
use Rattle.std.proofs.Common.{true≢false, slice_index_or}
use Rattle.std.proofs.lemmas.Bool.{eqb-false}
use Rattle.std.specs.List.{AllByRecursion as Each, Any, flat_map, range_with_len}
use Rattle.std.specs.Option.{option_map, option_to_list, unwrap_or}
use Rattle.jc_types.proofs.ListFacts.{Each-append}
use Rattle.jc_log.specs.Acts as does
use Rattle.jc_types.specs.declared.numbers.Version.{Version}
use Rattle.jc_types.specs.declared.objects.Entry.{Entry}
use Rattle.jc_types.specs.declared.objects.Kind.{Kind}
use Rattle.jc_types.specs.declared.objects.Kind.TheVariants.{Jobs, Pods}
use Rattle.jc_types.specs.declared.runs.Shape.{Shape}
use Rattle.jc_types.specs.declared.runs.Sys.{Sys}
use Rattle.jc_types.specs.declared.runs.Sys.TheVariants as sys
use Rattle.jc_log.specs.Acts.{Act}
use Rattle.jc_log.specs.Deeds.{Deed, act_of_system}
use Rattle.jc_history.specs.Available.{available, begin_events, below, but_clock, clock_events, delivery_events, delivery_event, free_worker, least_of_all, list_event, list_events, node_events, or_clock, step_event, step_events}
use Rattle.jc_history.specs.Diaries.{moment, notes}
use Rattle.jc_history.specs.Fresh.{may_begin}
use Rattle.jc_history.specs.Legal.{IsOfShape}
use Rattle.jc_history.specs.Nodes.{fate, node_step}
use Rattle.jc_history.specs.Notes.{Note}
use Rattle.jc_history.specs.Numbers.{number}
use Rattle.jc_history.specs.Registers.{register}

module _ {A : Type 0} (P : A → Type 0) where
  pub any-here : (x : A) (xs : List A) → P x → Any P (x ∷ xs)
  any-here x xs p = (0, x, omega arith, refl, p)

  pub any-later : (x : A) (xs : List A) → Any P xs → Any P (x ∷ xs)
  any-later x xs h = (suc h.0, h.1, let lt = h.2 in omega (arith, lt), h.3, h.4)

  any-right : (xs ys : List A) → Any P ys → Any P (xs ++ ys)
  any-right [] ys h = h
  any-right (x ∷ xs) ys h = any-later x (xs ++ ys) (any-right xs ys h)

  any-left : (xs ys : List A) → Any P xs → Any P (xs ++ ys)
  any-left [] ys h = absurd (let lt = h.2 in omega (arith, lt))
  any-left (x ∷ xs) ys h = by h.0 h.1 h.2 h.3 h.4 (λ h. any-left xs ys h)
    where
      by : (k : ℕ) (y : A) → k < length (x ∷ xs) → slice_index_or (x ∷ xs) k y ≡ y → P y → (Any P xs → Any P (xs ++ ys)) → Any P ((x ∷ xs) ++ ys)
      by zero y lt e p more = any-here x (xs ++ ys) (subst P (sym e) p)
      by (suc k) y lt e p more = any-later x (xs ++ ys) (more (k, y, omega (arith, lt), e, p))

  any-flat : (f : ℕ → List A) (a n c : ℕ) → a ≤ c → c < a + n → Any P (f c) → Any P (flat_map f (range_with_len a n))
  any-flat f a zero c le lt h = absurd (omega (arith, le, lt))
  any-flat f a (suc n) c le lt h = by (c == a) refl (λ w. any-flat f (a + 1) n c w (omega (arith, lt)) h)
    where
      by : (b : Bool) → (c == a) ≡ b → (a + 1 ≤ c → Any P (flat_map f (range_with_len (a + 1) n))) → Any P (f a ++ flat_map f (range_with_len (a + 1) n))
      by true s more = any-left (f a) _ (subst (λ c. Any P (f c)) (eqb-true c a s) h)
      by false s more = let other = eqb-false c a s in any-right (f a) _ (more (omega (arith, le, other)))

  pub each-flat : (f : ℕ → List A) (a n : ℕ) → ((c : ℕ) → a ≤ c → c < a + n → Each P (f c)) → Each P (flat_map f (range_with_len a n))
  each-flat f a zero h = tt
  each-flat f a (suc n) h = Each-append P (f a) _ (h a (omega arith) (omega arith)) (each-flat f (a + 1) n (λ c le lt. h c (omega (arith, le)) (omega (arith, lt))))

-- The event of the act is available.
abbrev pub Is : Act → List Sys → Type 0
Is act events = Any (λ event. act_of_system event ≡ act) events

one : (act : Act) (event : Sys) → act_of_system event ≡ act → Is act (event ∷ [])
one act event e = any-here (λ event. act_of_system event ≡ act) event [] e

left : (act : Act) (xs ys : List Sys) → Is act xs → Is act (xs ++ ys)
left act xs ys h = any-left (λ event. act_of_system event ≡ act) xs ys h

right : (act : Act) (xs ys : List Sys) → Is act ys → Is act (xs ++ ys)
right act xs ys h = any-right (λ event. act_of_system event ≡ act) xs ys h

flat : (act : Act) (f : ℕ → List Sys) (n c : ℕ) → c < n → Is act (f c) → Is act (flat_map f (range_with_len 0 n))
flat act f n c lt h = any-flat (λ event. act_of_system event ≡ act) f 0 n c (omega arith) (omega (arith, lt)) h

module _ (shape : Shape) (past : List Deed) (log : List Entry) where
  abbrev of : ℕ → List Note
  of c = notes shape c past log

  in-all : (act : Act) → Is act (but_clock shape past log) → Is act (available shape past log)
  unfolding available
  in-all act h = by (but_clock shape past log) h
    where
      by : (xs : List Sys) → Is act xs → Is act (or_clock xs (clock_events (moment shape past) (least_of_all shape past log)))
      by [] h = absurd (let lt = h.2 in omega (arith, lt))
      by (x ∷ xs) h = h

  abbrev all-lists : List Sys
  all-lists = flat_map (λ c. list_events (of c) c) (below shape.controllers)

  abbrev all-deliveries : List Sys
  all-deliveries = flat_map (λ c. delivery_events (of c) log c) (below shape.controllers)

  module _ (c : ℕ) (lt : c < shape.controllers) where
    -- A list of a cache without a number.
    pub list-in : (kind : Kind) → number kind (of c) ≡ None → Is (does.List c kind) (available shape past log)
    list-in kind e = in-all (does.List c kind) (left (does.List c kind) all-lists _ (flat (does.List c kind) (λ c. list_events (of c) c) shape.controllers c lt (by kind e)))
      where
        here : (kind : Kind) (o : Option Version) → o ≡ None → Is (does.List c kind) (list_event c kind o)
        here kind None e = one (does.List c kind) (sys.List c kind) refl
        here kind (Some version) e = absurd (true≢false (ap is_some e))

        by : (kind : Kind) → number kind (of c) ≡ None → Is (does.List c kind) (list_events (of c) c)
        by Jobs e = left (does.List c Jobs) (list_event c Jobs (number Jobs (of c))) (list_event c Pods (number Pods (of c))) (here Jobs (number Jobs (of c)) e)
        by Pods e = right (does.List c Pods) (list_event c Jobs (number Jobs (of c))) (list_event c Pods (number Pods (of c))) (here Pods (number Pods (of c)) e)

    -- A delivery for a cache whose number is below the log's length.
    pub delivery-in : (kind : Kind) (version : Version) → number kind (of c) ≡ Some version → version.0 < length log → Is (does.Deliver c kind) (available shape past log)
    delivery-in kind version e less =
        in-all (does.Deliver c kind) (right (does.Deliver c kind) all-lists _ (left (does.Deliver c kind) all-deliveries _ (flat (does.Deliver c kind) (λ c. delivery_events (of c) log c) shape.controllers c lt (by kind e))))
      where
        sure : (b : Bool) → nat_lt version.0 (length log) ≡ b → b ≡ true
        sure true s = refl
        sure false s = let le = ltb-false version.0 (length log) s in absurd (omega (arith, less, le))

        there : (kind : Kind) → Is (does.Deliver c kind) (delivery_event log c kind (Some version))
        there kind = subst (λ b. Is (does.Deliver c kind) (cond b (sys.Deliver c kind ∷ []) [])) (sym (sure (nat_lt version.0 (length log)) refl)) (one (does.Deliver c kind) (sys.Deliver c kind) refl)

        here : (kind : Kind) → number kind (of c) ≡ Some version → Is (does.Deliver c kind) (delivery_event log c kind (number kind (of c)))
        here kind e = subst (λ o. Is (does.Deliver c kind) (delivery_event log c kind o)) (sym e) (there kind)

        by : (kind : Kind) → number kind (of c) ≡ Some version → Is (does.Deliver c kind) (delivery_events (of c) log c)
        by Jobs e = left (does.Deliver c Jobs) (delivery_event log c Jobs (number Jobs (of c))) (delivery_event log c Pods (number Pods (of c))) (here Jobs e)
        by Pods e = right (does.Deliver c Pods) (delivery_event log c Jobs (number Jobs (of c))) (delivery_event log c Pods (number Pods (of c))) (here Pods e)

    -- A step of a register in use.
    pub step-in : (w : ℕ) → w < shape.workers → is_some (register w (of c)) ≡ true → Is (does.Step c w) (available shape past log)
    step-in w less e =
        in-all (does.Step c w) (right (does.Step c w) all-lists _ (right (does.Step c w) all-deliveries _ (left (does.Step c w) (flat_map (λ c. step_events (of c) shape.workers c) (below shape.controllers)) _
        (flat (does.Step c w) (λ c. step_events (of c) shape.workers c) shape.controllers c lt
        (flat (does.Step c w) (step_event (of c) c) shape.workers w less
        (subst (λ b. Is (does.Step c w) (cond b (sys.Step c w ∷ []) [])) (sym e)
        (one (does.Step c w) (sys.Step c w) refl)))))))

-- ---- all of them

abbrev pub IsOf : Shape → Sys → Type 0
IsOf shape event = IsOfShape shape (act_of_system event)

found-below : (test : ℕ → Bool) (a n w : ℕ) → find test (range_with_len a n) ≡ Some w → w < a + n
found-below test a zero w e = absurd (true≢false (sym (ap is_some e)))
found-below test a (suc n) w e = by (test a) e (λ e. found-below test (a + 1) n w e)
  where
    by : (b : Bool) → cond b (Some a) (find test (range_with_len (a + 1) n)) ≡ Some w → (find test (range_with_len (a + 1) n) ≡ Some w → w < a + 1 + n) → w < a + suc n
    by true e more = let same : a ≡ w = ap (λ o. unwrap_or o a) e in omega (arith, same)
    by false e more = let lt = more e in omega (arith, lt)

-- What holds of each kind of event holds of all that are available.
module _ (shape : Shape) (past : List Deed) (log : List Entry) (P : Sys → Type 0)
    (list : (c : ℕ) (kind : Kind) → c < shape.controllers → P (sys.List c kind))
    (deliver : (c : ℕ) (kind : Kind) → c < shape.controllers → P (sys.Deliver c kind))
    (begins : (c w : ℕ) → c < shape.controllers → w < shape.workers → P (sys.Begin c w))
    (steps : (c w : ℕ) → c < shape.controllers → w < shape.workers → P (sys.Step c w)) (node : P sys.Node)
    (clock : (due : ℕ) → least_of_all shape past log ≡ Some due → P (sys.Clock (due - moment shape past))) where
  list-of : (c : ℕ) (kind : Kind) (o : Option Version) → c < shape.controllers → Each P (list_event c kind o)
  list-of c kind None lt = (list c kind lt, tt)
  list-of c kind (Some version) lt = tt

  delivery-of : (c : ℕ) (kind : Kind) (o : Option Version) → c < shape.controllers → Each P (delivery_event log c kind o)
  delivery-of c kind None lt = tt
  delivery-of c kind (Some version) lt = by (nat_lt version.0 (length log))
    where
      by : (b : Bool) → Each P (cond b (sys.Deliver c kind ∷ []) [])
      by true = (deliver c kind lt, tt)
      by false = tt

  step-of : (c w : ℕ) (b : Bool) → c < shape.controllers → w < shape.workers → Each P (cond b (sys.Step c w ∷ []) [])
  step-of c w true lt less = (steps c w lt less, tt)
  step-of c w false lt less = tt

  begin-of : (c : ℕ) (b : Bool) (o : Option ℕ) → ((w : ℕ) → o ≡ Some w → w < shape.workers) → c < shape.controllers → Each P (cond b (option_to_list (option_map (λ w. sys.Begin c w) o)) [])
  begin-of c true None f lt = tt
  begin-of c true (Some w) f lt = (begins c w lt (f w refl), tt)
  begin-of c false o f lt = tt

  node-of : (b : Bool) → Each P (node_events b)
  node-of true = (node, tt)
  node-of false = tt

  clock-of : (o : Option ℕ) → least_of_all shape past log ≡ o → Each P (clock_events (moment shape past) o)
  clock-of None e = tt
  clock-of (Some due) e = (clock due e, tt)

  pub each-available : Each P (available shape past log)
  unfolding available
  each-available = by (but_clock shape past log) all (clock-of (least_of_all shape past log) refl)
    where
      by : (xs : List Sys) → Each P xs → Each P (clock_events (moment shape past) (least_of_all shape past log)) → Each P (or_clock xs (clock_events (moment shape past) (least_of_all shape past log)))
      by [] h g = g
      by (x ∷ xs) h g = h

      lists-of : (c : ℕ) → 0 ≤ c → c < 0 + shape.controllers → Each P (list_events (notes shape c past log) c)
      lists-of c le lt =
          Each-append P (list_event c Jobs (number Jobs (notes shape c past log))) (list_event c Pods (number Pods (notes shape c past log)))
          (list-of c Jobs (number Jobs (notes shape c past log)) (omega (arith, lt))) (list-of c Pods (number Pods (notes shape c past log)) (omega (arith, lt)))

      deliveries-of : (c : ℕ) → 0 ≤ c → c < 0 + shape.controllers → Each P (delivery_events (notes shape c past log) log c)
      deliveries-of c le lt =
          Each-append P (delivery_event log c Jobs (number Jobs (notes shape c past log))) (delivery_event log c Pods (number Pods (notes shape c past log)))
          (delivery-of c Jobs (number Jobs (notes shape c past log)) (omega (arith, lt))) (delivery-of c Pods (number Pods (notes shape c past log)) (omega (arith, lt)))

      steps-of : (c : ℕ) → 0 ≤ c → c < 0 + shape.controllers → Each P (step_events (notes shape c past log) shape.workers c)
      steps-of c le lt = each-flat P (step_event (notes shape c past log) c) 0 shape.workers (λ w from less. step-of c w (is_some (register w (notes shape c past log))) (omega (arith, lt)) (omega (arith, less)))

      begins-of : (c : ℕ) → 0 ≤ c → c < 0 + shape.controllers → Each P (begin_events (notes shape c past log) log shape.workers c)
      begins-of c le lt =
          begin-of c (may_begin (notes shape c past log) log) (free_worker (notes shape c past log) shape.workers)
          (λ w e. let less = found-below (λ w. is_none (register w (notes shape c past log))) 0 shape.workers w e in
          omega (arith, less)) (omega (arith, lt))

      all : Each P (but_clock shape past log)
      all =
          Each-append P (flat_map (λ c. list_events (notes shape c past log) c) (below shape.controllers)) _ (each-flat P (λ c. list_events (notes shape c past log) c) 0 shape.controllers lists-of)
          (Each-append P (flat_map (λ c. delivery_events (notes shape c past log) log c) (below shape.controllers)) _ (each-flat P (λ c. delivery_events (notes shape c past log) log c) 0 shape.controllers deliveries-of)
          (Each-append P (flat_map (λ c. step_events (notes shape c past log) shape.workers c) (below shape.controllers)) _ (each-flat P (λ c. step_events (notes shape c past log) shape.workers c) 0 shape.controllers steps-of)
          (Each-append P (flat_map (λ c. begin_events (notes shape c past log) log shape.workers c) (below shape.controllers)) _ (each-flat P (λ c. begin_events (notes shape c past log) log shape.workers c) 0 shape.controllers begins-of)
          (node-of (is_some (node_step log (fate past)))))))

-- All of them are of the shape.
pub all-within : (shape : Shape) (past : List Deed) (log : List Entry) → Each (IsOf shape) (available shape past log)
all-within shape past log =
    each-available shape past log (IsOf shape) (λ c kind lt. lt) (λ c kind lt. lt) (λ c w lt less. (lt, less)) (λ c w lt less. (lt, less)) tt (λ due e. tt)
