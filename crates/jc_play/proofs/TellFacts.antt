-- What an event that is available says of the machine, and what else is among what is available.
use Rattle.std.proofs.Common.{◌≡◌, ℕ, zero, suc, ◌+◌, ◌-◌, ◌<◌, ◌≤◌, ◌==◌, nat_lt, Bool, true, false, cond, List, [], ◌∷◌, ◌++◌, length, Option, Some, None, is_some, refl, sym, ap, ◌∙◌, subst, arith, eqb-true, true≢false, slice_index_or}
use Rattle.std.proofs.lemmas.Bool.{eqb-false}
use Rattle.std.proofs.lemmas.List.Elements.{Contains-append_left, Contains-append_right}
use Rattle.std.specs.List.{AllByRecursion as Each, Contains, flat_map, range_with_len}
use Rattle.std.specs.Option.{option_map, option_to_list}
use Rattle.jc_types.proofs.ListFacts.{Each-append}
use Rattle.jc_log.specs.Acts as does
use Rattle.jc_types.specs.declared.numbers.Version.{Version}
use Rattle.jc_types.specs.declared.objects.Entry.{Entry}
use Rattle.jc_types.specs.declared.objects.Kind.{Kind}
use Rattle.jc_types.specs.declared.objects.Kind.TheVariants.{Jobs, Pods}
use Rattle.jc_types.specs.declared.runs.Event.TheVariants.{System}
use Rattle.jc_types.specs.declared.runs.Shape.{Shape}
use Rattle.jc_types.specs.declared.runs.Sys.{Sys}
use Rattle.jc_types.specs.declared.runs.Sys.TheVariants as sys
use Rattle.jc_log.specs.Acts.{Act}
use Rattle.jc_log.specs.Deeds.{Deed, act_of_system}
use Rattle.jc_history.specs.Available.{available, begin_events, below, but_clock, clock_events, delivery_event, delivery_events, free_worker, least_of_all, list_event, list_events, node_events, or_clock, step_event, step_events}
use Rattle.jc_history.specs.Diaries.{moment, notes}
use Rattle.jc_history.specs.Fresh.{may_begin}
use Rattle.jc_history.specs.Nodes.{fate, node_step}
use Rattle.jc_history.specs.Notes.{Note}
use Rattle.jc_history.specs.Numbers.{number}
use Rattle.jc_history.specs.Play.{first_event}
use Rattle.jc_history.specs.Registers.{register}
use Rattle.jc_order.proofs.AvailFacts.{Is, each-flat}

-- One of the events does what the act says.
is-of : (act : Act) (event : Sys) (events : List Sys) → Contains events event → act_of_system event ≡ act → Is act events
is-of act event events h e = (h.0, event, h.1, h.2, e)

in-flat : (f : ℕ → List Sys) (event : Sys) (a n c : ℕ) → a ≤ c → c < a + n → Contains (f c) event → Contains (flat_map f (range_with_len a n)) event
in-flat f event a zero c le lt h = absurd (omega (arith, le, lt))
in-flat f event a (suc n) c le lt h = by (c == a) refl (λ w. in-flat f event (a + 1) n c w (omega (arith, lt)) h)
  where
    by : (b : Bool) → (c == a) ≡ b → (a + 1 ≤ c → Contains (flat_map f (range_with_len (a + 1) n)) event) → Contains (f a ++ flat_map f (range_with_len (a + 1) n)) event
    by true s more = Contains-append_left (f a) _ event (subst (λ c. Contains (f c) event) (eqb-true c a s) h)
    by false s more = let other = eqb-false c a s in Contains-append_right (f a) _ event (more (omega (arith, le, other)))

sole : (event : Sys) → Contains (event ∷ []) event
sole event = (0, omega arith, refl)

-- What holds of what each of the events does, holds of the act that one of them does.
pub known : (P : Act → Type 0) (act : Act) (events : List Sys) → Each (λ event. P (act_of_system event)) events → Is act events → P act
known P act [] all h = absurd (let lt = h.2 in omega (arith, lt))
known P act (x ∷ xs) all h = by h.0 h.1 h.2 h.3 h.4 (λ h. known P act xs all.1 h)
  where
    by : (k : ℕ) (y : Sys) → k < length (x ∷ xs) → slice_index_or (x ∷ xs) k y ≡ y → act_of_system y ≡ act → (Is act xs → P act) → P act
    by zero y lt e s more = subst P (ap act_of_system e ∙ s) all.0
    by (suc k) y lt e s more = more (k, y, omega (arith, lt), e, s)

module _ (shape : Shape) (past : List Deed) (log : List Entry) where
  abbrev of : ℕ → List Note
  of c = notes shape c past log

  abbrev clock_now : List Sys
  clock_now = clock_events (moment shape past) (least_of_all shape past log)

  -- What an available event that does this says.
  abbrev pub Tells : Act → Type 0
  Tells (does.List c kind) = first_event (list_event c kind (number kind (of c))) ≡ Some (System (sys.List c kind))
  Tells (does.Deliver c kind) = first_event (delivery_event log c kind (number kind (of c))) ≡ Some (System (sys.Deliver c kind))
  Tells (does.Begin c w) = (may_begin (of c) log ≡ true) × (free_worker (of c) shape.workers ≡ Some w)
  Tells (does.Step c w) = is_some (register w (of c)) ≡ true
  Tells does.Node = is_some (node_step log (fate past)) ≡ true
  Tells (does.Clock add) = (first_event (but_clock shape past log) ≡ None) × (first_event clock_now ≡ Some (System (sys.Clock add)))
  Tells other = Unit

  abbrev Told : Sys → Type 0
  Told event = Tells (act_of_system event)

  list-tells : (c : ℕ) (kind : Kind) → Each Told (list_event c kind (number kind (of c)))
  list-tells c kind = by (number kind (of c)) refl
    where
      by : (o : Option Version) → number kind (of c) ≡ o → Each Told (list_event c kind o)
      by None e = (ap (λ (o : Option Version). first_event (list_event c kind o)) e, tt)
      by (Some version) e = tt

  delivery-tells : (c : ℕ) (kind : Kind) → Each Told (delivery_event log c kind (number kind (of c)))
  delivery-tells c kind = by (number kind (of c)) refl
    where
      by : (o : Option Version) → number kind (of c) ≡ o → Each Told (delivery_event log c kind o)
      by None e = tt
      by (Some version) e = at (nat_lt version.0 (length log)) refl
        where
          at : (b : Bool) → nat_lt version.0 (length log) ≡ b → Each Told (cond b (sys.Deliver c kind ∷ []) [])
          at true s = (ap (λ (o : Option Version). first_event (delivery_event log c kind o)) e ∙ ap (λ b. first_event (cond b (sys.Deliver c kind ∷ []) [])) s, tt)
          at false s = tt

  step-tells : (c w : ℕ) → Each Told (step_event (of c) c w)
  step-tells c w = by (is_some (register w (of c))) refl
    where
      by : (b : Bool) → is_some (register w (of c)) ≡ b → Each Told (cond b (sys.Step c w ∷ []) [])
      by true e = (e, tt)
      by false e = tt

  begin-tells : (c : ℕ) → Each Told (begin_events (of c) log shape.workers c)
  begin-tells c = by (may_begin (of c) log) refl (free_worker (of c) shape.workers) refl
    where
      by : (b : Bool) → may_begin (of c) log ≡ b → (o : Option ℕ) → free_worker (of c) shape.workers ≡ o → Each Told (cond b (option_to_list (option_map (λ w. sys.Begin c w) o)) [])
      by true e None g = tt
      by true e (Some w) g = ((e, g), tt)
      by false e o g = tt

  node-tells : Each Told (node_events (is_some (node_step log (fate past))))
  node-tells = by (is_some (node_step log (fate past))) refl
    where
      by : (b : Bool) → is_some (node_step log (fate past)) ≡ b → Each Told (node_events b)
      by true e = (e, tt)
      by false e = tt

  clock-tells : first_event (but_clock shape past log) ≡ None → Each Told clock_now
  clock-tells none = by (least_of_all shape past log) refl
    where
      by : (o : Option ℕ) → least_of_all shape past log ≡ o → Each Told (clock_events (moment shape past) o)
      by None e = tt
      by (Some due) e = ((none, ap (λ (o : Option ℕ). first_event (clock_events (moment shape past) o)) e), tt)

  -- Each event that is available does.
  pub all-tell : Each Told (available shape past log)
  unfolding available
  all-tell = by (but_clock shape past log) refl all
    where
      by : (events : List Sys) → but_clock shape past log ≡ events → Each Told events → Each Told (or_clock events clock_now)
      by [] e h = clock-tells (ap first_event e)
      by (x ∷ xs) e h = h

      all : Each Told (but_clock shape past log)
      all =
          Each-append Told (flat_map (λ c. list_events (of c) c) (below shape.controllers)) _
          (each-flat Told (λ c. list_events (of c) c) 0 shape.controllers (λ c from lt. Each-append Told (list_event c Jobs (number Jobs (of c))) (list_event c Pods (number Pods (of c))) (list-tells c Jobs) (list-tells c Pods)))
          (Each-append Told (flat_map (λ c. delivery_events (of c) log c) (below shape.controllers)) _
          (each-flat Told (λ c. delivery_events (of c) log c) 0 shape.controllers
          (λ c from lt. Each-append Told (delivery_event log c Jobs (number Jobs (of c))) (delivery_event log c Pods (number Pods (of c))) (delivery-tells c Jobs) (delivery-tells c Pods)))
          (Each-append Told (flat_map (λ c. step_events (of c) shape.workers c) (below shape.controllers)) _
          (each-flat Told (λ c. step_events (of c) shape.workers c) 0 shape.controllers (λ c from lt. each-flat Told (step_event (of c) c) 0 shape.workers (λ w start less. step-tells c w)))
          (Each-append Told (flat_map (λ c. begin_events (of c) log shape.workers c) (below shape.controllers)) _ (each-flat Told (λ c. begin_events (of c) log shape.workers c) 0 shape.controllers (λ c from lt. begin-tells c)) node-tells)))

  -- ---- what else is among them

  abbrev lists : List Sys
  lists = flat_map (λ c. list_events (of c) c) (below shape.controllers)

  abbrev deliveries : List Sys
  deliveries = flat_map (λ c. delivery_events (of c) log c) (below shape.controllers)

  abbrev steps : List Sys
  steps = flat_map (λ c. step_events (of c) shape.workers c) (below shape.controllers)

  abbrev begins : List Sys
  begins = flat_map (λ c. begin_events (of c) log shape.workers c) (below shape.controllers)

  in-available : (event : Sys) → Contains (but_clock shape past log) event → Is (act_of_system event) (available shape past log)
  unfolding available
  in-available event h = is-of (act_of_system event) event (or_clock (but_clock shape past log) clock_now) (by (but_clock shape past log) h) refl
    where
      by : (events : List Sys) → Contains events event → Contains (or_clock events clock_now) event
      by [] h = absurd (let lt = h.1 in omega (arith, lt))
      by (x ∷ xs) h = h

  after-steps : (event : Sys) (events : List Sys) → Contains events event → Contains (lists ++ (deliveries ++ (steps ++ events))) event
  after-steps event events h = Contains-append_right lists _ event (Contains-append_right deliveries _ event (Contains-append_right steps events event h))

  -- The begin of the least free worker, where one can begin.
  pub begin-in : (c w : ℕ) → c < shape.controllers → may_begin (of c) log ≡ true → free_worker (of c) shape.workers ≡ Some w → Is (does.Begin c w) (available shape past log)
  begin-in c w lt may free =
      in-available (sys.Begin c w) (after-steps (sys.Begin c w) _ (Contains-append_left begins _ (sys.Begin c w) (in-flat (λ c. begin_events (of c) log shape.workers c) (sys.Begin c w) 0 shape.controllers c (omega arith) (omega (arith, lt)) here)))
    where
      by : (b : Bool) (o : Option ℕ) → b ≡ true → o ≡ Some w → Contains (cond b (option_to_list (option_map (λ w. sys.Begin c w) o)) []) (sys.Begin c w)
      by b o e g =
          subst (λ b. Contains (cond b (option_to_list (option_map (λ w. sys.Begin c w) o)) []) (sys.Begin c w)) (sym e)
          (subst (λ (o : Option ℕ). Contains (option_to_list (option_map (λ w. sys.Begin c w) o)) (sys.Begin c w)) (sym g) (sole (sys.Begin c w)))

      here : Contains (begin_events (of c) log shape.workers c) (sys.Begin c w)
      here = by (may_begin (of c) log) (free_worker (of c) shape.workers) may free

  -- The node, where it has a step.
  pub node-in : is_some (node_step log (fate past)) ≡ true → Is does.Node (available shape past log)
  node-in e = in-available sys.Node (after-steps sys.Node _ (Contains-append_right begins _ sys.Node (subst (λ b. Contains (node_events b) sys.Node) (sym e) (sole sys.Node))))

  -- The clock, where there is nothing else.
  pub clock-in : (due : ℕ) → first_event (but_clock shape past log) ≡ None → least_of_all shape past log ≡ Some due → Is (does.Clock (due - moment shape past)) (available shape past log)
  unfolding available
  clock-in due none e = by (but_clock shape past log) none
    where
      by : (events : List Sys) → first_event events ≡ None → Is (does.Clock (due - moment shape past)) (or_clock events clock_now)
      by [] s = subst (λ (o : Option ℕ). Is (does.Clock (due - moment shape past)) (clock_events (moment shape past) o))
          (sym e) (is-of (does.Clock (due - moment shape past)) (sys.Clock (due - moment shape past))
          (sys.Clock (due - moment shape past) ∷ []) (sole (sys.Clock (due - moment shape past))) refl)
      by (x ∷ xs) s = absurd (true≢false (ap is_some s))
