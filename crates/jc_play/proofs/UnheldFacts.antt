-- What is available where some registers are held: all but the steps of these.
use Rattle.std.proofs.Common.{◌≡◌, ℕ, nat_lt, ◌<◌, Bool, true, false, cond, ◌||◌, List, [], ◌∷◌, ◌++◌, length, filter, Option, Some, None, is_some, refl, sym, ap, ◌∙◌, subst}
use Rattle.std.specs.Prelude.{IfSome}
use Rattle.std.proofs.lemmas.List.Elements.{filter-append}
use Rattle.std.proofs.lemmas.Option.{none-some}
use Rattle.std.specs.List.{AllByRecursion as Each, flat_map}
use Rattle.std.specs.Option.{option_map, option_to_list}
use Rattle.jc_types.specs.declared.numbers.Version.{Version}
use Rattle.jc_types.specs.declared.objects.Entry.{Entry}
use Rattle.jc_types.specs.declared.objects.Kind.{Kind}
use Rattle.jc_types.specs.declared.objects.Kind.TheVariants.{Jobs, Pods}
use Rattle.jc_types.specs.declared.runs.Event.{Event}
use Rattle.jc_types.specs.declared.runs.Event.TheVariants.{System}
use Rattle.jc_types.specs.declared.runs.Shape.{Shape}
use Rattle.jc_types.specs.declared.runs.Sys.{Sys}
use Rattle.jc_types.specs.declared.runs.Sys.TheVariants as sys
use Rattle.jc_types.proofs.ListFacts.{Each-append, Each-both, Each-filter, Each-weaker, filter_all}
use Rattle.jc_log.specs.Deeds.{Deed, act_of_system}
use Rattle.jc_history.specs.Available.{available, begin_events, below, but_clock, clock_events, delivery_event, delivery_events, free_worker, least_of_all, list_event, list_events, node_events, or_clock, step_events}
use Rattle.jc_history.specs.Diaries.{moment, notes}
use Rattle.jc_history.specs.Fresh.{may_begin}
use Rattle.jc_history.specs.Nodes.{fate, node_step}
use Rattle.jc_history.specs.Notes.{Note}
use Rattle.jc_history.specs.Numbers.{number}
use Rattle.jc_history.specs.Play.{first_event}
use Rattle.jc_order.proofs.AvailFacts.{Is, IsOf, all-within, any-here, any-later, each-flat}
use Rattle.jc_runs.specs.Seen.{Seen, deeds_seen, log_seen}
use Rattle.jc_play.specs.Actors.{CanCome}
use Rattle.jc_play.specs.Slots.{is_unheld, unheld_seen}
use Rattle.jc_play.specs.declared.slots.Slot.{Slot}
use Rattle.jc_play.proofs.ActorFacts.{comes}
use Rattle.jc_play.proofs.FirstFacts.{first-found, first-none}

-- ---- what is left can come

-- Each event is among them.
each-among : (events : List Sys) → Each (λ event. Is (act_of_system event) events) events
each-among [] = tt
each-among (x ∷ xs) = (
  any-here (λ other. act_of_system other ≡ act_of_system x) x xs refl,
  Each-weaker (λ event. Is (act_of_system event) xs) (λ event. Is (act_of_system event) (x ∷ xs)) (λ event h. any-later (λ other. act_of_system other ≡ act_of_system event) x xs h) xs (each-among xs),
)

module _ (seen : Seen) where
  abbrev events_of : List Sys
  events_of = available seen.shape (deeds_seen seen) (log_seen seen)

  abbrev Comes : Sys → Type 0
  Comes event = CanCome seen (System event)

  all-come : Each Comes events_of
  all-come =
      Each-weaker (λ event. IsOf seen.shape event × Is (act_of_system event) events_of) Comes (λ event h. comes seen event h.0 h.1) events_of
      (Each-both (IsOf seen.shape) (λ event. Is (act_of_system event) events_of) events_of (all-within seen.shape (deeds_seen seen) (log_seen seen)) (each-among events_of))

  first-comes : (events : List Sys) → Each Comes events → IfSome (first_event events) (λ event. CanCome seen event)
  first-comes [] h = tt
  first-comes (x ∷ xs) h = h.0

  -- The first that is left can come.
  pub unheld-comes : (slots : List Slot) (found : Option Event) → found ≡ first_event (unheld_seen slots seen) → IfSome found (λ event. CanCome seen event)
  unheld-comes slots found e = subst (λ o. IfSome o (λ event. CanCome seen event)) (sym e) (first-comes (unheld_seen slots seen) (Each-filter Comes (is_unheld slots) events_of all-come))

-- ---- where nothing is left

-- Where all lists but that in the middle, and another in its place, have none, the first of all is that of the middle.
first-middle : (ls ks js is hs middle : List Sys) → first_event (ls ++ (ks ++ (js ++ (is ++ hs)))) ≡ None → first_event middle ≡ first_event (ls ++ (ks ++ (middle ++ (is ++ hs))))
first-middle (x ∷ ls) ks js is hs middle e = absurd (none-some _ (sym e))
first-middle [] (x ∷ ks) js is hs middle e = absurd (none-some _ (sym e))
first-middle [] [] (x ∷ js) is hs middle e = absurd (none-some _ (sym e))
first-middle [] [] [] (x ∷ is) hs middle e = absurd (none-some _ (sym e))
first-middle [] [] [] [] (x ∷ hs) middle e = absurd (none-some _ (sym e))
first-middle [] [] [] [] [] [] e = refl
first-middle [] [] [] [] [] (x ∷ middle) e = refl

-- ---- what is left of each kind

-- A filter of lists that are joined.
filter-flat : {X A : Type 0} (test : A → Bool) (f : X → List A) (xs : List X) → filter test (flat_map f xs) ≡ flat_map (λ x. filter test (f x)) xs
filter-flat test f [] = refl
filter-flat test f (x ∷ xs) = filter-append test (f x) (flat_map f xs) ∙ ap (λ rest. filter test (f x) ++ rest) (filter-flat test f xs)

module _ (slots : List Slot) where
  abbrev Passes : Sys → Type 0
  Passes event = is_unheld slots event ≡ true

  abbrev left : List Sys → List Sys
  left events = filter (is_unheld slots) events

  module _ (f : ℕ → List Sys) (n : ℕ) where
    -- None is left of all.
    pub left-none : ((k : ℕ) → k < n → first_event (left (f k)) ≡ None) → first_event (left (flat_map f (below n))) ≡ None
    left-none h = ap first_event (filter-flat (is_unheld slots) f (below n)) ∙ first-none (λ k. left (f k)) n h

    -- The first of those of which one is left.
    pub left-found : (i : ℕ) (event : Event) → i < n → ((k : ℕ) → k < i → first_event (left (f k)) ≡ None) → first_event (left (f i)) ≡ Some event → first_event (left (flat_map f (below n))) ≡ Some event
    left-found i event lt h e = ap first_event (filter-flat (is_unheld slots) f (below n)) ∙ first-found (λ k. left (f k)) n i event lt h e

  -- ---- what is left of all: lists, deliveries, begins, the node and the clock stay

  list-passes : (c : ℕ) (kind : Kind) (o : Option Version) → Each Passes (list_event c kind o)
  list-passes c kind None = (refl, tt)
  list-passes c kind (Some version) = tt

  module _ (shape : Shape) (past : List Deed) (log : List Entry) where
    abbrev of : ℕ → List Note
    of c = notes shape c past log

    abbrev lists : List Sys
    lists = flat_map (λ c. list_events (of c) c) (below shape.controllers)

    abbrev deliveries : List Sys
    deliveries = flat_map (λ c. delivery_events (of c) log c) (below shape.controllers)

    abbrev steps : List Sys
    steps = flat_map (λ c. step_events (of c) shape.workers c) (below shape.controllers)

    abbrev begins : List Sys
    begins = flat_map (λ c. begin_events (of c) log shape.workers c) (below shape.controllers)

    abbrev node : List Sys
    node = node_events (is_some (node_step log (fate past)))

    delivery-passes : (c : ℕ) (kind : Kind) (o : Option Version) → Each Passes (delivery_event log c kind o)
    delivery-passes c kind None = tt
    delivery-passes c kind (Some version) = by (nat_lt version.0 (length log))
      where
        by : (b : Bool) → Each Passes (cond b (sys.Deliver c kind ∷ []) [])
        by true = (refl, tt)
        by false = tt

    begin-passes : (c : ℕ) (b : Bool) (o : Option ℕ) → Each Passes (cond b (option_to_list (option_map (λ w. sys.Begin c w) o)) [])
    begin-passes c true None = tt
    begin-passes c true (Some w) = (refl, tt)
    begin-passes c false o = tt

    node-passes : (b : Bool) → Each Passes (node_events b)
    node-passes true = (refl, tt)
    node-passes false = tt

    clock-passes : (o : Option ℕ) → Each Passes (clock_events (moment shape past) o)
    clock-passes None = tt
    clock-passes (Some due) = (refl, tt)

    lists-left : left lists ≡ lists
    lists-left = filter_all (is_unheld slots) lists (each-flat Passes (λ c. list_events (of c) c) 0 shape.controllers (λ c from lt.
        Each-append Passes (list_event c Jobs (number Jobs (of c))) (list_event c Pods (number Pods (of c))) (list-passes c Jobs (number Jobs (of c))) (list-passes c Pods (number Pods (of c)))))

    deliveries-left : left deliveries ≡ deliveries
    deliveries-left = filter_all (is_unheld slots) deliveries (each-flat Passes (λ c. delivery_events (of c) log c) 0 shape.controllers (λ c from lt.
        Each-append Passes (delivery_event log c Jobs (number Jobs (of c))) (delivery_event log c Pods (number Pods (of c))) (delivery-passes c Jobs (number Jobs (of c))) (delivery-passes c Pods (number Pods (of c)))))

    begins-left : left begins ≡ begins
    begins-left = filter_all (is_unheld slots) begins (each-flat Passes (λ c. begin_events (of c) log shape.workers c) 0 shape.controllers (λ c from lt. begin-passes c (may_begin (of c) log) (free_worker (of c) shape.workers)))

    node-left : left node ≡ node
    node-left = filter_all (is_unheld slots) node (node-passes (is_some (node_step log (fate past))))

    -- All that is left but for the clock.
    pub but-clock-left : left (but_clock shape past log) ≡ lists ++ (deliveries ++ (left steps ++ (begins ++ node)))
    but-clock-left =
        filter-append (is_unheld slots) lists (deliveries ++ (steps ++ (begins ++ node)))
        ∙ ap (λ ls. ls ++ left (deliveries ++ (steps ++ (begins ++ node)))) lists-left
        ∙ ap (λ rest. lists ++ rest) (
        filter-append (is_unheld slots) deliveries (steps ++ (begins ++ node))
        ∙ ap (λ ds. ds ++ left (steps ++ (begins ++ node))) deliveries-left
        ∙ ap (λ rest. deliveries ++ rest) (
        filter-append (is_unheld slots) steps (begins ++ node)
        ∙ ap (λ rest. left steps ++ rest) (
        filter-append (is_unheld slots) begins node
        ∙ ap (λ bs. bs ++ left node) begins-left
        ∙ ap (λ rest. begins ++ rest) node-left)))

    -- Where nothing of it is left, the first of it is the first step.
    pub first-held : first_event (left (but_clock shape past log)) ≡ None → first_event steps ≡ first_event (but_clock shape past log)
    first-held e = first-middle lists deliveries (left steps) begins node steps (sym (ap first_event but-clock-left) ∙ e)

  -- Where there is something, what is left of it; else the clock.
  left-or-clock : (events clock : List Sys) (found other : Option Event) → Each Passes clock → found ≡ first_event (left events) → other ≡ first_event events
      → first_event (left (or_clock events clock)) ≡ cond (is_some found || is_some other) found (first_event clock)
  left-or-clock [] clock found other all e g =
      ap first_event (filter_all (is_unheld slots) clock all) ∙ sym (ap (λ o. cond (is_some o || is_some other) o (first_event clock)) e ∙ ap (λ o. cond (is_some o) None (first_event clock)) g)
  left-or-clock (x ∷ xs) clock found other all e g = sym e ∙ by found ∙ ap (λ o. cond (is_some found || is_some o) found (first_event clock)) (sym g)
    where
      by : (found : Option Event) → found ≡ cond (is_some found || true) found (first_event clock)
      by None = refl
      by (Some event) = refl

  module _ (seen : Seen) (found other : Option Event) (e : found ≡ first_event (left (but_clock seen.shape (deeds_seen seen) (log_seen seen)))) (g : other ≡ first_event (but_clock seen.shape (deeds_seen seen) (log_seen seen))) where
    abbrev clock : Option Event
    clock = first_event (clock_events (moment seen.shape (deeds_seen seen)) (least_of_all seen.shape (deeds_seen seen) (log_seen seen)))

    all-left : first_event (unheld_seen slots seen) ≡ cond (is_some found || is_some other) found clock
    unfolding available
    all-left =
        left-or-clock (but_clock seen.shape (deeds_seen seen) (log_seen seen)) (clock_events (moment seen.shape (deeds_seen seen)) (least_of_all seen.shape (deeds_seen seen) (log_seen seen))) found other
        (clock-passes seen.shape (deeds_seen seen) (log_seen seen) (least_of_all seen.shape (deeds_seen seen) (log_seen seen))) e g

    -- Where there is something but for the clock, the first of all that is left is what is left of that.
    pub left-there : (is_some found || is_some other) ≡ true → found ≡ first_event (unheld_seen slots seen)
    left-there t = sym (all-left ∙ ap (λ b. cond b found clock) t)

    -- Else it is the clock.
    pub left-clock : (is_some found || is_some other) ≡ false → (next : Option Event) → next ≡ clock → next ≡ first_event (unheld_seen slots seen)
    left-clock t next n = n ∙ sym (all-left ∙ ap (λ b. cond b found clock) t)
