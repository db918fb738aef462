-- What is known where an event is the first that is available.
use Rattle.std.proofs.Common.{◌≡◌, ℕ, zero, suc, ◌+◌, ◌-◌, ◌<◌, nat_lt, Bool, true, false, cond, List, [], ◌∷◌, ◌++◌, length, find, Option, Some, None, is_none, is_some, refl, sym, ap, ◌∙◌, subst, arith, ltb-true, ltb-false, true≢false}
use Rattle.std.proofs.Common.{◌⊎◌, inl, inr}
use Rattle.std.specs.List.{flat_map, range_with_len}
use Rattle.std.specs.Option.{option_map, option_to_list}
use Rattle.jc_types.specs.declared.numbers.Version.{Version}
use Rattle.jc_types.specs.declared.objects.Entry.{Entry}
use Rattle.jc_types.specs.declared.objects.KeyNames.{KeyNames as Key}
use Rattle.jc_types.specs.declared.objects.Kind.{Kind}
use Rattle.jc_types.specs.declared.objects.Kind.TheVariants.{Jobs, Pods}
use Rattle.jc_types.specs.declared.objects.Pod.{Pod}
use Rattle.jc_types.specs.declared.runs.Event.{Event}
use Rattle.jc_types.specs.declared.runs.Event.TheVariants as event
use Rattle.jc_types.specs.declared.runs.Shape.{Shape}
use Rattle.jc_types.specs.declared.runs.Sys.{Sys}
use Rattle.jc_types.specs.declared.runs.Sys.TheVariants as sys
use Rattle.jc_states.specs.declared.bases.Basis.{Basis}
use Rattle.jc_control.specs.ControllerCalls.{is_begun}
use Rattle.jc_control.specs.Schedules.{log_end}
use Rattle.jc_log.specs.Deeds.{Deed}
use Rattle.jc_history.specs.Available.{available, begin_events, below, but_clock, clock_events, delivery_events, delivery_event, free_worker, least_of_all, list_event, list_events, node_events, or_clock, step_event, step_events}
use Rattle.jc_history.specs.Diaries.{moment, notes}
use Rattle.jc_history.specs.Fresh.{begin_at, begin_first, may_begin}
use Rattle.jc_history.specs.Legal.{IsLegal}
use Rattle.jc_history.specs.Lines.{line}
use Rattle.jc_history.specs.Nodes.{NodeAct, fate, node_step}
use Rattle.jc_history.specs.Notes.{Note}
use Rattle.jc_history.specs.Numbers.{number}
use Rattle.jc_history.specs.Play.{first_event}
use Rattle.jc_history.specs.Registers.{register}
use Rattle.jc_history.specs.Replies.{log_given}
use Rattle.jc_order.specs.Ends.{IsAtMost, IsUpToDate}
use Rattle.jc_order.proofs.EmptyFacts.{flat-none, nil-first, nil-rest, no-cons}
use Rattle.jc_order.proofs.EndFacts.{end-begins, numbers-within}
use Rattle.jc_settle.specs.Comes.{NoSyncIsUnderWay, AreUpToDate, Comes, HaveNoKeys, SeesAll, Lists, Delivers, Steps, Begins, Acts, Ticks}
use Rattle.jc_settle.proofs.FirstFacts.{first-from, first-of}

-- ---- one event

abbrev told : Sys → Option Event → Sys
told x (Some (event.System s)) = s
told x other = x

is-first : (x y : Sys) → Some (event.System x) ≡ Some (event.System y) → y ≡ x
is-first x y e = sym (ap (told x) e)

none-is : {A : Type 0} (x : A) → None ≡ Some x → ⊥
none-is x e = true≢false (sym (ap is_some e))

-- ---- lists of events that are empty

-- A cache for which nothing is to be listed or told has seen the whole log.
seen-all : (c : ℕ) (kind : Kind) (log : List Entry) (o : Option Version) → (list_event c kind o ≡ []) × (delivery_event log c kind o ≡ []) → IsAtMost (length log) o → o ≡ Some (log_end log)
seen-all c kind log None e w = absurd (no-cons _ _ e.0)
seen-all c kind log (Some version) e w = by (nat_lt version.0 (length log)) refl e.1
  where
    by : (b : Bool) → nat_lt version.0 (length log) ≡ b → cond b (sys.Deliver c kind ∷ []) [] ≡ [] → Some version ≡ Some (log_end log)
    by true s d = absurd (no-cons _ _ d)
    by false s d = let le = ltb-false version.0 (length log) s in let same : version.0 ≡ length log = omega (arith, le, w) in λ i. Some (record { 0 = same i })

-- One event, where there is what it is of.
none-there : {A : Type 0} (x : Sys) (o : Option A) → cond (is_some o) (x ∷ []) [] ≡ [] → o ≡ None
none-there x None e = refl
none-there x (Some y) e = absurd (no-cons _ _ e)

-- A sync begins, where one may and the first worker is free.
some-begins : (notes : List Note) (log : List Entry) (workers c : ℕ) → 0 < workers → register 0 notes ≡ None → may_begin notes log ≡ true → begin_events notes log workers c ≡ [] → ⊥
some-begins notes log zero c some free may e = omega (arith, some)
some-begins notes log (suc n) c some free may e = no-cons _ _ (sym first ∙ e)
  where
    first : begin_events notes log (suc n) c ≡ sys.Begin c 0 ∷ []
    first = (λ i. cond (may i) (option_to_list (option_map (λ w. sys.Begin c w) (cond (is_none (free i)) (Some 0) (find (λ w. is_none (register w notes)) (range_with_len (0 + 1) n))))) [])

or-first : (xs clock : List Sys) (e : Event) → first_event (or_clock xs clock) ≡ Some e → (first_event xs ≡ Some e) ⊎ ((xs ≡ []) × (first_event clock ≡ Some e))
or-first [] clock e h = inr (refl, h)
or-first (x ∷ xs) clock e h = inl h

-- ---- after one history

module _ (shape : Shape) (past : List Deed) (legal : IsLegal shape past) (some : 0 < shape.workers) where
  abbrev log : List Entry
  log = log_given shape past

  abbrev of : ℕ → List Note
  of c = notes shape c past log

  abbrev lists : List Sys
  lists = flat_map (λ c. list_events (of c) c) (below shape.controllers)

  abbrev deliveries : List Sys
  deliveries = flat_map (λ c. delivery_events (of c) log c) (below shape.controllers)

  abbrev steps : List Sys
  steps = flat_map (λ c. step_events (of c) shape.workers c) (below shape.controllers)

  abbrev begins : List Sys
  begins = flat_map (λ c. begin_events (of c) log shape.workers c) (below shape.controllers)

  -- Where nothing is to be listed or told each cache has seen the whole log.
  are-up : lists ≡ [] → deliveries ≡ [] → AreUpToDate shape past log
  are-up no-lists no-deliveries c lt = up
    where
      of-lists : list_events (of c) c ≡ []
      of-lists = flat-none (λ c. list_events (of c) c) 0 shape.controllers c no-lists (omega arith) (omega (arith, lt))

      of-deliveries : delivery_events (of c) log c ≡ []
      of-deliveries = flat-none (λ c. delivery_events (of c) log c) 0 shape.controllers c no-deliveries (omega arith) (omega (arith, lt))

      up : IsUpToDate (of c) log
      up Jobs = seen-all c Jobs log _ (nil-first _ _ of-lists, nil-first _ _ of-deliveries) (numbers-within shape c past legal Jobs)
      up Pods = seen-all c Pods log _ (nil-rest (list_event c Jobs (number Jobs (of c))) _ of-lists, nil-rest (delivery_event log c Jobs (number Jobs (of c))) _ of-deliveries) (numbers-within shape c past legal Pods)

  -- Where nothing steps no sync is under way.
  are-free : steps ≡ [] → NoSyncIsUnderWay shape past log
  are-free no-steps c lt w less =
      none-there (sys.Step c w) (register w (of c))
      (flat-none (step_event (of c) c) 0 shape.workers w (flat-none (λ c. step_events (of c) shape.workers c) 0 shape.controllers c no-steps (omega arith) (omega (arith, lt))) (omega arith) (omega (arith, less)))

  -- Where nothing begins either no key is in line.
  have-none : AreUpToDate shape past log → NoSyncIsUnderWay shape past log → begins ≡ [] → HaveNoKeys shape past log
  have-none up free no-begins c lt = by (line (of c)) refl
    where
      of-begins : begin_events (of c) log shape.workers c ≡ []
      of-begins = flat-none (λ c. begin_events (of c) log shape.workers c) 0 shape.controllers c no-begins (omega arith) (omega (arith, lt))

      by : (keys : List Key) → line (of c) ≡ keys → keys ≡ []
      by [] e = refl
      by (k ∷ rest) e = absurd (some-begins (of c) log shape.workers c some (free c lt 0 some) (ap is_begun (end-begins shape c past legal (up c lt) 0 k rest e)) of-begins)

  -- ---- by part

  module _ (y : Sys) where
    abbrev Is : List Sys → Type 0
    Is xs = first_event xs ≡ Some (event.System y)

    from-lists : Is lists → Comes shape past log y
    from-lists e = let f = first-from (λ c. list_events (of c) c) 0 shape.controllers (event.System y) e in let high = f.high in of-one f.place (omega (arith, high)) f.is
      where
        one : (c : ℕ) (kind : Kind) → c < shape.controllers → (o : Option Version) → number kind (of c) ≡ o → Is (list_event c kind o) → Comes shape past log y
        one c kind lt None n h = Lists c kind lt (is-first (sys.List c kind) y h) n
        one c kind lt (Some version) n h = absurd (none-is _ h)

        of-one : (c : ℕ) → c < shape.controllers → Is (list_events (of c) c) → Comes shape past log y
        of-one c lt h = by (first-of (list_event c Jobs (number Jobs (of c))) (list_event c Pods (number Pods (of c))) (event.System y) h)
          where
            by : Is (list_event c Jobs (number Jobs (of c))) ⊎ ((list_event c Jobs (number Jobs (of c)) ≡ []) × Is (list_event c Pods (number Pods (of c)))) → Comes shape past log y
            by (inl g) = one c Jobs lt (number Jobs (of c)) refl g
            by (inr g) = one c Pods lt (number Pods (of c)) refl g.1

    from-deliveries : Is deliveries → Comes shape past log y
    from-deliveries e = let f = first-from (λ c. delivery_events (of c) log c) 0 shape.controllers (event.System y) e in let high = f.high in of-one f.place (omega (arith, high)) f.is
      where
        one : (c : ℕ) (kind : Kind) → c < shape.controllers → (o : Option Version) → number kind (of c) ≡ o → Is (delivery_event log c kind o) → Comes shape past log y
        one c kind lt None n h = absurd (none-is _ h)
        one c kind lt (Some version) n h = by (nat_lt version.0 (length log)) refl h
          where
            by : (b : Bool) → nat_lt version.0 (length log) ≡ b → Is (cond b (sys.Deliver c kind ∷ []) []) → Comes shape past log y
            by true s h = Delivers c kind version lt (is-first (sys.Deliver c kind) y h) n (ltb-true version.0 (length log) s)
            by false s h = absurd (none-is _ h)

        of-one : (c : ℕ) → c < shape.controllers → Is (delivery_events (of c) log c) → Comes shape past log y
        of-one c lt h = by (first-of (delivery_event log c Jobs (number Jobs (of c))) (delivery_event log c Pods (number Pods (of c))) (event.System y) h)
          where
            by : Is (delivery_event log c Jobs (number Jobs (of c))) ⊎ ((delivery_event log c Jobs (number Jobs (of c)) ≡ []) × Is (delivery_event log c Pods (number Pods (of c)))) → Comes shape past log y
            by (inl g) = one c Jobs lt (number Jobs (of c)) refl g
            by (inr g) = one c Pods lt (number Pods (of c)) refl g.1

    from-steps : AreUpToDate shape past log → Is steps → Comes shape past log y
    from-steps up e =
        let f = first-from (λ c. step_events (of c) shape.workers c) 0 shape.controllers (event.System y) e in
        let g = first-from (step_event (of f.place) f.place) 0 shape.workers (event.System y) f.is in
        let high = f.high in let less = g.high in
        one f.place g.place (omega (arith, high)) (omega (arith, less)) (register g.place (of f.place)) refl g.is
      where
        one : (c w : ℕ) → c < shape.controllers → w < shape.workers → (o : Option Basis) → register w (of c) ≡ o → Is (cond (is_some o) (sys.Step c w ∷ []) []) → Comes shape past log y
        one c w lt less None r h = absurd (none-is _ h)
        one c w lt less (Some basis) r h = Steps up c w basis lt less (is-first (sys.Step c w) y h) r

    from-begins : AreUpToDate shape past log → NoSyncIsUnderWay shape past log → Is begins → Comes shape past log y
    from-begins up free e = let f = first-from (λ c. begin_events (of c) log shape.workers c) 0 shape.controllers (event.System y) e in let high = f.high in of-one f.place (omega (arith, high)) f.is
      where
        of-one : (c : ℕ) → c < shape.controllers → Is (begin_events (of c) log shape.workers c) → Comes shape past log y
        of-one c lt h = by (may_begin (of c) log) refl (free_worker (of c) shape.workers) h
          where
            never : may_begin (of c) log ≡ true → line (of c) ≡ [] → ⊥
            never begun none =
                true≢false
                (sym begun
                ∙ (λ i. is_begun (begin_at (of c) log 0 (up c lt Jobs i) (up c lt Pods i)))
                ∙ ap (λ keys. is_begun (begin_first (of c) log 0 (log_end log) (log_end log) keys)) none)

            keyed : (w : ℕ) → y ≡ sys.Begin c w → may_begin (of c) log ≡ true → (keys : List Key) → line (of c) ≡ keys → Comes shape past log y
            keyed w is begun [] none = absurd (never begun none)
            keyed w is begun (k ∷ rest) first = Begins up free c w k rest lt is first

            by : (b : Bool) → may_begin (of c) log ≡ b → (o : Option ℕ) → Is (cond b (option_to_list (option_map (λ w. sys.Begin c w) o)) []) → Comes shape past log y
            by false s o h = absurd (none-is _ h)
            by true s None h = absurd (none-is _ h)
            by true s (Some w) h = keyed w (is-first (sys.Begin c w) y h) s (line (of c)) refl

    from-node : AreUpToDate shape past log → NoSyncIsUnderWay shape past log → HaveNoKeys shape past log → Is (node_events (is_some (node_step log (fate past)))) → Comes shape past log y
    from-node up free none e = by (node_step log (fate past)) refl e
      where
        by : (o : Option (Pod × NodeAct)) → node_step log (fate past) ≡ o → Is (node_events (is_some o)) → Comes shape past log y
        by None s h = absurd (none-is _ h)
        by (Some step) s h = Acts up free none step (is-first sys.Node y h) s

    no-node : node_events (is_some (node_step log (fate past))) ≡ [] → node_step log (fate past) ≡ None
    no-node e = by (node_step log (fate past)) e
      where
        by : (o : Option (Pod × NodeAct)) → node_events (is_some o) ≡ [] → o ≡ None
        by None e = refl
        by (Some step) e = absurd (no-cons _ _ e)

    from-clock : but_clock shape past log ≡ [] → Is (clock_events (moment shape past) (least_of_all shape past log)) → Comes shape past log y
    from-clock none e = by (least_of_all shape past log) refl e
      where
        after-lists : deliveries ++ (steps ++ (begins ++ node_events (is_some (node_step log (fate past))))) ≡ []
        after-lists = nil-rest lists _ none

        after-deliveries : steps ++ (begins ++ node_events (is_some (node_step log (fate past)))) ≡ []
        after-deliveries = nil-rest deliveries _ after-lists

        after-steps : begins ++ node_events (is_some (node_step log (fate past))) ≡ []
        after-steps = nil-rest steps _ after-deliveries

        up : AreUpToDate shape past log
        up = are-up (nil-first lists _ none) (nil-first deliveries _ after-lists)

        free : NoSyncIsUnderWay shape past log
        free = are-free (nil-first steps _ after-deliveries)

        by : (o : Option ℕ) → least_of_all shape past log ≡ o → Is (clock_events (moment shape past) o) → Comes shape past log y
        by None s h = absurd (none-is _ h)
        by (Some due) s h =
            Ticks up free (have-none up free (nil-first begins _ after-steps)) (no-node (nil-rest begins _ after-steps)) due
            (is-first (sys.Clock (due - moment shape past)) y h) s

    from-but : Is (but_clock shape past log) → Comes shape past log y
    from-but e = by-lists (first-of lists _ (event.System y) e)
      where
        node : List Sys
        node = node_events (is_some (node_step log (fate past)))

        by-begins : AreUpToDate shape past log → NoSyncIsUnderWay shape past log → Is begins ⊎ ((begins ≡ []) × Is node) → Comes shape past log y
        by-begins up free (inl h) = from-begins up free h
        by-begins up free (inr h) = from-node up free (have-none up free h.0) h.1

        by-steps : AreUpToDate shape past log → Is steps ⊎ ((steps ≡ []) × Is (begins ++ node)) → Comes shape past log y
        by-steps up (inl h) = from-steps up h
        by-steps up (inr h) = by-begins up (are-free h.0) (first-of begins node (event.System y) h.1)

        by-deliveries : lists ≡ [] → Is deliveries ⊎ ((deliveries ≡ []) × Is (steps ++ (begins ++ node))) → Comes shape past log y
        by-deliveries none (inl h) = from-deliveries h
        by-deliveries none (inr h) = by-steps (are-up none h.0) (first-of steps (begins ++ node) (event.System y) h.1)

        by-lists : Is lists ⊎ ((lists ≡ []) × Is (deliveries ++ (steps ++ (begins ++ node)))) → Comes shape past log y
        by-lists (inl h) = from-lists h
        by-lists (inr h) = by-deliveries h.0 (first-of deliveries (steps ++ (begins ++ node)) (event.System y) h.1)

    comes : Is (available shape past log) → Comes shape past log y
    unfolding available
    comes e = by (or-first (but_clock shape past log) (clock_events (moment shape past) (least_of_all shape past log)) (event.System y) e)
      where
        by : Is (but_clock shape past log) ⊎ ((but_clock shape past log ≡ []) × Is (clock_events (moment shape past) (least_of_all shape past log))) → Comes shape past log y
        by (inl h) = from-but h
        by (inr h) = from-clock h.0 h.1

pub first-comes : (shape : Shape) (past : List Deed) (y : Sys) → IsLegal shape past → 0 < shape.workers → first_event (available shape past (log_given shape past)) ≡ Some (event.System y) → Comes shape past (log_given shape past) y
first-comes shape past y legal some e = comes shape past legal some y e

-- ---- a begin

abbrev is_begin : Sys → Bool
is_begin (sys.Begin c w) = true
is_begin other = false

abbrev begin_of : ℕ → Sys → ℕ
begin_of d (sys.Begin c w) = c
begin_of d other = d

pub begin-sees : (shape : Shape) (past : List Deed) (c w : ℕ) → IsLegal shape past → 0 < shape.workers → first_event (available shape past (log_given shape past)) ≡ Some (event.System (sys.Begin c w)) → SeesAll shape past c
begin-sees shape past c w legal some e = by (first-comes shape past (sys.Begin c w) legal some e)
  where
    by : Comes shape past (log_given shape past) (sys.Begin c w) → SeesAll shape past c
    by (Lists d kind lt is n) = absurd (true≢false (ap is_begin is))
    by (Delivers d kind version lt is n less) = absurd (true≢false (ap is_begin is))
    by (Steps up d v basis lt less is r) = absurd (true≢false (ap is_begin is))
    by (Acts up free none step is s) = absurd (true≢false (ap is_begin is))
    by (Ticks up free none idle due is s) = absurd (true≢false (ap is_begin is))
    by (Begins up free d v k rest lt is first) =
        let same : d ≡ c = sym (ap (begin_of c) is) in
        record {
          alone = free;
          key = k;
          begins =
              end-begins shape c past legal (subst (λ x. IsUpToDate (notes shape x past (log_given shape past)) (log_given shape past)) same (up d lt)) (moment shape past) k rest
              (ap (λ x. line (notes shape x past (log_given shape past))) (sym same) ∙ first);
        }
