-- What it means that nothing is available.
use Rattle.std.proofs.Common.{◌≡◌, ℕ, zero, suc, ◌+◌, ◌<◌, nat_lt, Bool, true, false, cond, List, [], ◌∷◌, ◌++◌, length, find, Option, Some, None, is_none, is_some, refl, sym, ap, ◌∙◌, arith, ltb-true, ltb-false, true≢false}
use Rattle.std.specs.List.{cons_option, filter_map, flat_map, range_with_len}
use Rattle.std.specs.Option.{option_map, option_to_list}
use Rattle.jc_queue.specs.Delayed.{first_of}
use Rattle.jc_types.specs.declared.numbers.Version.{Version}
use Rattle.jc_types.specs.declared.objects.Entry.{Entry}
use Rattle.jc_types.specs.declared.objects.Pod.{Pod}
use Rattle.jc_types.specs.declared.objects.Kind.{Kind}
use Rattle.jc_types.specs.declared.objects.Kind.TheVariants.{Jobs, Pods}
use Rattle.jc_types.specs.declared.runs.Shape.{Shape}
use Rattle.jc_types.specs.declared.runs.Sys.{Sys}
use Rattle.jc_types.specs.declared.runs.Sys.TheVariants as sys
use Rattle.jc_states.specs.declared.bases.Basis.{Basis}
use Rattle.jc_log.specs.Deeds.{Deed}
use Rattle.jc_types.specs.declared.objects.KeyNames.{KeyNames as Key}
use Rattle.jc_types.specs.Keys.{same_key}
use Rattle.jc_log.specs.Tables.{at}
use Rattle.jc_history.specs.Available.{available, begin_events, below, but_clock, clock_events, delivery_events, delivery_event, earliest, free_worker, is_empty, is_quiescent, least_of_all, list_event, list_events, node_events, or_clock}
use Rattle.jc_history.specs.Available.{step_event, step_events}
use Rattle.jc_history.specs.Delays.{delay, delays, ended_key, least_delay}
use Rattle.jc_history.specs.Diaries.{moment, notes}
use Rattle.jc_history.specs.Fresh.{begin_at, begin_first, may_begin}
use Rattle.jc_control.specs.ControllerCalls.{is_begun}
use Rattle.jc_history.specs.KeyLists.{once}
use Rattle.jc_history.specs.Legal.{IsLegal}
use Rattle.jc_history.specs.Lines.{line}
use Rattle.jc_history.specs.Nodes.{NodeAct, fate, node_step}
use Rattle.jc_history.specs.Notes.{Note}
use Rattle.jc_history.specs.Numbers.{number}
use Rattle.jc_history.specs.Registers.{register}
use Rattle.jc_control.specs.Schedules.{log_end}
use Rattle.jc_history.specs.Replies.{log_given}
use Rattle.jc_history.proofs.DelayFacts.{at-delays}
use Rattle.jc_order.specs.Ends.{IsAtMost, IsUpToDate}
use Rattle.jc_order.specs.Rest.{IsSystemAtRest, HasNothingToDo}
use Rattle.jc_order.proofs.EndFacts.{end-begins, numbers-within}
use Rattle.jc_order.proofs.EmptyFacts.{no-cons, nil-first, nil-rest, empty-is, flat-none, flat-all, some-none, some-all}

-- ---- of one controller

number-is : (c : ℕ) (kind : Kind) (log : List Entry) (o : Option Version) → list_event c kind o ≡ [] → delivery_event log c kind o ≡ [] → IsAtMost (length log) o → o ≡ Some (log_end log)
number-is c kind log None e d w = absurd (no-cons _ _ e)
number-is c kind log (Some version) e d w = by (nat_lt version.0 (length log)) refl d
  where
    by : (b : Bool) → nat_lt version.0 (length log) ≡ b → cond b (sys.Deliver c kind ∷ []) [] ≡ [] → Some version ≡ Some (log_end log)
    by true s d = absurd (no-cons _ _ d)
    by false s d = let le = ltb-false version.0 (length log) s in let same : version.0 ≡ length log = omega (arith, le, w) in λ i. Some (record { 0 = same i })

step-none : (c w : ℕ) (o : Option Basis) → cond (is_some o) (sys.Step c w ∷ []) [] ≡ [] → o ≡ None
step-none c w None e = refl
step-none c w (Some basis) e = absurd (no-cons _ _ e)

-- A worker is free, where all are.
free-is : (notes : List Note) (workers : ℕ) → 0 < workers → register 0 notes ≡ None → free_worker notes workers ≡ Some 0
free-is notes zero w e = absurd (omega (arith, w))
free-is notes (suc n) w e = ap (λ o. cond (is_none o) (Some 0) (find (λ w. is_none (register w notes)) (range_with_len (0 + 1) n))) e

begins-one : (notes : List Note) (log : List Entry) (workers c : ℕ) → may_begin notes log ≡ true → free_worker notes workers ≡ Some 0 → begin_events notes log workers c ≡ sys.Begin c 0 ∷ []
begins-one notes log workers c r f = (λ i. cond (r i) (option_to_list (option_map (λ w. sys.Begin c w) (f i))) [])

least-none : (notes : List Note) → least_delay notes ≡ None → (k : Key) → delay k notes ≡ None
least-none notes e k = sym (at-delays notes k) ∙ ap (λ rows. at same_key rows k) (empty (delays notes) e)
  where
    empty : (rows : List (Key × ℕ)) → option_map (λ (row : Key × ℕ). row.1) (first_of rows) ≡ None → rows ≡ []
    empty [] e = refl
    empty (row ∷ rows) e = absurd (true≢false (ap is_some e))

abbrev row : Key → ℕ → Key × ℕ
row k moment = (k, moment)

none-least : (notes : List Note) → ((k : Key) → delay k notes ≡ None) → least_delay notes ≡ None
none-least notes h = ap (λ rows. option_map (λ (row : Key × ℕ). row.1) (first_of rows)) (all (once (filter_map ended_key notes)))
  where
    all : (keys : List Key) → filter_map (λ k. option_map (λ moment. row k moment) (delay k notes)) keys ≡ []
    all [] = refl
    all (k ∷ keys) = (λ i. cons_option (option_map (row k) (h k i)) (all keys i))

pub earliest-none : (found : Option ℕ) (moments : List ℕ) → earliest found moments ≡ None → moments ≡ []
earliest-none found [] e = refl
earliest-none found (moment ∷ more) e = absurd (later (Some _) more refl e)
  where
    later : (o : Option ℕ) (more : List ℕ) → is_some o ≡ true → earliest o more ≡ None → ⊥
    later o [] s e = true≢false (sym s ∙ ap is_some e)
    later o (moment ∷ more) s e = later (Some _) more refl e

-- ---- nothing is available

module _ (shape : Shape) (past : List Deed) (legal : IsLegal shape past) (some : 0 < shape.workers) (quiet : is_quiescent shape past (log_given shape past) ≡ true) where
  abbrev log : List Entry
  log = log_given shape past

  abbrev of : ℕ → List Note
  of c = notes shape c past log

  nothing : or_clock (but_clock shape past log) (clock_events (moment shape past) (least_of_all shape past log)) ≡ []
  unfolding available
  nothing = empty-is _ quiet

  all-but : but_clock shape past log ≡ []
  all-but = by (but_clock shape past log) nothing
    where
      by : (xs : List Sys) → or_clock xs (clock_events (moment shape past) (least_of_all shape past log)) ≡ [] → xs ≡ []
      by [] e = refl
      by (x ∷ xs) e = e

  the-clock : clock_events (moment shape past) (least_of_all shape past log) ≡ []
  the-clock = ap (λ xs. or_clock xs (clock_events (moment shape past) (least_of_all shape past log))) (sym all-but) ∙ nothing

  no-least : least_of_all shape past log ≡ None
  no-least = by (least_of_all shape past log) the-clock
    where
      by : (o : Option ℕ) → clock_events (moment shape past) o ≡ [] → o ≡ None
      by None e = refl
      by (Some due) e = absurd (no-cons _ _ e)

  no-node : node_step log (fate past) ≡ None
  no-node = by (node_step log (fate past))
      (nil-rest (flat_map (λ c. begin_events (of c) log shape.workers c) (below shape.controllers)) _
      (nil-rest (flat_map (λ c. step_events (of c) shape.workers c) (below shape.controllers)) _
      (nil-rest (flat_map (λ c. delivery_events (of c) log c) (below shape.controllers)) _
      (nil-rest (flat_map (λ c. list_events (of c) c) (below shape.controllers)) _ all-but))))
    where
      by : (o : Option (Pod × NodeAct)) → node_events (is_some o) ≡ [] → o ≡ None
      by None e = refl
      by (Some step) e = absurd (no-cons _ _ e)

  module _ (c : ℕ) (lt : c < shape.controllers) where
    of-lists : list_events (of c) c ≡ []
    of-lists = flat-none (λ c. list_events (of c) c) 0 shape.controllers c (nil-first _ _ all-but) (omega arith) (omega arith)

    of-deliveries : delivery_events (of c) log c ≡ []
    of-deliveries = flat-none (λ c. delivery_events (of c) log c) 0 shape.controllers c (nil-first _ _ (nil-rest (flat_map (λ c. list_events (of c) c) (below shape.controllers)) _ all-but)) (omega arith) (omega arith)

    of-steps : step_events (of c) shape.workers c ≡ []
    of-steps = flat-none (λ c. step_events (of c) shape.workers c) 0 shape.controllers c
        (nil-first _ _ (nil-rest (flat_map (λ c. delivery_events (of c) log c) (below shape.controllers)) _
        (nil-rest (flat_map (λ c. list_events (of c) c) (below shape.controllers)) _ all-but))) (omega arith)
        (omega arith)

    of-begins : begin_events (of c) log shape.workers c ≡ []
    of-begins = flat-none (λ c. begin_events (of c) log shape.workers c) 0 shape.controllers c
        (nil-first _ _ (nil-rest (flat_map (λ c. step_events (of c) shape.workers c) (below shape.controllers)) _
        (nil-rest (flat_map (λ c. delivery_events (of c) log c) (below shape.controllers)) _
        (nil-rest (flat_map (λ c. list_events (of c) c) (below shape.controllers)) _ all-but)))) (omega arith)
        (omega arith)

    up : IsUpToDate (of c) log
    up Jobs = number-is c Jobs log _ (nil-first _ _ of-lists) (nil-first _ _ of-deliveries) (numbers-within shape c past legal Jobs)
    up Pods = number-is c Pods log _ (nil-rest (list_event c Jobs (number Jobs (of c))) _ of-lists) (nil-rest (delivery_event log c Jobs (number Jobs (of c))) _ of-deliveries) (numbers-within shape c past legal Pods)

    free : (w : ℕ) → w < shape.workers → register w (of c) ≡ None
    free w less = step-none c w (register w (of c)) (flat-none (step_event (of c) c) 0 shape.workers w of-steps (omega arith) (omega arith))

    no-line : line (of c) ≡ []
    no-line = by (line (of c)) refl
      where
        by : (keys : List Key) → line (of c) ≡ keys → keys ≡ []
        by [] e = refl
        by (k ∷ rest) e = absurd (no-cons _ _ (sym (begins-one (of c) log shape.workers c (ap is_begun (end-begins shape c past legal up 0 k rest e)) (free-is (of c) shape.workers some (free 0 some))) ∙ of-begins))

    pub idle : HasNothingToDo (of c) log shape.workers
    idle = record {
      caches = up;
      registers = free;
      line = no-line;
      delays = least-none (of c) (some-none (λ c. least_delay (of c)) 0 shape.controllers c (earliest-none None _ no-least) (omega arith) (omega arith));
    }

  pub at-rest : IsSystemAtRest shape past (log_given shape past)
  at-rest = record { each = idle; node = no-node }

-- ---- at rest

module _ (shape : Shape) (past : List Deed) (log : List Entry) (h : IsSystemAtRest shape past log) where
  abbrev at-of : ℕ → List Note
  at-of c = notes shape c past log

  no-lists : flat_map (λ c. list_events (at-of c) c) (below shape.controllers) ≡ []
  no-lists = flat-all _ 0 shape.controllers (λ c w lt. (λ i. list_event c Jobs ((h.each c (omega (arith, lt))).caches Jobs i) ++ list_event c Pods ((h.each c (omega (arith, lt))).caches Pods i)))

  same-length : nat_lt (length log) (length log) ≡ false
  same-length = by (nat_lt (length log) (length log)) refl
    where
      by : (b : Bool) → nat_lt (length log) (length log) ≡ b → b ≡ false
      by true e = let lt = ltb-true (length log) (length log) e in absurd (omega (arith, lt))
      by false e = refl

  no-deliveries : flat_map (λ c. delivery_events (at-of c) log c) (below shape.controllers) ≡ []
  no-deliveries = flat-all _ 0 shape.controllers (λ c w lt.
      (λ i. delivery_event log c Jobs ((h.each c (omega (arith, lt))).caches Jobs i) ++ delivery_event log c Pods ((h.each c (omega (arith, lt))).caches Pods i))
      ∙ (λ i. cond (same-length i) (sys.Deliver c Jobs ∷ []) [] ++ cond (same-length i) (sys.Deliver c Pods ∷ []) []))

  no-steps : flat_map (λ c. step_events (at-of c) shape.workers c) (below shape.controllers) ≡ []
  no-steps = flat-all _ 0 shape.controllers (λ c w lt. flat-all _ 0 shape.workers (λ u v less. ap (λ o. cond (is_some o) (sys.Step c u ∷ []) []) ((h.each c (omega (arith, lt))).registers u (omega (arith, less)))))

  no-begins : flat_map (λ c. begin_events (at-of c) log shape.workers c) (below shape.controllers) ≡ []
  no-begins = flat-all _ 0 shape.controllers (λ c w lt. ap (λ b. cond b (option_to_list (option_map (λ w. sys.Begin c w) (free_worker (at-of c) shape.workers))) []) (ready c (h.each c (omega (arith, lt)))))
    where
      ready : (c : ℕ) → HasNothingToDo (at-of c) log shape.workers → may_begin (at-of c) log ≡ false
      ready c idle =
          (λ i. is_begun (begin_at (at-of c) log 0 (idle.caches Jobs i) (idle.caches Pods i)))
          ∙ ap (λ keys. is_begun (begin_first (at-of c) log 0 (log_end log) (log_end log) keys)) idle.line

  no-clock : least_of_all shape past log ≡ None
  no-clock = ap (earliest None) (some-all _ 0 shape.controllers (λ c w lt. none-least (at-of c) (h.each c (omega (arith, lt))).delays))

  pub rest-quiet : is_quiescent shape past log ≡ true
  unfolding available
  rest-quiet = λ i. is_empty (or_clock (no-lists i ++ (no-deliveries i ++ (no-steps i ++ (no-begins i ++ node_events (is_some (h.node i)))))) (clock_events (moment shape past) (no-clock i)))
