-- Nothing is available just where no controller has anything to do, nor the node.
use Rattle.std.proofs.Common.{◌≡◌, ℕ, zero, suc, ◌+◌, ◌<◌, ◌==◌, nat_lt, Bool, true, false, cond, not, ◌&&◌, List, [], ◌∷◌, ◌++◌, length, find, Option, Some, None, is_none, is_some, refl, sym, ap, ◌∙◌, subst, arith, ltb-false, eqb-true, true≢false}
use Rattle.std.proofs.lemmas.Bool.{eqb-false}
use Rattle.std.specs.List.{flat_map, range_with_len}
use Rattle.std.specs.Option.{option_map, option_to_list}
use Rattle.jc_types.specs.declared.numbers.Version.{Version}
use Rattle.jc_types.specs.declared.objects.Entry.{Entry}
use Rattle.jc_types.specs.declared.objects.Kind.{Kind}
use Rattle.jc_types.specs.declared.objects.Kind.TheVariants.{Jobs, Pods}
use Rattle.jc_types.specs.declared.runs.Shape.{Shape}
use Rattle.jc_types.specs.declared.runs.Sys.{Sys}
use Rattle.jc_types.specs.declared.runs.Sys.TheVariants as sys
use Rattle.jc_runs.specs.Basis.{Basis}
use Rattle.jc_log.specs.Deeds.{Deed}
use Rattle.jc_history.specs.Available.{available, begin_events, below, but_clock, clock_events, delivery_events, delivery_event, earliest, free_worker, is_empty, is_quiescent, least_of_all, list_event, list_events, node_events, or_clock}
use Rattle.jc_history.specs.Available.{step_event, step_events}
use Rattle.jc_history.specs.Delays.{least_delay}
use Rattle.jc_history.specs.Diaries.{moment, notes}
use Rattle.jc_history.specs.Fresh.{may_begin}
use Rattle.jc_history.specs.Nodes.{fate, node_step}
use Rattle.jc_history.specs.Notes.{Note}
use Rattle.jc_history.specs.Numbers.{number}
use Rattle.jc_history.specs.Registers.{register}
use Rattle.jc_runs.specs.Seen.{Seen, deeds_seen, log_seen}
use Rattle.jc_machine.specs.Idle.{HaveNoSyncs, AreIdle, IsTeamIdle, has_seen}
use Rattle.jc_order.proofs.EmptyFacts.{no-cons, nil-first, nil-rest, empty-is, flat-none, flat-all, some-none, some-all}
use Rattle.jc_machine.proofs.QuietSyncs.{none-is as of-none}
use Rattle.jc_order.proofs.RestFacts.{earliest-none}

-- ---- of one controller

has-seen : (c : ℕ) (kind : Kind) (log : List Entry) (o : Option Version) → list_event c kind o ≡ [] → delivery_event log c kind o ≡ [] → has_seen log o ≡ true
has-seen c kind log None e d = absurd (no-cons _ _ e)
has-seen c kind log (Some version) e d = by (nat_lt version.0 (length log)) d
  where
    by : (b : Bool) → cond b (sys.Deliver c kind ∷ []) [] ≡ [] → not b ≡ true
    by true d = absurd (no-cons _ _ d)
    by false d = refl

unlisted : (c : ℕ) (kind : Kind) (log : List Entry) (o : Option Version) → has_seen log o ≡ true → list_event c kind o ≡ []
unlisted c kind log None e = absurd (true≢false (sym e))
unlisted c kind log (Some version) e = refl

undelivered : (c : ℕ) (kind : Kind) (log : List Entry) (o : Option Version) → has_seen log o ≡ true → delivery_event log c kind o ≡ []
undelivered c kind log None e = refl
undelivered c kind log (Some version) e = by (nat_lt version.0 (length log)) e
  where
    by : (b : Bool) → not b ≡ true → cond b (sys.Deliver c kind ∷ []) [] ≡ []
    by true e = absurd (true≢false (sym e))
    by false e = refl

step-none : (c w : ℕ) (o : Option Basis) → cond (is_some o) (sys.Step c w ∷ []) [] ≡ [] → is_none o ≡ true
step-none c w None e = refl
step-none c w (Some basis) e = absurd (no-cons _ _ e)

none-step : (c w : ℕ) (o : Option Basis) → is_none o ≡ true → cond (is_some o) (sys.Step c w ∷ []) [] ≡ []
none-step c w None e = refl
none-step c w (Some basis) e = absurd (true≢false (sym e))

some-worker : (n : ℕ) → nat_lt 0 (suc n) ≡ true
some-worker n = by (nat_lt 0 (suc n)) refl
  where
    by : (b : Bool) → nat_lt 0 (suc n) ≡ b → b ≡ true
    by true e = refl
    by false e = let least = ltb-false 0 (suc n) e in absurd (omega (arith, least))

-- Where all workers are free, one begins where one can.
begins-none : (notes : List Note) (log : List Entry) (workers c : ℕ) → HaveNoSyncs notes workers → begin_events notes log workers c ≡ [] → (nat_lt 0 workers && may_begin notes log) ≡ false
begins-none notes log zero c free e = refl
begins-none notes log (suc n) c free e = ap (λ t. t && may_begin notes log) (some-worker n) ∙ by (may_begin notes log) e
  where
    first : free_worker notes (suc n) ≡ Some 0
    first = ap (λ b. cond b (Some 0) (find (λ w. is_none (register w notes)) (range_with_len (0 + 1) n))) (free 0 (omega arith))

    by : (b : Bool) → cond b (option_to_list (option_map (λ w. sys.Begin c w) (free_worker notes (suc n)))) [] ≡ [] → b ≡ false
    by false e = refl
    by true e = absurd (no-cons _ _ (sym (ap (λ o. option_to_list (option_map (λ w. sys.Begin c w) o)) first) ∙ e))

none-begins : (notes : List Note) (log : List Entry) (workers c : ℕ) → (nat_lt 0 workers && may_begin notes log) ≡ false → begin_events notes log workers c ≡ []
none-begins notes log zero c e = by (may_begin notes log)
  where
    by : (b : Bool) → cond {A = List Sys} b [] [] ≡ []
    by true = refl
    by false = refl
none-begins notes log (suc n) c e = ap (λ b. cond b (option_to_list (option_map (λ w. sys.Begin c w) (free_worker notes (suc n)))) []) (sym (ap (λ t. t && may_begin notes log) (some-worker n)) ∙ e)

none-of : {A : Type 0} (o : Option A) → o ≡ None → is_none o ≡ true
none-of o e = ap is_none e

-- A test that finds none, where it tells when some is there.
pub none-by : {A : Type 0} (o p : Option A) (b : Bool) → not b ≡ is_some o → o ≡ p → (b ≡ true → is_none p ≡ true) × (is_none p ≡ true → b ≡ true)
none-by {A} o p b is same = subst (λ p. (b ≡ true → is_none p ≡ true) × (is_none p ≡ true → b ≡ true)) same (by o b is)
  where
    by : (o : Option A) (b : Bool) → not b ≡ is_some o → (b ≡ true → is_none o ≡ true) × (is_none o ≡ true → b ≡ true)
    by None true e = (λ t. refl, λ t. refl)
    by None false e = absurd (true≢false e)
    by (Some x) true e = absurd (true≢false (sym e))
    by (Some x) false e = (λ t. absurd (true≢false (sym t)), λ t. absurd (true≢false (sym t)))

-- What holds below a number and at it holds up to it.
pub up_to : (P : ℕ → Type 0) (n : ℕ) → ((w : ℕ) → w < n → P w) → P n → (w : ℕ) → w < n + 1 → P w
up_to P n below here w lt = by (w == n) refl
  where
    by : (b : Bool) → (w == n) ≡ b → P w
    by true e = subst P (sym (eqb-true w n e)) here
    by false e = let other = eqb-false w n e in below w (omega (arith, lt, other))

-- ---- nothing is available

module _ (shape : Shape) (past : List Deed) (log : List Entry) where
  abbrev of : ℕ → List Note
  of c = notes shape c past log

  -- Each controller has nothing to do.
  abbrev pub EachIdle : Type 0
  EachIdle = (c : ℕ) → c < shape.controllers → IsTeamIdle (of c) log shape.workers

  module _ (quiet : is_quiescent shape past log ≡ true) where
    nothing : or_clock (but_clock shape past log) (clock_events (moment shape past) (least_of_all shape past log)) ≡ []
    unfolding available
    nothing = empty-is _ quiet

    all-but : but_clock shape past log ≡ []
    all-but = by (but_clock shape past log) nothing
      where
        by : (xs : List Sys) → or_clock xs (clock_events (moment shape past) (least_of_all shape past log)) ≡ [] → xs ≡ []
        by [] e = refl
        by (x ∷ xs) e = e

    the-clock : clock_events (moment shape past) (least_of_all shape past log) ≡ []
    the-clock = ap (λ xs. or_clock xs (clock_events (moment shape past) (least_of_all shape past log))) (sym all-but) ∙ nothing

    no-least : least_of_all shape past log ≡ None
    no-least = by (least_of_all shape past log) the-clock
      where
        by : (o : Option ℕ) → clock_events (moment shape past) o ≡ [] → o ≡ None
        by None e = refl
        by (Some due) e = absurd (no-cons _ _ e)

    but-lists : flat_map (λ c. delivery_events (of c) log c) (below shape.controllers)
        ++ (flat_map (λ c. step_events (of c) shape.workers c) (below shape.controllers)
        ++ (flat_map (λ c. begin_events (of c) log shape.workers c) (below shape.controllers)
        ++ node_events (is_some (node_step log (fate past))))) ≡ []
    but-lists = nil-rest (flat_map (λ c. list_events (of c) c) (below shape.controllers)) _ all-but

    but-deliveries : flat_map (λ c. step_events (of c) shape.workers c) (below shape.controllers) ++ (flat_map (λ c. begin_events (of c) log shape.workers c) (below shape.controllers) ++ node_events (is_some (node_step log (fate past)))) ≡ []
    but-deliveries = nil-rest (flat_map (λ c. delivery_events (of c) log c) (below shape.controllers)) _ but-lists

    but-steps : flat_map (λ c. begin_events (of c) log shape.workers c) (below shape.controllers) ++ node_events (is_some (node_step log (fate past))) ≡ []
    but-steps = nil-rest (flat_map (λ c. step_events (of c) shape.workers c) (below shape.controllers)) _ but-deliveries

    pub quiet-node : is_some (node_step log (fate past)) ≡ false
    quiet-node = by (is_some (node_step log (fate past))) (nil-rest (flat_map (λ c. begin_events (of c) log shape.workers c) (below shape.controllers)) _ but-steps)
      where
        by : (b : Bool) → node_events b ≡ [] → b ≡ false
        by true e = absurd (no-cons _ _ e)
        by false e = refl

    module _ (c : ℕ) (lt : c < shape.controllers) where
      of-lists : list_events (of c) c ≡ []
      of-lists = flat-none (λ c. list_events (of c) c) 0 shape.controllers c (nil-first _ _ all-but) (omega arith) (omega arith)

      of-deliveries : delivery_events (of c) log c ≡ []
      of-deliveries = flat-none (λ c. delivery_events (of c) log c) 0 shape.controllers c (nil-first _ _ but-lists) (omega arith) (omega arith)

      of-steps : step_events (of c) shape.workers c ≡ []
      of-steps = flat-none (λ c. step_events (of c) shape.workers c) 0 shape.controllers c (nil-first _ _ but-deliveries) (omega arith) (omega arith)

      of-begins : begin_events (of c) log shape.workers c ≡ []
      of-begins = flat-none (λ c. begin_events (of c) log shape.workers c) 0 shape.controllers c (nil-first _ _ but-steps) (omega arith) (omega arith)

      free : HaveNoSyncs (of c) shape.workers
      free w less = step-none c w (register w (of c)) (flat-none (step_event (of c) c) 0 shape.workers w of-steps (omega arith) (omega arith))

      pub quiet-idle : IsTeamIdle (of c) log shape.workers
      quiet-idle = record {
        jobs = has-seen c Jobs log (number Jobs (of c)) (nil-first _ _ of-lists) (nil-first _ _ of-deliveries);
        pods = has-seen c Pods log (number Pods (of c)) (nil-rest (list_event c Jobs (number Jobs (of c))) _ of-lists) (nil-rest (delivery_event log c Jobs (number Jobs (of c))) _ of-deliveries);
        free = free;
        line = begins-none (of c) log shape.workers c free of-begins;
        delays = none-of (least_delay (of c)) (some-none (λ c. least_delay (of c)) 0 shape.controllers c (earliest-none None _ no-least) (omega arith) (omega arith));
      }

  -- ---- and back

  module _ (idle : EachIdle) (node : is_some (node_step log (fate past)) ≡ false) where
    no-lists : flat_map (λ c. list_events (of c) c) (below shape.controllers) ≡ []
    no-lists = flat-all _ 0 shape.controllers (λ c w lt. (let h = idle c (omega (arith, lt)) in λ i. unlisted c Jobs log (number Jobs (of c)) h.jobs i ++ unlisted c Pods log (number Pods (of c)) h.pods i))

    no-deliveries : flat_map (λ c. delivery_events (of c) log c) (below shape.controllers) ≡ []
    no-deliveries = flat-all _ 0 shape.controllers (λ c w lt. (let h = idle c (omega (arith, lt)) in λ i. undelivered c Jobs log (number Jobs (of c)) h.jobs i ++ undelivered c Pods log (number Pods (of c)) h.pods i))

    no-steps : flat_map (λ c. step_events (of c) shape.workers c) (below shape.controllers) ≡ []
    no-steps = flat-all _ 0 shape.controllers (λ c w lt. flat-all _ 0 shape.workers (λ u v less. none-step c u (register u (of c)) ((idle c (omega (arith, lt))).free u (omega (arith, less)))))

    no-begins : flat_map (λ c. begin_events (of c) log shape.workers c) (below shape.controllers) ≡ []
    no-begins = flat-all _ 0 shape.controllers (λ c w lt. none-begins (of c) log shape.workers c (idle c (omega (arith, lt))).line)

    no-clock : least_of_all shape past log ≡ None
    no-clock = ap (earliest None) (some-all _ 0 shape.controllers (λ c w lt. of-none (least_delay (of c)) (idle c (omega (arith, lt))).delays))

    pub idle-quiet : is_quiescent shape past log ≡ true
    unfolding available
    idle-quiet = λ i. is_empty (or_clock (no-lists i ++ (no-deliveries i ++ (no-steps i ++ (no-begins i ++ node_events (node i))))) (clock_events (moment shape past) (no-clock i)))

-- ---- of a machine

-- What the two tests tell together.
pub quiescent_by : (seen : Seen) (idle acts : Bool) → (idle ≡ true → AreIdle seen) → (AreIdle seen → idle ≡ true) → acts
    ≡ is_some (node_step (log_seen seen) (fate (deeds_seen seen))) → (idle && not acts)
    ≡ is_quiescent seen.shape (deeds_seen seen) (log_seen seen)
quiescent_by seen idle acts to back is = by idle acts (is_quiescent seen.shape (deeds_seen seen) (log_seen seen)) to
    back is (quiet-idle seen.shape (deeds_seen seen) (log_seen seen))
    (quiet-node seen.shape (deeds_seen seen) (log_seen seen)) (idle-quiet seen.shape (deeds_seen seen) (log_seen seen))
  where
    by : (idle acts quiet : Bool) → (idle ≡ true → AreIdle seen) → (AreIdle seen → idle ≡ true) → acts ≡ is_some (node_step (log_seen seen) (fate (deeds_seen seen)))
        → (quiet ≡ true → AreIdle seen) → (quiet ≡ true → is_some (node_step (log_seen seen) (fate (deeds_seen seen))) ≡ false)
        → (AreIdle seen → is_some (node_step (log_seen seen) (fate (deeds_seen seen))) ≡ false → quiet ≡ true) → (idle && not acts) ≡ quiet
    by true false quiet to back is each node all = sym (all (to refl) (sym is))
    by true true true to back is each node all = absurd (true≢false (is ∙ node refl))
    by true true false to back is each node all = refl
    by false acts true to back is each node all = absurd (true≢false (sym (back (each refl))))
    by false acts false to back is each node all = refl
