-- A script with more commands behind it is played alike as far as the first ones go.
use Rattle.std.proofs.Common.{◌≡◌, ℕ, zero, suc, ◌+◌, ◌<◌, ◌≤◌, ◌==◌, Bool, true, false, cond, ◌||◌, nat_lt, List, [], ◌∷◌, ◌++◌, length, slice_get, Option, Some, None, is_some, refl, sym, ap, ◌∙◌, subst, arith, ne_eqb}
use Rattle.std.specs.List.{list_any}
use Rattle.jc_types.specs.declared.actions.Action1.{Action1}
use Rattle.jc_types.specs.declared.actions.Action1.TheVariants as act
use Rattle.jc_types.specs.declared.actions.Command.{Command}
use Rattle.jc_types.specs.declared.actions.Script.{Script}
use Rattle.jc_types.specs.declared.numbers.Version.{Version}
use Rattle.jc_types.specs.declared.objects.Entry.{Entry}
use Rattle.jc_types.specs.declared.objects.Kind.{Kind}
use Rattle.jc_types.specs.declared.objects.Kind.TheVariants.{Jobs, Pods}
use Rattle.jc_types.specs.declared.runs.Event.{Event}
use Rattle.jc_types.specs.declared.runs.Event.TheVariants as event
use Rattle.jc_types.specs.declared.runs.Past.{Past}
use Rattle.jc_types.specs.declared.runs.Shape.{Shape}
use Rattle.jc_types.specs.declared.runs.Sys.{Sys}
use Rattle.jc_types.specs.declared.runs.Sys.TheVariants as sys
use Rattle.jc_log.specs.Acts.{Act}
use Rattle.jc_log.specs.Deeds.{Deed, act_of_command, act_of_event, deed}
use Rattle.jc_runs.specs.Available.{available}
use Rattle.jc_runs.specs.Diaries.{notes}
use Rattle.jc_runs.specs.Numbers.{number}
use Rattle.jc_runs.specs.Play.{Playing, after_begin, brings, brought_up, commanded, deeds_played, does_if, event_played, first_event, has_just_begun, is_command, next_step, nothing, on_and_on, past_of, rest_played, settled_down, stepped_if}
use Rattle.jc_runs.specs.Play.{stepped_through, whole_play, with_answer}
use Rattle.jc_runs.specs.Registers.{register}
use Rattle.jc_runs.specs.Replies.{gives}

module _ (a b : Script) (shape : Shape) (bound : ℕ) (alike : (n : ℕ) → n < bound → slice_get a.commands n ≡ slice_get b.commands n) where
  -- The play has the same deeds in both, and no command from the bound on.
  pub record Alike (p : Playing) : Type 0 where
    pub deeds : deeds_played a p ≡ deeds_played b p
    pub fresh : (n : ℕ) → bound ≤ n → list_any (is_command n) p.pasts ≡ false

  -- Both go on alike.
  pub record Both (x y : Playing) : Type 0 where
    pub same : x ≡ y
    pub still : Alike x

  both-none : (p : Playing) → Alike p → Both p p
  both-none p h = record { same = refl; still = h }

  -- ---- one event

  abbrev IsBelow : Event → Type 0
  IsBelow (event.Command lane place) = place < bound
  IsBelow (event.System system) = Unit {0}

  act-alike : (e : Event) → IsBelow e → act_of_event a.commands e ≡ act_of_event b.commands e
  act-alike (event.Command lane place) below = ap act_of_command (alike place below)
  act-alike (event.System system) below = refl

  other-place : (n : ℕ) (past : Past) (e : Event) → past.event ≡ e → IsBelow e → bound ≤ n → is_command n past ≡ false
  other-place n past (event.Command lane place) is below above =
      ap (λ (e : Event). is_command n (record past { event = e })) is ∙ ne_eqb place n (λ same. omega (arith, same, below, above))
  other-place n past (event.System system) is below above = ap (λ (e : Event). is_command n (record past { event = e })) is

  event-both : (e : Event) (p : Playing) → IsBelow e → Alike p → Both (event_played a shape e p) (event_played b shape e p)
  unfolding event_played
  event-both e p below h = by (nat_lt (length p.pasts) shape.events)
    where
      by : (r : Bool) → Both (cond r (with_answer e (gives shape (deeds_played a p) p.log (act_of_event a.commands e)) p) (record p { full = true }))
          (cond r (with_answer e (gives shape (deeds_played b p) p.log (act_of_event b.commands e)) p) (record p { full = true }))
      by true = record {
        same =
            ap (λ (ds : List Deed). with_answer e (gives shape ds p.log (act_of_event a.commands e)) p) h.deeds
            ∙ ap (λ (x : Act). with_answer e (gives shape (deeds_played b p) p.log x) p) (act-alike e below);
        still = record {
          deeds =
              ap (λ (x : Act). record (deed a (past_of e (gives shape (deeds_played a p) p.log (act_of_event a.commands e)) p.log)) { act = x } ∷ deeds_played a p) (act-alike e below)
              ∙ ap (λ (ds : List Deed). deed b (past_of e (gives shape (deeds_played a p) p.log (act_of_event a.commands e)) p.log) ∷ ds) h.deeds;
          fresh = λ n above.
              ap (λ (r : Bool). r || list_any (is_command n) p.pasts)
              (other-place n (past_of e (gives shape (deeds_played a p) p.log (act_of_event a.commands e)) p.log) e refl below above)
              ∙ h.fresh n above;
        };
      }
      by false = record { same = refl; still = record { deeds = h.deeds; fresh = h.fresh } }

  -- One after the other.
  then-both : (f g : Playing → Playing) → ((q : Playing) → Alike q → Both (f q) (g q)) → (x y : Playing) → Both x y → Both (f x) (g y)
  then-both f g goes x y h = subst (λ (z : Playing). Both (f x) (g z)) h.same (goes x h.still)

  -- ---- loops

  abbrev AreSystem : Option Event → Type 0
  AreSystem None = Unit {0}
  AreSystem (Some (event.Command lane place)) = ⊥
  AreSystem (Some (event.System system)) = Unit {0}

  module _ (next other : Playing → Option Event) (same : (q : Playing) → Alike q → next q ≡ other q) (system : (q : Playing) → AreSystem (next q)) where
    loop-both : (n : ℕ) (p : Playing) → Alike p → Both (on_and_on a shape next n p) (on_and_on b shape other n p)
    loop-both zero p h = both-none p h
    loop-both (suc n) p h =
        subst (λ (o : Option Event). Both (does_if a shape next (next p) (on_and_on a shape next n) p) (does_if b shape other o (on_and_on b shape other n) p)) (same p h)
        (by (next p) (system p) (λ x y both. then-both (on_and_on a shape next n) (on_and_on b shape other n) (λ q k. loop-both n q k) x y both))
      where
        by : (o : Option Event) → AreSystem o → ((x y : Playing) → Both x y → Both (on_and_on a shape next n x) (on_and_on b shape other n y))
            → Both (does_if a shape next o (on_and_on a shape next n) p) (does_if b shape other o (on_and_on b shape other n) p)
        by None is more = both-none p h
        by (Some (event.Command lane place)) is more = absurd is
        by (Some (event.System s)) is more = on p.full
          where
            on : (r : Bool) → Both (cond r p (on_and_on a shape next n (event_played a shape (event.System s) p))) (cond r p (on_and_on b shape other n (event_played b shape (event.System s) p)))
            on true = both-none p h
            on false = more (event_played a shape (event.System s) p) (event_played b shape (event.System s) p) (event-both (event.System s) p tt h)

  brings-system : (c : ℕ) (kind : Kind) (log : List Entry) (o : Option Version) → AreSystem (brings c kind log o)
  brings-system c kind log None = tt
  brings-system c kind log (Some version) = by (version.0 == length log)
    where
      by : (r : Bool) → AreSystem (cond r None (Some (event.System (sys.Deliver c kind))))
      by true = tt
      by false = tt

  brought-both : (c : ℕ) (kind : Kind) (p : Playing) → Alike p → Both (brought_up a shape c kind p) (brought_up b shape c kind p)
  unfolding brought_up
  brought-both c kind p h =
      loop-both (λ q. brings c kind q.log (number kind (notes shape c (deeds_played a q) q.log))) (λ q. brings c kind q.log (number kind (notes shape c (deeds_played b q) q.log)))
      (λ q k. ap (λ (ds : List Deed). brings c kind q.log (number kind (notes shape c ds q.log))) k.deeds)
      (λ q. brings-system c kind q.log (number kind (notes shape c (deeds_played a q) q.log))) (shape.events + 1) p h

  step-system : (c w : ℕ) (r : Bool) → AreSystem (next_step c w r)
  step-system c w true = tt
  step-system c w false = tt

  stepped-both : (c w : ℕ) (p : Playing) → Alike p → Both (stepped_through a shape c w p) (stepped_through b shape c w p)
  unfolding stepped_through
  stepped-both c w p h =
      loop-both (λ q. next_step c w (is_some (register w (notes shape c (deeds_played a q) q.log)))) (λ q. next_step c w (is_some (register w (notes shape c (deeds_played b q) q.log))))
      (λ q k. ap (λ (ds : List Deed). next_step c w (is_some (register w (notes shape c ds q.log)))) k.deeds)
      (λ q. step-system c w (is_some (register w (notes shape c (deeds_played a q) q.log)))) (shape.events + 1) p h

  first-system : (events : List Sys) → AreSystem (first_event events)
  first-system [] = tt
  first-system (head ∷ events) = tt

  settled-both : (p : Playing) → Alike p → Both (settled_down a shape p) (settled_down b shape p)
  unfolding settled_down
  settled-both p h =
      loop-both (λ q. first_event (available shape (deeds_played a q) q.log)) (λ q. first_event (available shape (deeds_played b q) q.log))
      (λ q k. ap (λ (ds : List Deed). first_event (available shape ds q.log)) k.deeds)
      (λ q. first-system (available shape (deeds_played a q) q.log)) (shape.events + 1) p h

  -- ---- commands

  begin-both : (c w : ℕ) (p : Playing) → Alike p → Both (after_begin a shape c w p) (after_begin b shape c w p)
  begin-both c w p h = by p.full
    where
      steps : (r : Bool) → Both (stepped_if a shape c w r p) (stepped_if b shape c w r p)
      steps true = stepped-both c w p h
      steps false = both-none p h

      by : (r : Bool) → Both (cond r p (stepped_if a shape c w (has_just_begun p.pasts) p)) (cond r p (stepped_if b shape c w (has_just_begun p.pasts) p))
      by true = both-none p h
      by false = steps (has_just_begun p.pasts)

  command-both : (action : Action1) (e : Event) (p : Playing) → IsBelow e → Alike p → Both (commanded a shape action e p) (commanded b shape action e p)
  command-both (act.Sync c w) e p below h =
      let jobs = brought-both c Jobs p h in
      let pods = then-both (brought_up a shape c Pods) (brought_up b shape c Pods) (λ q k. brought-both c Pods q k) (brought_up a shape c Jobs p) (brought_up b shape c Jobs p) jobs in
      let own =
      then-both (event_played a shape e) (event_played b shape e) (λ q k. event-both e q below k)
      (brought_up a shape c Pods (brought_up a shape c Jobs p)) (brought_up b shape c Pods (brought_up b shape c Jobs p)) pods in
      then-both (after_begin a shape c w) (after_begin b shape c w) (λ q k. begin-both c w q k)
      (event_played a shape e (brought_up a shape c Pods (brought_up a shape c Jobs p))) (event_played b shape e (brought_up b shape c Pods (brought_up b shape c Jobs p))) own
  command-both act.Settle e p below h =
      then-both (event_played a shape e) (event_played b shape e) (λ q k. event-both e q below k) (settled_down a shape p) (settled_down b shape p) (settled-both p h)
  command-both (act.Create key spec) e p below h = event-both e p below h
  command-both (act.Update key version change) e p below h = event-both e p below h
  command-both (act.Delete key) e p below h = event-both e p below h
  command-both (act.Mark pod) e p below h = event-both e p below h
  command-both (act.Strip pod) e p below h = event-both e p below h
  command-both (act.Finish pod exit) e p below h = event-both e p below h
  command-both (act.Report pod change) e p below h = event-both e p below h
  command-both (act.Fate key ends) e p below h = event-both e p below h
  command-both (act.Clock add) e p below h = event-both e p below h
  command-both (act.List c kind) e p below h = event-both e p below h
  command-both (act.Deliver c kind) e p below h = event-both e p below h
  command-both (act.Begin c w) e p below h = event-both e p below h
  command-both (act.Step c w) e p below h = event-both e p below h
  command-both act.Node e p below h = event-both e p below h
  command-both (act.Restart c) e p below h = event-both e p below h
  command-both (act.PutFault c w fault) e p below h = event-both e p below h

  rest-both : (commands : List Command) (place : ℕ) (p : Playing) → place + length commands ≤ bound → Alike p
      → Both (rest_played a shape place commands p) (rest_played b shape place commands p)
  rest-both [] place p within h = both-none p h
  rest-both (c ∷ commands) place p within h =
      then-both (rest_played a shape (place + 1) commands) (rest_played b shape (place + 1) commands)
      (λ q k. rest-both commands (place + 1) q (omega (arith, within)) k)
      (cond (p.full || list_any (is_command place) p.pasts) p (commanded a shape c.action (event.Command c.lane place) p))
      (cond (p.full || list_any (is_command place) p.pasts) p (commanded b shape c.action (event.Command c.lane place) p))
      (by (p.full || list_any (is_command place) p.pasts))
    where
      by : (r : Bool) → Both (cond r p (commanded a shape c.action (event.Command c.lane place) p)) (cond r p (commanded b shape c.action (event.Command c.lane place) p))
      by true = both-none p h
      by false = command-both c.action (event.Command c.lane place) p (omega (arith, within)) h

-- ---- a front of a script

pub get-front : {A : Type 0} (front more : List A) (n : ℕ) → n < length front → slice_get front n ≡ slice_get (front ++ more) n
get-front [] more n less = absurd (omega (arith, less))
get-front (x ∷ front) more zero less = refl
get-front (x ∷ front) more (suc n) less = get-front front more n (omega (arith, less))

pub get-behind : {A : Type 0} (front more : List A) (i : ℕ) → slice_get (front ++ more) (length front + i) ≡ slice_get more i
get-behind [] more i = let is : 0 + i ≡ i = omega arith in ap (slice_get more) is
get-behind (x ∷ front) more i =
    let is : length (x ∷ front) + i ≡ suc (length front + i) = omega arith in
    ap (slice_get (x ∷ (front ++ more))) is ∙ get-behind front more i

rest-split : (script : Script) (shape : Shape) (xs ys : List Command) (place : ℕ) (p : Playing)
    → rest_played script shape place (xs ++ ys) p ≡ rest_played script shape (place + length xs) ys (rest_played script shape place xs p)
rest-split script shape [] ys place p = let is : place ≡ place + 0 = omega arith in ap (λ n. rest_played script shape n ys p) is
rest-split script shape (c ∷ xs) ys place p =
    let is : place + 1 + length xs ≡ place + length (c ∷ xs) = omega arith in
    let q = cond (p.full || list_any (is_command place) p.pasts) p (commanded script shape c.action (event.Command c.lane place) p) in
    rest-split script shape xs ys (place + 1) q
    ∙ ap (λ n. rest_played script shape n ys (rest_played script shape (place + 1) xs q)) is

abbrev pub of : List Command → Script
of commands = record { commands = commands }

pub front-both : (front more : List Command) (shape : Shape)
    → Both (of front) (of (front ++ more)) shape (length front) (get-front front more) (whole_play (of front) shape) (rest_played (of (front ++ more)) shape 0 front nothing)
unfolding whole_play
front-both front more shape =
    rest-both (of front) (of (front ++ more)) shape (length front) (get-front front more) front 0 nothing (omega arith) (record { deeds = refl; fresh = λ n above. refl })

pub whole-is : (front more : List Command) (shape : Shape)
    → whole_play (of (front ++ more)) shape ≡ rest_played (of (front ++ more)) shape (length front) more (whole_play (of front) shape)
unfolding whole_play
whole-is front more shape =
    rest-split (of (front ++ more)) shape front more 0 nothing
    ∙ ap (rest_played (of (front ++ more)) shape (0 + length front) more) (sym (front-both front more shape).same)
    ∙ (let is : 0 + length front ≡ length front = omega arith in ap (λ n. rest_played (of (front ++ more)) shape n more (rest_played (of front) shape 0 front nothing)) is)
