-- The play of a script is a legal and orderly history of it, which ends where the lanes are used up or all events are.
use Rattle.std.proofs.Common.{◌≡◌, ℕ, zero, suc, ◌+◌, ◌-◌, ◌<◌, ◌≤◌, ◌==◌, nat_lt, Bool, true, false, cond, ◌||◌, List, [], ◌∷◌, ◌++◌, length, map, reverse, slice_get, Option, Some, None, is_some, refl, sym, ap, ◌∙◌, subst, arith, ltb-true}
use Rattle.std.proofs.Common.{ltb-false, eqb-true, eq-eqb, true≢false, ◌⊎◌, inl, inr}
use Rattle.std.proofs.lemmas.Bool.{eqb-false}
use Rattle.std.proofs.lemmas.List.{length-reverse, map-append, reverse-append, reverse-reverse}
use Rattle.std.specs.List.{AllByRecursion as Each, list_any}
use Rattle.jc_types.specs.declared.actions.Action1.{Action1}
use Rattle.jc_types.specs.declared.actions.Action1.TheVariants as act
use Rattle.jc_types.specs.declared.actions.Command.{Command}
use Rattle.jc_types.specs.declared.actions.Script.{Script}
use Rattle.jc_types.specs.declared.numbers.Version.{Version}
use Rattle.jc_types.specs.declared.objects.Kind.{Kind}
use Rattle.jc_types.specs.declared.objects.Kind.TheVariants.{Jobs, Pods}
use Rattle.jc_types.specs.declared.objects.Entry.{Entry}
use Rattle.jc_types.specs.declared.replies.Reply.TheVariants as reply
use Rattle.jc_types.specs.declared.runs.Event.{Event}
use Rattle.jc_types.specs.declared.runs.Event.TheVariants.{System, Command as Commands}
use Rattle.jc_types.specs.declared.runs.History.{History}
use Rattle.jc_types.specs.declared.runs.Past.{Past}
use Rattle.jc_types.specs.declared.runs.Shape.{Shape}
use Rattle.jc_types.specs.declared.runs.Sys.{Sys}
use Rattle.jc_types.specs.declared.runs.Sys.TheVariants as sys
use Rattle.jc_log.specs.Acts as does
use Rattle.jc_log.specs.Requests.{grown}
use Rattle.jc_control.specs.Schedules.{log_end}
use Rattle.jc_log.specs.Deeds.{Deed, act_of_action, act_of_event, act_of_system, act_of_command, deed, deeds, lane_of}
use Rattle.jc_history.specs.Available.{IsOrderly, WasAvailable, available, but_clock, clock_events, is_empty, is_quiescent, least_of_all, or_clock}
use Rattle.jc_order.specs.Ends.{IsAtMost}
use Rattle.jc_history.specs.Diaries.{moment, notes}
use Rattle.jc_history.specs.Legal.{AreUsed, ComesNext, IsHistory, InLanes, IsLegal, IsOfShape, MaySettle, next_command, lane_count}
use Rattle.jc_history.specs.Numbers.{number}
use Rattle.jc_history.specs.Play.{Playing, has_just_begun, brings, brought_up, commanded, deeds_played, event_played, does_if, first_event, is_command, notes_in, nothing, on_and_on, play_of, rest_played, settled_down, stepped_through}
use Rattle.jc_history.specs.Play.{stepped_if, next_step, with_answer, whole_play as all_played}
use Rattle.jc_history.specs.Registers.{register}
use Rattle.jc_history.specs.Replies.{gives, log_after, log_given, reply_given}
use Rattle.jc_order.specs.Plays.{AreWithin, IsPlayed, IsScriptFor, ends_in_settle, is_settle_action}
use Rattle.jc_order.proofs.AvailFacts.{Is, IsOf, all-within, any-here, delivery-in, list-in, step-in}
use Rattle.jc_order.proofs.EndFacts.{numbers-within}
use Rattle.jc_order.proofs.LaneFacts.{AllPlayed, all-used, comes-next}

module _ (script : Script) (shape : Shape) (start : List Deed) where
  -- The event may come next.
  pub record MayCome (event : Event) (p : Playing) : Type 0 where
    pub within : IsOfShape shape (act_of_event script.commands event)
    pub settle : MaySettle (act_of_event script.commands event) (is_quiescent shape (deeds_played script p) p.log)
    pub lane : ComesNext script.commands p.pasts event
    pub available_is : WasAvailable (act_of_event script.commands event) (lane_of event) (available shape (deeds_played script p) p.log)

  -- ---- one event

  one-more : (event : Event) (p : Playing) → IsPlayed script shape start p → length p.pasts < shape.events → MayCome event p
      → IsPlayed script shape start (with_answer event (gives shape (deeds_played script p) p.log (act_of_event script.commands event)) p)
  unfolding log_given
  one-more event p h lt m = record {
    log_is = ap (λ log. log_after shape (deeds_played script p) log (act_of_event script.commands event)) h.log_is;
    few = omega (arith, lt);
    filled = λ f. let w = h.filled f in absurd (omega (arith, w, lt));
    lanes = (m.lane, h.lanes);
    legal = (
      record {
        within = m.within;
        settled = subst (λ log. MaySettle (act_of_event script.commands event) (is_quiescent shape (deeds_played script p) log)) h.log_is m.settle;
        reply = ap (λ log. reply_given shape (deeds_played script p) log (act_of_event script.commands event)) h.log_is;
        length = ap (λ log. length (log_after shape (deeds_played script p) log (act_of_event script.commands event))) h.log_is;
      },
      h.legal,
    );
    orderly = λ o. (subst (λ log. WasAvailable (act_of_event script.commands event) (lane_of event) (available shape (deeds_played script p) log)) h.log_is m.available_is, h.orderly o);
  }

  pub does-plays : (event : Event) (p : Playing) → IsPlayed script shape start p → (length p.pasts < shape.events → MayCome event p) → IsPlayed script shape start (event_played script shape event p)
  unfolding event_played
  does-plays event p h m = by (nat_lt (length p.pasts) shape.events) refl
    where
      by : (b : Bool) → nat_lt (length p.pasts) shape.events ≡ b → IsPlayed script shape start (cond b (with_answer event (gives shape (deeds_played script p) p.log (act_of_event script.commands event)) p) (record p { full = true }))
      by true s = let lt = ltb-true (length p.pasts) shape.events s in one-more event p h lt (m lt)
      by false s = record {
        log_is = h.log_is;
        few = h.few;
        filled = λ f. let le = ltb-false (length p.pasts) shape.events s in let few = h.few in omega (arith, le, few);
        lanes = h.lanes;
        legal = h.legal;
        orderly = h.orderly;
      }

  -- ---- loops of events of the system

  -- Only events of the system came after p.
  pub record Adds (p q : Playing) : Type 0 where
    pub counts : (lane : ℕ) → lane_count lane q.pasts ≡ lane_count lane p.pasts
    pub commands : (place : ℕ) → list_any (is_command place) q.pasts ≡ list_any (is_command place) p.pasts

  adds-none : (p : Playing) → Adds p p
  adds-none p = record { counts = λ lane. refl; commands = λ place. refl }

  adds-both : (p q r : Playing) → Adds p q → Adds q r → Adds p r
  adds-both p q r h g = record { counts = λ lane. g.counts lane ∙ h.counts lane; commands = λ place. g.commands place ∙ h.commands place }

  adds-one : (system : Sys) (p : Playing) → Adds p (event_played script shape (System system) p)
  unfolding event_played
  adds-one system p = by (nat_lt (length p.pasts) shape.events)
    where
      by : (b : Bool) → Adds p (cond b (with_answer (System system) (gives shape (deeds_played script p) p.log (act_of_system system)) p) (record p { full = true }))
      by true = record { counts = λ lane. refl; commands = λ place. refl }
      by false = record { counts = λ lane. refl; commands = λ place. refl }

  -- The event is one of the system that may come.
  pub record IsSystem (event : Event) (p : Playing) : Type 0 where
    pub system : Sys
    pub is : event ≡ System system
    pub within : IsOfShape shape (act_of_system system)
    pub among : Is (act_of_system system) (available shape (deeds_played script p) p.log)

  may-come : (event : Event) (p : Playing) → IsSystem event p → MayCome event p
  may-come event p h = subst (λ event. MayCome event p) (sym h.is) (record { within = h.within; settle = by h.system; lane = tt; available_is = h.among })
    where
      by : (system : Sys) → MaySettle (act_of_system system) (is_quiescent shape (deeds_played script p) p.log)
      by (sys.List controller kind) = tt
      by (sys.Deliver controller kind) = tt
      by (sys.Begin controller worker) = tt
      by (sys.Step controller worker) = tt
      by sys.Node = tt
      by (sys.Clock add) = tt

  -- What a loop leaves.
  pub record Loops (p q : Playing) : Type 0 where
    pub plays : IsPlayed script shape start q
    pub adds : Adds p q

  module _ (next : Playing → Option Event) (is : (p : Playing) (event : Event) → IsPlayed script shape start p → next p ≡ Some event → IsSystem event p) where
    one-turn : (p : Playing) (event : Event) → IsPlayed script shape start p → next p ≡ Some event → Loops p (event_played script shape event p)
    one-turn p event h e = record {
      plays = does-plays event p h (λ lt. may-come event p (is p event h e));
      adds = subst (λ event. Adds p (event_played script shape event p)) (sym (is p event h e).is) (adds-one (is p event h e).system p);
    }

    pub loops : (n : ℕ) (p : Playing) → IsPlayed script shape start p → Loops p (on_and_on script shape next n p)
    loops zero p h = record { plays = h; adds = adds-none p }
    loops (suc n) p h = by (next p) refl (λ q g. loops n q g)
      where
        on : (event : Event) → next p ≡ Some event → (b : Bool) → ((q : Playing) → IsPlayed script shape start q → Loops q (on_and_on script shape next n q)) → Loops p (cond b p (on_and_on script shape next n (event_played script shape event p)))
        on event e true more = record { plays = h; adds = adds-none p }
        on event e false more =
            let turn = one-turn p event h e in
            let rest = more (event_played script shape event p) turn.plays in
            record { plays = rest.plays; adds = adds-both p (event_played script shape event p) _ turn.adds rest.adds }

        by : (o : Option Event) → next p ≡ o → ((q : Playing) → IsPlayed script shape start q → Loops q (on_and_on script shape next n q)) → Loops p (does_if script shape next o (on_and_on script shape next n) p)
        by None e more = record { plays = h; adds = adds-none p }
        by (Some event) e more = on event e p.full more

  -- A loop stops where nothing is next or the play is full.
  module _ (next : Playing → Option Event) where
    abbrev pub Stops : Playing → Type 0
    Stops p = (p.full ≡ true) ⊎ (next p ≡ None)

    full-stays : (n : ℕ) (p : Playing) → p.full ≡ true → on_and_on script shape next n p ≡ p
    full-stays zero p f = refl
    full-stays (suc n) p f = by (next p)
      where
        by : (o : Option Event) → does_if script shape next o (on_and_on script shape next n) p ≡ p
        by None = refl
        by (Some event) = ap (λ b. cond b p (on_and_on script shape next n (event_played script shape event p))) f

    pub stops : (n : ℕ) (p : Playing) → length p.pasts ≤ shape.events → shape.events < length p.pasts + n → Stops (on_and_on script shape next n p)
    unfolding event_played
    stops zero p few lt = absurd (omega (arith, few, lt))
    stops (suc n) p few lt = by (next p) refl (λ q few lt. stops n q few lt)
      where
        turn : (event : Event) (b : Bool) → nat_lt (length p.pasts) shape.events ≡ b → ((q : Playing) → length q.pasts ≤ shape.events → shape.events < length q.pasts + n → Stops (on_and_on script shape next n q))
            → Stops (on_and_on script shape next n (cond b (with_answer event (gives shape (deeds_played script p) p.log (act_of_event script.commands event)) p) (record p { full = true })))
        turn event true s more = let less = ltb-true (length p.pasts) shape.events s in more _ (omega (arith, less)) (omega (arith, lt))
        turn event false s more = inl (ap (λ (q : Playing). q.full) (full-stays n (record p { full = true }) refl))

        on : (event : Event) (b : Bool) → p.full ≡ b → ((q : Playing) → length q.pasts ≤ shape.events → shape.events < length q.pasts + n → Stops (on_and_on script shape next n q))
            → Stops (cond b p (on_and_on script shape next n (event_played script shape event p)))
        on event true f more = inl f
        on event false f more = turn event (nat_lt (length p.pasts) shape.events) refl more

        by : (o : Option Event) → next p ≡ o → ((q : Playing) → length q.pasts ≤ shape.events → shape.events < length q.pasts + n → Stops (on_and_on script shape next n q))
            → Stops (does_if script shape next o (on_and_on script shape next n) p)
        by None e more = inr e
        by (Some event) e more = on event p.full refl more

  -- ---- the three loops

  brings-next : (c : ℕ) (kind : Kind) → c < shape.controllers → (p : Playing) (event : Event) → IsPlayed script shape start p → brings c kind p.log (number kind (notes_in script shape c p)) ≡ Some event → IsSystem event p
  brings-next c kind lt p event h e = by (number kind (notes_in script shape c p)) refl (numbers p h) e
    where
      numbers : (p : Playing) → IsPlayed script shape start p → IsAtMost (length p.log) (number kind (notes_in script shape c p))
      numbers p h = subst (λ log. IsAtMost (length log) (number kind (notes shape c (deeds_played script p) log))) (sym h.log_is) (numbers-within shape c (deeds_played script p) h.legal kind)

      some-same : (x y : Event) → Some x ≡ Some y → x ≡ y
      some-same x y e = ap (λ o. elim o as (λ o. Event) [ None ↦ x | Some z ↦ z ]) e

      by : (o : Option Version) → number kind (notes_in script shape c p) ≡ o → IsAtMost (length p.log) o → brings c kind p.log o ≡ Some event → IsSystem event p
      by None n w e = record { system = sys.List c kind; is = sym (some-same _ event e); within = lt; among = list-in shape (deeds_played script p) p.log c lt kind n }
      by (Some version) n w e = at-end (version.0 == length p.log) refl e
        where
          at-end : (b : Bool) → (version.0 == length p.log) ≡ b → cond b None (Some (System (sys.Deliver c kind))) ≡ Some event → IsSystem event p
          at-end true s e = absurd (true≢false (sym (ap is_some e)))
          at-end false s e = record {
            system = sys.Deliver c kind;
            is = sym (some-same _ event e);
            within = lt;
            among = delivery-in shape (deeds_played script p) p.log c lt kind version n (let other = eqb-false version.0 (length p.log) s in omega (arith, w, other));
          }

  steps-next : (c w : ℕ) → c < shape.controllers → w < shape.workers → (p : Playing) (event : Event) → next_step c w (is_some (register w (notes_in script shape c p))) ≡ Some event → IsSystem event p
  steps-next c w lt less p event e = by (is_some (register w (notes_in script shape c p))) refl e
    where
      by : (b : Bool) → is_some (register w (notes_in script shape c p)) ≡ b → next_step c w b ≡ Some event → IsSystem event p
      by true s e = record { system = sys.Step c w; is = sym (ap (λ o. elim o as (λ o. Event) [ None ↦ System (sys.Step c w) | Some z ↦ z ]) e); within = (lt, less); among = step-in shape (deeds_played script p) p.log c lt w less s }
      by false s e = absurd (true≢false (sym (ap is_some e)))

  settles-next : (p : Playing) (event : Event) → first_event (available shape (deeds_played script p) p.log) ≡ Some event → IsSystem event p
  settles-next p event e = by (available shape (deeds_played script p) p.log) refl e
    where
      by : (events : List Sys) → available shape (deeds_played script p) p.log ≡ events → first_event events ≡ Some event → IsSystem event p
      by [] s e = absurd (true≢false (sym (ap is_some e)))
      by (head ∷ more) s e = record {
        system = head;
        is = sym (ap (λ o. elim o as (λ o. Event) [ None ↦ System head | Some z ↦ z ]) e);
        within = (subst (Each (IsOf shape)) s (all-within shape (deeds_played script p) p.log)).0;
        among = subst (Is (act_of_system head)) (sym s) (any-here _ head more refl);
      }

  brought : (c : ℕ) (kind : Kind) → c < shape.controllers → (p : Playing) → IsPlayed script shape start p → Loops p (brought_up script shape c kind p)
  unfolding brought_up
  brought c kind lt p h = loops (λ q. brings c kind q.log (number kind (notes_in script shape c q))) (λ q event g e. brings-next c kind lt q event g e) (shape.events + 1) p h

  stepped-on : (c w : ℕ) → c < shape.controllers → w < shape.workers → (p : Playing) → IsPlayed script shape start p → Loops p (stepped_through script shape c w p)
  unfolding stepped_through
  stepped-on c w lt less p h = loops (λ q. next_step c w (is_some (register w (notes_in script shape c q)))) (λ q event g e. steps-next c w lt less q event e) (shape.events + 1) p h

  pub settled-on : (p : Playing) → IsPlayed script shape start p → Loops p (settled_down script shape p)
  unfolding settled_down
  settled-on p h = loops (λ q. first_event (available shape (deeds_played script q) q.log)) (λ q event g e. settles-next q event e) (shape.events + 1) p h

  -- Where it is not full nothing is available.
  pub settled-rests : (p : Playing) → IsPlayed script shape start p → ((settled_down script shape p).full ≡ true) ⊎ (is_quiescent shape (deeds_played script (settled_down script shape p)) (settled_down script shape p).log ≡ true)
  unfolding settled_down
  settled-rests p h = by (settled_down script shape p) (stops (λ q. first_event (available shape (deeds_played script q) q.log)) (shape.events + 1) p h.few (omega arith))
    where
      none : (events : List Sys) → first_event events ≡ None → is_empty events ≡ true
      none [] e = refl
      none (head ∷ more) e = absurd (true≢false (ap is_some e))

      by : (q : Playing) → (q.full ≡ true) ⊎ (first_event (available shape (deeds_played script q) q.log) ≡ None) → (q.full ≡ true) ⊎ (is_quiescent shape (deeds_played script q) q.log ≡ true)
      by q (inl f) = inl f
      by q (inr e) = inr (none (available shape (deeds_played script q) q.log) e)

  -- ---- commands

  -- What a command leaves: it was played, unless the play is full, and what was played before still is.
  record Own (place : ℕ) (p q : Playing) : Type 0 where
    plays : IsPlayed script shape start q
    done : (q.full ≡ true) ⊎ (list_any (is_command place) q.pasts ≡ true)
    kept : (n : ℕ) → list_any (is_command n) p.pasts ≡ true → list_any (is_command n) q.pasts ≡ true
    others : (n : ℕ) → place < n → list_any (is_command n) q.pasts ≡ list_any (is_command n) p.pasts

  abbrev after-own : ℕ → ℕ → Playing → Bool → Playing
  after-own lane place q b = cond b (with_answer (Commands lane place) (gives shape (deeds_played script q) q.log (act_of_event script.commands (Commands lane place))) q) (record q { full = true })

  own-event : (lane place : ℕ) (p q : Playing) → Adds p q → IsPlayed script shape start q → (length q.pasts < shape.events → MayCome (Commands lane place) q) → Own place p (event_played script shape (Commands lane place) q)
  unfolding event_played
  own-event lane place p q a h m = record {
    plays = does-plays (Commands lane place) q h m;
    done = done (nat_lt (length q.pasts) shape.events);
    kept = λ n e. kept n (a.commands n ∙ e) (nat_lt (length q.pasts) shape.events);
    others = λ n lt. others n lt (nat_lt (length q.pasts) shape.events) ∙ a.commands n;
  }
    where
      apart : (n : ℕ) → place < n → (b : Bool) → (place == n) ≡ b → b ≡ false
      apart n lt true s = let same = eqb-true place n s in absurd (omega (arith, lt, same))
      apart n lt false s = refl

      others : (n : ℕ) → place < n → (b : Bool) → list_any (is_command n) (after-own lane place q b).pasts ≡ list_any (is_command n) q.pasts
      others n lt true = ap (λ b. b || list_any (is_command n) q.pasts) (apart n lt (place == n) refl)
      others n lt false = refl

      or-true : (b c : Bool) → c ≡ true → (b || c) ≡ true
      or-true true c e = refl
      or-true false c e = e

      done : (b : Bool) → ((after-own lane place q b).full ≡ true) ⊎ (list_any (is_command place) (after-own lane place q b).pasts ≡ true)
      done true = inr (ap (λ b. b || list_any (is_command place) q.pasts) (eq-eqb place place refl))
      done false = inl refl

      kept : (n : ℕ) → list_any (is_command n) q.pasts ≡ true → (b : Bool) → list_any (is_command n) (after-own lane place q b).pasts ≡ true
      kept n e true = or-true (place == n) (list_any (is_command n) q.pasts) e
      kept n e false = e

  own-then : (place : ℕ) (p q r : Playing) → Own place p q → (q.full ≡ true → r ≡ q) → (q.full ≡ false → Loops q r) → Own place p r
  own-then place p q r o same more = by q.full refl
    where
      by : (b : Bool) → q.full ≡ b → Own place p r
      by true f = subst (λ r. Own place p r) (sym (same f)) o
      by false f = record { plays = (more f).plays; done = done o.done; kept = λ n e. (more f).adds.commands n ∙ o.kept n e; others = λ n lt. (more f).adds.commands n ∙ o.others n lt }
        where
          done : (q.full ≡ true) ⊎ (list_any (is_command place) q.pasts ≡ true) → (r.full ≡ true) ⊎ (list_any (is_command place) r.pasts ≡ true)
          done (inl t) = absurd (true≢false (sym t ∙ f))
          done (inr e) = inr ((more f).adds.commands place ∙ e)

  module _ (lane place : ℕ) (command : Command) (stands : slice_get script.commands place ≡ Some command) (within : IsOfShape shape (act_of_action command.action)) (p : Playing) (h : IsPlayed script shape start p)
      (comes : next_command script.commands lane p.pasts ≡ Some place) where
    own-comes : (q : Playing) → Adds p q → MaySettle (act_of_action command.action) (is_quiescent shape (deeds_played script q) q.log) → MayCome (Commands lane place) q
    own-comes q a m = record {
      within = subst (λ o. IsOfShape shape (act_of_command o)) (sym stands) within;
      settle = subst (λ o. MaySettle (act_of_command o) (is_quiescent shape (deeds_played script q) q.log)) (sym stands) m;
      lane = ap (slice_get _) (a.counts lane) ∙ comes;
      available_is = tt;
    }

    plain : MaySettle (act_of_action command.action) (is_quiescent shape (deeds_played script p) p.log) → Own place p (event_played script shape (Commands lane place) p)
    plain m = own-event lane place p p (adds-none p) h (λ lt. own-comes p (adds-none p) m)

    abbrev began-at : ℕ → Playing
    began-at c = event_played script shape (Commands lane place) (brought_up script shape c Pods (brought_up script shape c Jobs p))

    commanded-plays : (action : Action1) → command.action ≡ action → Own place p (commanded script shape action (Commands lane place) p)
    commanded-plays (act.Sync c w) e =
        own-then place p (began-at c) _ begun (λ f. ap (λ b. cond b (began-at c) (stepped_if script shape c w (has_just_begun (began-at c).pasts) (began-at c))) f)
        (λ f. subst (λ b. Loops (began-at c) (cond b (began-at c) (stepped_if script shape c w (has_just_begun (began-at c).pasts) (began-at c)))) (sym f) (on (has_just_begun (began-at c).pasts)))
      where
        both : (c < shape.controllers) × (w < shape.workers)
        both = subst (λ action. IsOfShape shape (act_of_action action)) e within

        jobs : Loops p (brought_up script shape c Jobs p)
        jobs = brought c Jobs both.0 p h

        pods : Loops (brought_up script shape c Jobs p) (brought_up script shape c Pods (brought_up script shape c Jobs p))
        pods = brought c Pods both.0 _ jobs.plays

        up : Adds p (brought_up script shape c Pods (brought_up script shape c Jobs p))
        up = adds-both p _ _ jobs.adds pods.adds

        begun : Own place p (began-at c)
        begun = own-event lane place p _ up pods.plays
            (λ lt. own-comes _ up (subst (λ action. MaySettle (act_of_action action)
            (is_quiescent shape (deeds_played script
            (brought_up script shape c Pods (brought_up script shape c Jobs p)))
            (brought_up script shape c Pods (brought_up script shape c Jobs p)).log)) (sym e) tt))

        on : (b : Bool) → Loops (began-at c) (stepped_if script shape c w b (began-at c))
        on true = stepped-on c w both.0 both.1 (began-at c) begun.plays
        on false = record { plays = begun.plays; adds = adds-none (began-at c) }
    commanded-plays act.Settle e = own-event lane place p (settled_down script shape p) rest.adds rest.plays
        (λ lt. own-comes (settled_down script shape p) rest.adds
        (subst (λ action. MaySettle (act_of_action action)
        (is_quiescent shape (deeds_played script (settled_down script shape p)) (settled_down script shape p).log))
        (sym e) (quiet lt (settled-rests p h))))
      where
        rest : Loops p (settled_down script shape p)
        rest = settled-on p h

        quiet : length (settled_down script shape p).pasts < shape.events → ((settled_down script shape p).full ≡ true)
            ⊎ (is_quiescent shape (deeds_played script (settled_down script shape p)) (settled_down script shape p).log
            ≡ true) → is_quiescent shape (deeds_played script (settled_down script shape p))
            (settled_down script shape p).log ≡ true
        quiet lt (inl f) = let w = rest.plays.filled f in absurd (omega (arith, w, lt))
        quiet lt (inr q) = q
    commanded-plays (act.Create key spec) e = plain (subst (λ action. MaySettle (act_of_action action) (is_quiescent shape (deeds_played script p) p.log)) (sym e) tt)
    commanded-plays other e = plain (subst (λ action. MaySettle (act_of_action action) (is_quiescent shape (deeds_played script p) p.log)) (sym e) tt)

  -- ---- one command in its turn

  -- None of the commands from this place on was played.
  abbrev pub NoneFrom : ℕ → List Past → Type 0
  NoneFrom place pasts = (n : ℕ) → place ≤ n → list_any (is_command n) pasts ≡ false

  -- The command at the place is played, if it was not yet.
  abbrev in-turn : ℕ → Command → Playing → Playing
  in-turn place command p = cond (p.full || list_any (is_command place) p.pasts) p (commanded script shape command.action (Commands command.lane place) p)

  -- What that leaves.
  record Turn (place : ℕ) (p q : Playing) : Type 0 where
    plays : IsPlayed script shape start q
    all : q.full ≡ false → AllPlayed (place + 1) q.pasts
    none : (p.full ≡ false → NoneFrom place p.pasts) → q.full ≡ false → NoneFrom (place + 1) q.pasts

  stands-at : (place : ℕ) (command : Command) (commands : List Command) → ((i : ℕ) → slice_get script.commands (place + i) ≡ slice_get (command ∷ commands) i) → slice_get script.commands place ≡ Some command
  stands-at place command commands at = (let same : place ≡ place + 0 = omega arith in ap (slice_get script.commands) same) ∙ at 0

  further : (place : ℕ) (command : Command) (commands : List Command) → ((i : ℕ) → slice_get script.commands (place + i) ≡ slice_get (command ∷ commands) i) → (i : ℕ) → slice_get script.commands (place + 1 + i) ≡ slice_get commands i
  further place command commands at i = (let same : place + 1 + i ≡ place + suc i = omega arith in ap (slice_get script.commands) same) ∙ at (suc i)

  one-command : (place : ℕ) (command : Command) (p : Playing) → slice_get script.commands place ≡ Some command → IsOfShape shape (act_of_action command.action) → IsPlayed script shape start p
      → (p.full ≡ false → AllPlayed place p.pasts) → Turn place p (in-turn place command p)
  one-command place command p stands within h before = here (p.full || list_any (is_command place) p.pasts) refl
    where
      full-not : (a b : Bool) → (a || b) ≡ false → a ≡ false
      full-not true b e = absurd (true≢false e)
      full-not false b e = refl

      played-not : (a b : Bool) → (a || b) ≡ false → b ≡ false
      played-not true b e = absurd (true≢false e)
      played-not false b e = e

      one-further : (pasts : List Past) → AllPlayed place pasts → list_any (is_command place) pasts ≡ true → AllPlayed (place + 1) pasts
      one-further pasts all e n lt = at-place (n == place) refl
        where
          at-place : (b : Bool) → (n == place) ≡ b → list_any (is_command n) pasts ≡ true
          at-place true s = ap (λ n. list_any (is_command n) pasts) (eqb-true n place s) ∙ e
          at-place false s = let other = eqb-false n place s in all n (omega (arith, lt, other))

      here : (b : Bool) → (p.full || list_any (is_command place) p.pasts) ≡ b → Turn place p (cond b p (commanded script shape command.action (Commands command.lane place) p))
      here true s = record { plays = h; all = λ f. one-further p.pasts (before f) (sure p.full f s); none = λ none f n le. none f n (omega (arith, le)) }
        where
          sure : (a : Bool) → a ≡ false → (a || list_any (is_command place) p.pasts) ≡ true → list_any (is_command place) p.pasts ≡ true
          sure true f s = absurd (true≢false f)
          sure false f s = s
      here false s = record {
        plays = own.plays;
        all = λ f. one-further (commanded script shape command.action (Commands command.lane place) p).pasts (λ n lt. own.kept n (before unfull n lt)) (sure f own.done);
        none = λ none f n le. own.others n (omega (arith, le)) ∙ none unfull n (omega (arith, le));
      }
        where
          unfull : p.full ≡ false
          unfull = full-not p.full (list_any (is_command place) p.pasts) s

          own : Own place p (commanded script shape command.action (Commands command.lane place) p)
          own = commanded-plays command.lane place command stands within p h (comes-next script.commands p.pasts h.lanes place command stands (before unfull) (played-not p.full (list_any (is_command place) p.pasts) s)) command.action refl

          sure : (commanded script shape command.action (Commands command.lane place) p).full ≡ false
              → ((commanded script shape command.action (Commands command.lane place) p).full ≡ true) ⊎ (list_any (is_command place) (commanded script shape command.action (Commands command.lane place) p).pasts ≡ true)
              → list_any (is_command place) (commanded script shape command.action (Commands command.lane place) p).pasts ≡ true
          sure f (inl t) = absurd (true≢false (sym t ∙ f))
          sure f (inr e) = e

  -- ---- all commands

  pub record Ends (p : Playing) : Type 0 where
    pub plays : IsPlayed script shape start p
    pub all : p.full ≡ false → (n : ℕ) (command : Command) → slice_get script.commands n ≡ Some command → list_any (is_command n) p.pasts ≡ true

  pub rest-plays : (place : ℕ) (commands : List Command) (p : Playing) → ((i : ℕ) → slice_get script.commands (place + i) ≡ slice_get commands i) → AreWithin shape commands → IsPlayed script shape start p
      → (p.full ≡ false → AllPlayed place p.pasts) → Ends (rest_played script shape place commands p)
  rest-plays place [] p at within h before = record { plays = h; all = λ f n command e. before f n (by n command e (nat_lt n place) refl) }
    where
      by : (n : ℕ) (command : Command) → slice_get script.commands n ≡ Some command → (b : Bool) → nat_lt n place ≡ b → n < place
      by n command e true s = ltb-true n place s
      by n command e false s =
          let le = ltb-false n place s in
          let same : place + (n - place) ≡ n = omega (arith, le) in
          absurd (true≢false (sym (ap is_some (sym (at (n - place)) ∙ ap (slice_get script.commands) same ∙ e)) ∙ nothing (n - place)))
        where
          nothing : (i : ℕ) → is_some (slice_get {X = Command} [] i) ≡ false
          nothing zero = refl
          nothing (suc i) = refl
  rest-plays place (command ∷ commands) p at within h before =
      rest-plays (place + 1) commands _ (further place command commands at) within.1 turn.plays turn.all
    where
      turn : Turn place p (in-turn place command p)
      turn = one-command place command p (stands-at place command commands at) within.0 h before

  -- ---- a settle at the end

  abbrev pub Rests : Playing → Type 0
  Rests p = is_quiescent shape (deeds_played script p) p.log ≡ true

  -- A settle changes nothing of what is available.
  settle-leaves : (past : List Deed) (log : List Entry) (lane : Option ℕ) (length : Version)
      → is_quiescent shape (record { lane = lane; act = does.Settle; reply = reply.Done; length = length } ∷ past) log ≡ is_quiescent shape past log
  unfolding available
  settle-leaves past log lane length =
      let same : moment shape past + 0 ≡ moment shape past = omega arith in
      ap (λ now. is_empty (or_clock (but_clock shape past log) (clock_events now (least_of_all shape past log)))) same

  settled-event : (lane place : ℕ) (command : Command) (q : Playing) → slice_get script.commands place ≡ Some command → command.action ≡ act.Settle → IsPlayed script shape start q
      → (q.full ≡ true) ⊎ Rests q → (event_played script shape (Commands lane place) q).full ≡ false → Rests (event_played script shape (Commands lane place) q)
  unfolding event_played gives
  settled-event lane place command q stands is h rests = by (nat_lt (length q.pasts) shape.events) refl
    where
      act-is : act_of_event script.commands (Commands lane place) ≡ does.Settle
      act-is = ap act_of_command stands ∙ ap act_of_action is

      quiet : length q.pasts < shape.events → (q.full ≡ true) ⊎ Rests q → Rests q
      quiet lt (inl f) = let w = h.filled f in absurd (omega (arith, w, lt))
      quiet lt (inr e) = e

      by : (b : Bool) → nat_lt (length q.pasts) shape.events ≡ b → (after-own lane place q b).full ≡ false → Rests (after-own lane place q b)
      by false s f = absurd (true≢false f)
      by true s f =
          subst (λ act. is_quiescent shape (record {
            lane = Some lane;
            act = act;
            reply = (gives shape (deeds_played script q) q.log act).reply;
            length =
                log_end (grown q.log (gives shape (deeds_played script q) q.log act).entry);
          } ∷ deeds_played script q)
          (grown q.log (gives shape (deeds_played script q) q.log act).entry) ≡ true)
          (sym act-is) (settle-leaves (deeds_played script q) q.log (Some lane) (log_end q.log) ∙ quiet (ltb-true (length q.pasts) shape.events s) rests)

  settle-of : (action : Action1) → is_settle_action action ≡ true → action ≡ act.Settle
  settle-of act.Settle e = refl
  settle-of (act.Create key spec) e = absurd (true≢false (sym e))
  settle-of (act.Update key version change) e = absurd (true≢false (sym e))
  settle-of (act.Delete key) e = absurd (true≢false (sym e))
  settle-of (act.Mark pod) e = absurd (true≢false (sym e))
  settle-of (act.Strip pod) e = absurd (true≢false (sym e))
  settle-of (act.Finish pod exit) e = absurd (true≢false (sym e))
  settle-of (act.Report pod change) e = absurd (true≢false (sym e))
  settle-of (act.Fate key ends) e = absurd (true≢false (sym e))
  settle-of (act.Clock add) e = absurd (true≢false (sym e))
  settle-of (act.List controller kind) e = absurd (true≢false (sym e))
  settle-of (act.Deliver controller kind) e = absurd (true≢false (sym e))
  settle-of (act.Begin controller worker) e = absurd (true≢false (sym e))
  settle-of (act.Sync controller worker) e = absurd (true≢false (sym e))
  settle-of (act.Step controller worker) e = absurd (true≢false (sym e))
  settle-of act.Node e = absurd (true≢false (sym e))
  settle-of (act.Restart controller) e = absurd (true≢false (sym e))
  settle-of (act.PutFault controller worker fault) e = absurd (true≢false (sym e))

  -- Where the last command is a settle, what is left is at rest.
  pub settles-last : (place : ℕ) (commands : List Command) (p : Playing) → ((i : ℕ) → slice_get script.commands (place + i) ≡ slice_get commands i) → AreWithin shape commands → IsPlayed script shape start p
      → (p.full ≡ false → AllPlayed place p.pasts) → (p.full ≡ false → NoneFrom place p.pasts) → ends_in_settle commands ≡ true
      → (rest_played script shape place commands p).full ≡ false → Rests (rest_played script shape place commands p)
  settles-last place [] p at within h before none e f = absurd (true≢false (sym e))
  settles-last place (command ∷ []) p at within h before none e f = here (p.full || list_any (is_command place) p.pasts) refl f
    where
      is : command.action ≡ act.Settle
      is = settle-of command.action e

      nowhere : (a b : Bool) → a ≡ false → b ≡ false → (a || b) ≡ true → ⊥
      nowhere true b x y s = true≢false x
      nowhere false b x y s = true≢false (sym s ∙ y)

      here : (b : Bool) → (p.full || list_any (is_command place) p.pasts) ≡ b → (cond b p (commanded script shape command.action (Commands command.lane place) p)).full ≡ false
          → Rests (cond b p (commanded script shape command.action (Commands command.lane place) p))
      here true s f = absurd (nowhere p.full (list_any (is_command place) p.pasts) f (none f place (omega arith)) s)
      here false s f =
          subst (λ action. (commanded script shape action (Commands command.lane place) p).full ≡ false → Rests (commanded script shape action (Commands command.lane place) p)) (sym is)
          (settled-event command.lane place command (settled_down script shape p) (stands-at place command [] at) is (settled-on p h).plays (settled-rests p h)) f
  settles-last place (command ∷ next ∷ more) p at within h before none e f =
      settles-last (place + 1) (next ∷ more) (in-turn place command p) (further place command (next ∷ more) at) within.1 turn.plays turn.all (turn.none none) e f
    where
      turn : Turn place p (in-turn place command p)
      turn = one-command place command p (stands-at place command (next ∷ more) at) within.0 h before

-- ---- the play

-- The play of the rest of a script.
pub plays-on : (script : Script) (shape : Shape) (start : List Deed) (p : Playing) → IsScriptFor script shape → IsPlayed script shape start p → Ends script shape start (rest_played script shape 0 script.commands p)
plays-on script shape start p proper h =
    rest-plays script shape start 0 script.commands p (λ i. let same : 0 + i ≡ i = omega arith in ap (slice_get script.commands) same) proper h (λ f n lt. absurd (omega (arith, lt)))

pub used-up : (script : Script) (shape : Shape) (start : List Deed) (p : Playing) → Ends script shape start p → p.full ≡ false → AreUsed script.commands p.pasts
used-up script shape start p h f = all-used script.commands p.pasts h.plays.lanes (h.all f)

pub plays-whole : (script : Script) (shape : Shape) → IsScriptFor script shape → Ends script shape [] (all_played script shape)
unfolding all_played log_given
plays-whole script shape proper = plays-on script shape [] nothing proper (record {
  log_is = refl;
  few = omega arith;
  filled = λ f. absurd (true≢false (sym f));
  lanes = tt;
  legal = tt;
  orderly = λ o. o;
})

-- The deeds of a history that is written oldest first.
deeds-are : (script : Script) (pasts : List Past) → map (deed script) pasts ≡ reverse (map (deed script) (reverse pasts))
deeds-are script pasts = sym (ap reverse (turned pasts) ∙ reverse-reverse (map (deed script) pasts))
  where
    turned : (pasts : List Past) → map (deed script) (reverse pasts) ≡ reverse (map (deed script) pasts)
    turned [] = refl
    turned (past ∷ before) =
        ap (map (deed script)) (reverse-append (past ∷ []) before)
        ∙ map-append (deed script) (reverse before) (past ∷ [])
        ∙ ap (λ some. some ++ deed script past ∷ []) (turned before)
        ∙ sym (reverse-append (deed script past ∷ []) (map (deed script) before))

-- The deeds of a history of these events.
history-deeds : (script : Script) (pasts : List Past) (history : History) → history.events.items ≡ reverse pasts → map (deed script) pasts ≡ deeds script history
history-deeds script pasts history e = deeds-are script pasts ∙ ap (λ (some : List Past). reverse (map (deed script) some)) (sym e)

pub history-is : (script : Script) (shape : Shape) (start : List Deed) (p : Playing) → IsPlayed script shape start p → (history : History) → history.events.items ≡ reverse p.pasts → IsHistory script shape history
history-is script shape start p h history e = record {
  few = subst (λ n. n ≤ shape.events) (sym (ap length e ∙ length-reverse p.pasts)) h.few;
  lanes = subst (InLanes script.commands) (sym (ap reverse e ∙ reverse-reverse p.pasts)) h.lanes;
  legal = subst (IsLegal shape) (history-deeds script p.pasts history e) h.legal;
}

pub play-is : (script : Script) (shape : Shape) → IsScriptFor script shape → (history : History) → history.events.items ≡ play_of script shape → IsHistory script shape history
play-is script shape proper = history-is script shape [] (all_played script shape) (plays-whole script shape proper).plays

pub play-orderly : (script : Script) (shape : Shape) → IsScriptFor script shape → (history : History) → history.events.items ≡ play_of script shape → IsOrderly shape (deeds script history)
play-orderly script shape proper history e = subst (IsOrderly shape) (history-deeds script (all_played script shape).pasts history e) ((plays-whole script shape proper).plays.orderly tt)

pub play-log : (script : Script) (shape : Shape) → IsScriptFor script shape → (history : History) → history.events.items ≡ play_of script shape → (all_played script shape).log ≡ log_given shape (deeds script history)
play-log script shape proper history e = (plays-whole script shape proper).plays.log_is ∙ ap (log_given shape) (history-deeds script (all_played script shape).pasts history e)

pub play-full : (script : Script) (shape : Shape) → IsScriptFor script shape → (all_played script shape).full ≡ true → length (play_of script shape) ≡ shape.events
play-full script shape proper f = length-reverse (all_played script shape).pasts ∙ (plays-whole script shape proper).plays.filled f

pub play-used : (script : Script) (shape : Shape) → IsScriptFor script shape → (all_played script shape).full ≡ false → AreUsed script.commands (reverse (play_of script shape))
play-used script shape proper f = subst (AreUsed script.commands) (sym (reverse-reverse (all_played script shape).pasts)) (used-up script shape [] (all_played script shape) (plays-whole script shape proper) f)

-- A script that ends in a settle is played to rest.
pub play-rests : (script : Script) (shape : Shape) → IsScriptFor script shape → (all_played script shape).full ≡ false → ends_in_settle script.commands ≡ true
    → is_quiescent shape (deeds_played script (all_played script shape)) (all_played script shape).log ≡ true
unfolding all_played log_given
play-rests script shape proper f e =
    settles-last script shape [] 0 script.commands nothing (λ i. let same : 0 + i ≡ i = omega arith in ap (slice_get script.commands) same) proper
    (record { log_is = refl; few = omega arith; filled = λ f. absurd (true≢false (sym f)); lanes = tt; legal = tt; orderly = λ o. o })
    (λ f n lt. absurd (omega (arith, lt))) (λ f n le. refl) e f

pub history-rests : (script : Script) (shape : Shape) → IsScriptFor script shape → (history : History) → history.events.items ≡ play_of script shape → (all_played script shape).full ≡ false → ends_in_settle script.commands ≡ true
    → is_quiescent shape (deeds script history) (log_given shape (deeds script history)) ≡ true
history-rests script shape proper history is f e =
    subst (λ past. is_quiescent shape past (log_given shape past) ≡ true) (history-deeds script (all_played script shape).pasts history is)
    (ap (is_quiescent shape (deeds_played script (all_played script shape))) (sym (plays-whole script shape proper).plays.log_is) ∙ play-rests script shape proper f e)

-- ---- the rest of a script, and what is left to do

pub rest-is : (script : Script) (shape : Shape) (start : List Deed) (p : Playing) → IsScriptFor script shape → IsPlayed script shape start p → IsPlayed script shape start (rest_played script shape 0 script.commands p)
rest-is script shape start p proper h = (plays-on script shape start p proper h).plays

pub rest-used : (script : Script) (shape : Shape) (start : List Deed) (p : Playing) → IsScriptFor script shape
    → IsPlayed script shape start p → (rest_played script shape 0 script.commands p).full ≡ false
    → AreUsed script.commands (rest_played script shape 0 script.commands p).pasts
rest-used script shape start p proper h f = used-up script shape start _ (plays-on script shape start p proper h) f

pub settled-is : (script : Script) (shape : Shape) (start : List Deed) (p : Playing) → IsPlayed script shape start p → IsPlayed script shape start (settled_down script shape p)
settled-is script shape start p h = (settled-on script shape start p h).plays
