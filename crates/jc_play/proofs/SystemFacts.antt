-- The first event that is available: it may come next, and an orderly history stays orderly with it.
use Rattle.std.proofs.Common.{◌≡◌, ℕ, ◌<◌, ◌==◌, Bool, true, false, cond, not, length, arith, List, [], ◌∷◌, Option, Some, None, is_none, is_some, refl, sym, ap, ◌∙◌, subst, true≢false}
use Rattle.std.specs.Prelude.{IfSome}
use Rattle.std.proofs.lemmas.Bool.{eqb-false}
use Rattle.std.specs.List.{AllByRecursion as Each}
use Rattle.std.specs.Option.{option_or}
use Rattle.jc_types.specs.declared.numbers.Version.{Version}
use Rattle.jc_types.specs.declared.objects.Entry.{Entry}
use Rattle.jc_types.specs.declared.objects.Kind.{Kind}
use Rattle.jc_types.specs.declared.runs.Event.{Event}
use Rattle.jc_types.specs.declared.runs.Event.TheVariants.{System}
use Rattle.jc_types.specs.declared.runs.Shape.{Shape}
use Rattle.jc_types.specs.declared.runs.Sys.{Sys}
use Rattle.jc_types.specs.declared.runs.Sys.TheVariants as sys
use Rattle.jc_log.specs.Deeds.{Deed, act_of_event, act_of_system, lane_of}
use Rattle.jc_history.specs.Available.{IsOrderly, WasAvailable, available, but_clock, clock_events, least_of_all}
use Rattle.jc_history.specs.Diaries.{moment}
use Rattle.jc_history.specs.Legal.{IsLegal, MaySettle}
use Rattle.jc_history.specs.Numbers.{number}
use Rattle.jc_history.specs.Play.{brings, first_event, next_step}
use Rattle.jc_history.specs.Registers.{register}
use Rattle.jc_history.specs.Replies.{diary}
use Rattle.jc_order.proofs.AvailFacts.{Is, IsOf, all-within, any-here, delivery-in, list-in, step-in}
use Rattle.jc_order.proofs.EndFacts.{numbers-within}
use Rattle.jc_order.specs.Ends.{IsAtMost}
use Rattle.jc_runs.specs.Seen.{Admits, IsDoable, Seen, deeds_seen, happened, log_seen}
use Rattle.jc_play.specs.Turns.{IsComing, is_quiescent_seen}
use Rattle.jc_play.proofs.FirstFacts.{first-clock, none-empty}

-- All that is available.
abbrev events_of : Seen → List Sys
events_of seen = available seen.shape (deeds_seen seen) (log_seen seen)

-- What the system does is no settle, and the machine does it.
may-settle : (system : Sys) (seen : Seen) → MaySettle (act_of_system system) (is_quiescent_seen seen)
may-settle (sys.List controller kind) seen = tt
may-settle (sys.Deliver controller kind) seen = tt
may-settle (sys.Begin controller worker) seen = tt
may-settle (sys.Step controller worker) seen = tt
may-settle sys.Node seen = tt
may-settle (sys.Clock add) seen = tt

pub doable : (system : Sys) → IsDoable (act_of_system system)
doable (sys.List controller kind) = tt
doable (sys.Deliver controller kind) = tt
doable (sys.Begin controller worker) = tt
doable (sys.Step controller worker) = tt
doable sys.Node = tt
doable (sys.Clock add) = tt

some-is : (x y : Event) → Some x ≡ Some y → x ≡ y
some-is x y e = ap (λ o. elim o as (λ o. Event) [ None ↦ x | Some z ↦ z ]) e

module _ (seen : Seen) (event : Event) where
  first-admits : (events : List Sys) → events_of seen ≡ events → first_event events ≡ Some event → Admits seen event
  first-admits [] s e = absurd (true≢false (sym (ap is_some e)))
  first-admits (head ∷ more) s e = subst (λ event. Admits seen event) (some-is (System head) event e) (record {
    next = tt;
    within = (subst (Each (IsOf seen.shape)) s (all-within seen.shape (deeds_seen seen) (log_seen seen))).0;
    settled = may-settle head seen;
    doable = doable head;
  })

  -- It may come next.
  pub admits-first : first_event (events_of seen) ≡ Some event → Admits seen event
  admits-first e = first-admits (events_of seen) refl e

-- An event of the system that is available may come next.
pub coming-admits : (seen : Seen) (event : Event) → IsComing seen event → Admits seen event
coming-admits seen event h = subst (λ event. Admits seen event) (sym h.is) (record { next = tt; within = h.within; settled = may-settle h.system seen; doable = doable h.system })

-- An orderly history stays orderly with it.
pub coming-orderly : (seen : Seen) (event : Event) → IsComing seen event → IsOrderly seen.shape (deeds_seen seen) → IsOrderly seen.shape (deeds_seen (happened seen event))
coming-orderly seen event h o = (subst (λ event. WasAvailable (act_of_event seen.script.commands event) (lane_of event) (events_of seen)) (sym h.is) h.among, o)

-- The first that is available is one.
pub first-coming : (seen : Seen) (event : Event) → first_event (events_of seen) ≡ Some event → IsComing seen event
first-coming seen event e = by (events_of seen) refl e
  where
    by : (events : List Sys) → events_of seen ≡ events → first_event events ≡ Some event → IsComing seen event
    by [] s e = absurd (true≢false (sym (ap is_some e)))
    by (head ∷ more) s e = record {
      system = head;
      is = sym (some-is (System head) event e);
      within = (subst (Each (IsOf seen.shape)) s (all-within seen.shape (deeds_seen seen) (log_seen seen))).0;
      among = subst (Is (act_of_system head)) (sym s) (any-here (λ other. act_of_system other ≡ act_of_system head) head more refl);
    }

-- What brings a cache on is one.
pub bring-coming : (seen : Seen) (c : ℕ) (kind : Kind) → c < seen.shape.controllers
    → IsLegal seen.shape (deeds_seen seen) → (o : Option Event) → o
    ≡ brings c kind (log_seen seen) (number kind (diary seen.shape c (deeds_seen seen)))
    → IfSome o (λ event. IsComing seen event)
bring-coming seen c kind lt legal o e = by (number kind (diary seen.shape c (deeds_seen seen))) refl (numbers-within seen.shape c (deeds_seen seen) legal kind) o e
  where
    by : (n : Option Version) → number kind (diary seen.shape c (deeds_seen seen)) ≡ n → IsAtMost (length (log_seen seen)) n → (o : Option Event) → o ≡ brings c kind (log_seen seen) n → IfSome o (λ event. IsComing seen event)
    by None s w o e = subst (λ o. IfSome o (λ event. IsComing seen event)) (sym e) (record { system = sys.List c kind; is = refl; within = lt; among = list-in seen.shape (deeds_seen seen) (log_seen seen) c lt kind s })
    by (Some version) s w o e = at-end (version.0 == length (log_seen seen)) refl o e
      where
        at-end : (b : Bool) → (version.0 == length (log_seen seen)) ≡ b → (o : Option Event) → o ≡ cond b None (Some (System (sys.Deliver c kind))) → IfSome o (λ event. IsComing seen event)
        at-end true t o e = subst (λ o. IfSome o (λ event. IsComing seen event)) (sym e) tt
        at-end false t o e = subst (λ o. IfSome o (λ event. IsComing seen event)) (sym e) (record {
          system = sys.Deliver c kind;
          is = refl;
          within = lt;
          among = delivery-in seen.shape (deeds_seen seen) (log_seen seen) c lt kind version s (let other = eqb-false version.0 (length (log_seen seen)) t in omega (arith, w, other));
        })

-- So is a step of a worker that has a sync.
pub step-coming : (seen : Seen) (c w : ℕ) → c < seen.shape.controllers → w < seen.shape.workers → (o : Option Event) → o ≡ next_step c w (is_some (register w (diary seen.shape c (deeds_seen seen)))) → IfSome o (λ event. IsComing seen event)
step-coming seen c w lt less o e = by (is_some (register w (diary seen.shape c (deeds_seen seen)))) refl o e
  where
    by : (b : Bool) → is_some (register w (diary seen.shape c (deeds_seen seen))) ≡ b → (o : Option Event) → o ≡ next_step c w b → IfSome o (λ event. IsComing seen event)
    by true s o e = subst (λ o. IfSome o (λ event. IsComing seen event)) (sym e) (record { system = sys.Step c w; is = refl; within = (lt, less); among = step-in seen.shape (deeds_seen seen) (log_seen seen) c lt w less s })
    by false s o e = subst (λ o. IfSome o (λ event. IsComing seen event)) (sym e) tt

-- So it is with what was found.
pub found-admits : (seen : Seen) (o : Option Event) → o ≡ first_event (events_of seen) → IfSome o (λ event. Admits seen event)
found-admits seen None e = tt
found-admits seen (Some event) e = admits-first seen event (sym e)

-- The first of all that is available, by the first of all but the clock.
pub available-first : (shape : Shape) (past : List Deed) (log : List Entry) (o : Option Event) → o ≡ first_event (but_clock shape past log)
    → option_or o (first_event (clock_events (moment shape past) (least_of_all shape past log))) ≡ first_event (available shape past log)
unfolding available
available-first shape past log o e =
    ap (λ o. option_or o (first_event (clock_events (moment shape past) (least_of_all shape past log)))) e
    ∙ sym (first-clock (but_clock shape past log) (clock_events (moment shape past) (least_of_all shape past log)))

-- Whether nothing is available, by what was found.
pub rest-test : (seen : Seen) (o : Option Event) (b : Bool) → o ≡ first_event (events_of seen) → is_some o ≡ not b → b ≡ is_quiescent_seen seen
rest-test seen o b e t = by o b t ∙ ap is_none e ∙ none-empty (events_of seen)
  where
    by : (o : Option Event) (b : Bool) → is_some o ≡ not b → b ≡ is_none o
    by None true t = refl
    by None false t = absurd (true≢false (sym t))
    by (Some event) true t = absurd (true≢false t)
    by (Some event) false t = refl

-- Nothing is available where none was found.
pub quiet : (seen : Seen) → None ≡ first_event (events_of seen) → is_quiescent_seen seen ≡ true
quiet seen e = sym (none-empty (events_of seen)) ∙ ap is_none (sym e)
