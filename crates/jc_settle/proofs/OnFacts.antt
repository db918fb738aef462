-- A settle goes on: its next deed is legal, and what comes after more events comes after fewer too.
use Rattle.std.proofs.Common.{◌≡◌, ℕ, zero, suc, ◌+◌, Bool, true, List, [], ◌∷◌, Option, Some, None, slice_get, refl, sym, ap, ◌∙◌, subst, arith}
use Rattle.std.proofs.lemmas.Option.{none-some as none_some, same_Some as some_is}
use Rattle.std.specs.List.{AllByRecursion as Each}
use Rattle.std.specs.Option.{option_map}
use Rattle.jc_types.specs.declared.runs.Event.TheVariants as event
use Rattle.jc_types.specs.declared.runs.Shape.{Shape}
use Rattle.jc_types.specs.declared.runs.Sys.{Sys}
use Rattle.jc_types.specs.declared.runs.Sys.TheVariants as sys
use Rattle.jc_log.specs.Deeds.{Deed, act_of_system}
use Rattle.jc_history.specs.Available.{available, is_empty, is_quiescent}
use Rattle.jc_history.specs.Legal.{IsLegal, IsLegalNext, IsOfShape, MaySettle}
use Rattle.jc_history.specs.Play.{first_event}
use Rattle.jc_history.specs.Replies.{log_given, next_deed}
use Rattle.jc_order.proofs.AvailFacts.{IsOf, all-within}
use Rattle.jc_settle.specs.Serial.{IsFirst, SettlesTo}
use Rattle.jc_settle.specs.Settles.{ComesToRest, next_of_settle, settled_on, with_next}
use Rattle.jc_settle.proofs.TurnFacts.{none-yet, with-first}

-- ---- the next deed

-- The deed is that of the first event that is available.
pub record IsNext (shape : Shape) (past : List Deed) (d : Deed) : Type 0 where
  pub comes : Sys
  pub first : first_event (available shape past (log_given shape past)) ≡ Some (event.System comes)
  pub within : IsOfShape shape (act_of_system comes)
  pub is : next_deed shape past None (act_of_system comes) ≡ d

module _ (shape : Shape) (past : List Deed) where
  abbrev deed-of : Sys → Deed
  deed-of x = next_deed shape past None (act_of_system x)

  pub next-is : (d : Deed) → next_of_settle shape past ≡ Some d → IsNext shape past d
  next-is d e = by (available shape past (log_given shape past)) refl (all-within shape past (log_given shape past)) e
    where
      by : (xs : List Sys) → available shape past (log_given shape past) ≡ xs → Each (IsOf shape) xs → option_map deed-of (slice_get xs 0) ≡ Some d → IsNext shape past d
      by [] are all e = absurd (none_some d e)
      by (x ∷ xs) are all e = record { comes = x; first = ap first_event are; within = all.0; is = some_is (deed-of x) d e }

  -- Where there is none nothing is available.
  pub none-next : next_of_settle shape past ≡ None → is_quiescent shape past (log_given shape past) ≡ true
  none-next e = by (available shape past (log_given shape past)) e
    where
      by : (xs : List Sys) → option_map deed-of (slice_get xs 0) ≡ None → is_empty xs ≡ true
      by [] e = refl
      by (x ∷ xs) e = absurd (none_some (deed-of x) (sym e))

  may-settle : (x : Sys) (quiescent : Bool) → MaySettle (act_of_system x) quiescent
  may-settle (sys.List c kind) quiescent = tt
  may-settle (sys.Deliver c kind) quiescent = tt
  may-settle (sys.Begin c w) quiescent = tt
  may-settle (sys.Step c w) quiescent = tt
  may-settle sys.Node quiescent = tt
  may-settle (sys.Clock add) quiescent = tt

  of-event : (x : Sys) → IsOfShape shape (act_of_system x) → IsLegalNext shape past (deed-of x)
  unfolding log_given
  of-event x within = record { within = within; settled = may-settle x _; reply = refl; length = refl }

  pub next-legal : (d : Deed) → next_of_settle shape past ≡ Some d → IsLegalNext shape past d
  next-legal d e = let n = next-is d e in subst (IsLegalNext shape past) n.is (of-event n.comes n.within)

  pub next-first : (d : Deed) → next_of_settle shape past ≡ Some d → IsFirst d.act (available shape past (log_given shape past))
  next-first d e = by (available shape past (log_given shape past)) e
    where
      by : (xs : List Sys) → option_map deed-of (slice_get xs 0) ≡ Some d → IsFirst d.act xs
      by [] e = absurd (none_some d e)
      by (x ∷ xs) e = ap (λ (y : Deed). y.act) (some_is (deed-of x) d e)

-- ---- more events

module _ (shape : Shape) where
  -- Where nothing is available nothing comes.
  pub on-none : (n : ℕ) (past : List Deed) → next_of_settle shape past ≡ None → settled_on shape n past ≡ past
  on-none zero past e = refl
  on-none (suc n) past e = ap (λ o. settled_on shape n (with_next o past)) e ∙ on-none n past e

  pub on-some : (n : ℕ) (past : List Deed) (d : Deed) → next_of_settle shape past ≡ Some d → settled_on shape (suc n) past ≡ settled_on shape n (d ∷ past)
  on-some n past d e = ap (λ o. settled_on shape n (with_next o past)) e

  pub on-adds : (n m : ℕ) (past : List Deed) → settled_on shape (n + m) past ≡ settled_on shape m (settled_on shape n past)
  on-adds zero m past = ap (λ k. settled_on shape k past) none
    where
      none : zero + m ≡ m
      none = omega arith
  on-adds (suc n) m past = ap (λ k. settled_on shape k past) more ∙ on-adds n m (with_next (next_of_settle shape past) past)
    where
      more : suc n + m ≡ suc (n + m)
      more = omega arith

  pub on-legal : (n : ℕ) (past : List Deed) → IsLegal shape past → IsLegal shape (settled_on shape n past)
  on-legal zero past h = h
  on-legal (suc n) past h = on-legal n (with_next (next_of_settle shape past) past) (by (next_of_settle shape past) refl)
    where
      by : (o : Option Deed) → next_of_settle shape past ≡ o → IsLegal shape (with_next o past)
      by None e = h
      by (Some d) e = (next-legal shape past d e, h)

  pub on-settles : (n : ℕ) (past : List Deed) → SettlesTo shape past (settled_on shape n past)
  on-settles zero past = none-yet shape past
  on-settles (suc n) past = by (next_of_settle shape past) refl (λ now. on-settles n now)
    where
      by : (o : Option Deed) → next_of_settle shape past ≡ o → ((now : List Deed) → SettlesTo shape now (settled_on shape n now)) → SettlesTo shape past (settled_on shape n (with_next o past))
      by None e more = more past
      by (Some d) e more = with-first shape d past (settled_on shape n (d ∷ past)) (next-first shape past d e) (more (d ∷ past))

  -- ---- rest

  pub rest-earlier : (n : ℕ) (past : List Deed) → ComesToRest shape (settled_on shape n past) → ComesToRest shape past
  rest-earlier n past h = record {
    events = n + h.events;
    rests = subst (λ l. is_quiescent shape l (log_given shape l) ≡ true) (sym (on-adds n h.events past)) h.rests;
  }

  pub rest-before : (past : List Deed) (d : Deed) → next_of_settle shape past ≡ Some d → ComesToRest shape (d ∷ past) → ComesToRest shape past
  rest-before past d e h = rest-earlier 1 past (subst (ComesToRest shape) (sym (on-some 0 past d e)) h)
