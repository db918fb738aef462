-- What a play does in a settle.
use Rattle.std.proofs.Common.{◌≡◌, ℕ, zero, suc, ◌+◌, nat_lt, Bool, true, false, cond, List, [], ◌∷◌, ◌++◌, length, Option, Some, None, refl, sym, ap, ◌∙◌, subst, append_assoc}
use Rattle.std.proofs.lemmas.Option.{none-some as none_some, same_Some}
use Rattle.jc_types.specs.declared.actions.Script.{Script}
use Rattle.jc_types.specs.declared.runs.Event.{Event}
use Rattle.jc_types.specs.declared.runs.Event.TheVariants.{System}
use Rattle.jc_types.specs.declared.runs.Shape.{Shape}
use Rattle.jc_types.specs.declared.runs.Sys.{Sys}
use Rattle.jc_log.specs.Deeds.{Deed, act_of_event}
use Rattle.jc_history.specs.Available.{available}
use Rattle.jc_history.specs.Play.{Playing, deeds_played, does_if, event_played, first_event, on_and_on, settled_down, with_answer}
use Rattle.jc_history.specs.Replies.{gives, log_after, log_given}
use Rattle.jc_settle.specs.Serial.{IsFirst, IsSettling, SettlesTo}

-- A settle with one deed more in front.
earlier : (shape : Shape) (run : List Deed) (d : Deed) (past : List Deed) → IsSettling shape run (d ∷ past) → IsFirst d.act (available shape past (log_given shape past)) → IsSettling shape (run ++ d ∷ []) past
earlier shape [] d past h first = (first, tt)
earlier shape (x ∷ run) d past h first = (
  subst (λ l. IsFirst x.act (available shape l (log_given shape l))) (sym (append_assoc run (d ∷ []) past)) h.0,
  earlier shape run d past h.1 first,
)

pub with-first : (shape : Shape) (d : Deed) (past now : List Deed) → IsFirst d.act (available shape past (log_given shape past)) → SettlesTo shape (d ∷ past) now → SettlesTo shape past now
with-first shape d past now first h = record {
  run = h.run ++ d ∷ [];
  are = h.are ∙ sym (append_assoc h.run (d ∷ []) past);
  settling = earlier shape h.run d past h.settling first;
}

pub none-yet : (shape : Shape) (past : List Deed) → SettlesTo shape past past
none-yet shape past = record { run = []; are = refl; settling = tt }

module _ (script : Script) (shape : Shape) where
  abbrev next : Playing → Option Event
  next q = first_event (available shape (deeds_played script q) q.log)

  abbrev Logs : Playing → Type 0
  Logs q = q.log ≡ log_given shape (deeds_played script q)

  abbrev after : Event → Playing → Playing
  after event p = with_answer event (gives shape (deeds_played script p) p.log (act_of_event script.commands event)) p

  after-logs : (event : Event) (p : Playing) → Logs p → Logs (after event p)
  unfolding log_given
  after-logs event p e = ap (λ log. log_after shape (deeds_played script p) log (act_of_event script.commands event)) e

  first-does : (event : Event) (p : Playing) → Logs p → next p ≡ Some event → IsFirst (act_of_event script.commands event) (available shape (deeds_played script p) (log_given shape (deeds_played script p)))
  first-does event p e is = subst (λ log. IsFirst (act_of_event script.commands event) (available shape (deeds_played script p) log)) e (by (available shape (deeds_played script p) p.log) is)
    where
      by : (events : List Sys) → first_event events ≡ Some event → IsFirst (act_of_event script.commands event) events
      by [] g = absurd (none_some event g)
      by (head ∷ more) g = ap (act_of_event script.commands) (same_Some (System head) event g)

  turns : (n : ℕ) (p : Playing) → Logs p → SettlesTo shape (deeds_played script p) (deeds_played script (on_and_on script shape next n p))
  unfolding event_played
  turns zero p e = none-yet shape (deeds_played script p)
  turns (suc n) p e = by (next p) refl (λ q g. turns n q g)
    where
      turn : (event : Event) → next p ≡ Some event → (b : Bool) → ((q : Playing) → Logs q → SettlesTo shape (deeds_played script q) (deeds_played script (on_and_on script shape next n q)))
          → SettlesTo shape (deeds_played script p) (deeds_played script (on_and_on script shape next n (cond b (after event p) (record p { full = true }))))
      turn event is true more = with-first shape _ (deeds_played script p) _ (first-does event p e is) (more (after event p) (after-logs event p e))
      turn event is false more = more (record p { full = true }) e

      on : (event : Event) → next p ≡ Some event → (b : Bool) → ((q : Playing) → Logs q → SettlesTo shape (deeds_played script q) (deeds_played script (on_and_on script shape next n q)))
          → SettlesTo shape (deeds_played script p) (deeds_played script (cond b p (on_and_on script shape next n (event_played script shape event p))))
      on event is true more = none-yet shape (deeds_played script p)
      on event is false more = turn event is (nat_lt (length p.pasts) shape.events) more

      by : (o : Option Event) → next p ≡ o → ((q : Playing) → Logs q → SettlesTo shape (deeds_played script q) (deeds_played script (on_and_on script shape next n q)))
          → SettlesTo shape (deeds_played script p) (deeds_played script (does_if script shape next o (on_and_on script shape next n) p))
      by None is more = none-yet shape (deeds_played script p)
      by (Some event) is more = on event is p.full more

  -- Each event of it is the first that was available.
  pub settles : (p : Playing) → Logs p → SettlesTo shape (deeds_played script p) (deeds_played script (settled_down script shape p))
  unfolding settled_down
  settles p e = turns (shape.events + 1) p e
