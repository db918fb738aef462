-- The play of a script ends: each plain command is one event, each sync of a command ends, and each settle comes to rest.
use Rattle.std.proofs.Common.{◌≡◌, ◌⊎◌, inl, inr, ℕ, zero, suc, ◌+◌, ◌<◌, ◌≤◌, Bool, true, false, cond, ◌||◌, List, [], ◌∷◌, reverse, slice_get, take, Option, Some, None, refl, sym, ap, ◌∙◌, subst, arith, true≢false}
use Rattle.std.proofs.lemmas.Option.{none-some as none_some, same_Some}
use Rattle.std.specs.List.{AllByRecursion as Each, list_any}
use Rattle.std.specs.Option.{option_map}
use Rattle.jc_types.specs.declared.actions.Action1.{Action1}
use Rattle.jc_types.specs.declared.actions.Action1.TheVariants as act
use Rattle.jc_types.specs.declared.actions.Command.{Command}
use Rattle.jc_types.specs.declared.actions.Script.{Script}
use Rattle.jc_types.specs.declared.objects.Kind.TheVariants.{Jobs, Pods}
use Rattle.jc_types.specs.declared.runs.Event.{Event}
use Rattle.jc_types.specs.declared.runs.Event.TheVariants.{System, Command as Commands}
use Rattle.jc_types.specs.declared.runs.Shape.{Shape}
use Rattle.jc_types.specs.declared.runs.Sys.{Sys}
use Rattle.jc_types.specs.declared.runs.Sys.TheVariants as sys
use Rattle.jc_control.specs.Schedules.{log_end}
use Rattle.jc_log.specs.Deeds.{Deed, act_of_action, act_of_command, act_of_system}
use Rattle.jc_history.specs.Available.{available, is_empty, is_quiescent}
use Rattle.jc_history.specs.Legal.{IsOfShape, MaySettle}
use Rattle.jc_history.specs.Play.{Playing, after_begin, brought_up, commanded, deeds_played, event_played, first_event, has_just_begun, is_command, nothing, rest_played, settled_down, stepped_if, stepped_through, whole_play}
use Rattle.jc_history.specs.Replies.{log_after, log_given, next_deed, reply_given}
use Rattle.jc_order.specs.Plays.{AreWithin, IsScriptFor, PlayEnds, allowing}
use Rattle.jc_order.proofs.AvailFacts.{IsOf, all-within}
use Rattle.jc_settle.specs.Settles.{ComesToRest, settled_on, with_next}
use Rattle.jc_playing_out.proofs.SameFacts.{available-same}
use Rattle.jc_playing_out.proofs.DoneFacts.{Done, Good, LoopDone, added, done-then, event-done, good-added, loop-done}
use Rattle.jc_playing_out.proofs.BringFacts.{brings-up, steps-through, system-deed}

-- ---- a settle

module _ (script : Script) (shape : Shape) where
  abbrev settle-in : ℕ → Playing → Option Event
  settle-in n q = first_event (available (allowing n shape) (deeds_played script q) q.log)

  abbrev settle-now : Playing → Option Event
  settle-now q = first_event (available shape (deeds_played script q) (log_given shape (deeds_played script q)))

  -- After so many events nothing is available.
  record RestsAfter (k : ℕ) (p : Playing) : Type 0 where
    ready : Good script shape p
    rests : is_quiescent shape (settled_on shape k (deeds_played script p)) (log_given shape (settled_on shape k (deeds_played script p))) ≡ true

  settle-same : (n k : ℕ) (p : Playing) → RestsAfter k p → settle-in n p ≡ settle-now p
  settle-same n k p h =
      ap first_event (available-same n shape (deeds_played script p) p.log)
      ∙ ap (λ log. first_event (available shape (deeds_played script p) log)) h.ready.log_is

  rests-none : (p : Playing) (event : Event) → RestsAfter zero p → settle-now p ≡ Some event → ⊥
  rests-none p event h e = by (available shape (deeds_played script p) (log_given shape (deeds_played script p))) h.rests e
    where
      by : (xs : List Sys) → is_empty xs ≡ true → first_event xs ≡ Some event → ⊥
      by [] r e = none_some event e
      by (x ∷ xs) r e = true≢false (sym r)

  may-always : (x : Sys) (quiescent : Bool) → MaySettle (act_of_system x) quiescent
  may-always (sys.List c kind) quiescent = tt
  may-always (sys.Deliver c kind) quiescent = tt
  may-always (sys.Begin c w) quiescent = tt
  may-always (sys.Step c w) quiescent = tt
  may-always sys.Node quiescent = tt
  may-always (sys.Clock add) quiescent = tt

  -- The deed of an event in the play is that of a settle.
  deed-is : (p : Playing) → Good script shape p → (x : Sys) → system-deed script shape p x ≡ next_deed shape (deeds_played script p) None (act_of_system x)
  deed-is p h x = λ i. record {
    lane = None;
    act = act_of_system x;
    reply = reply_given shape (deeds_played script p) (h.log_is i) (act_of_system x);
    length = log_end (log_after shape (deeds_played script p) (h.log_is i) (act_of_system x));
  }

  rests-less : (k : ℕ) (p : Playing) (event : Event) → RestsAfter (suc k) p → settle-now p ≡ Some event → RestsAfter k (added script shape event p)
  rests-less k p event h e =
      by (available shape (deeds_played script p) (log_given shape (deeds_played script p))) refl e
      (all-within shape (deeds_played script p) (log_given shape (deeds_played script p)))
    where
      deeds-then : List Sys → List Deed
      deeds-then xs =
          with_next (option_map (λ some. next_deed shape (deeds_played script p) None (act_of_system some)) (slice_get xs 0))
          (deeds_played script p)

      goes : (x : Sys) (xs : List Sys) → available shape (deeds_played script p) (log_given shape (deeds_played script p)) ≡ x ∷ xs → IsOfShape shape (act_of_system x) → RestsAfter k (added script shape (System x) p)
      goes x xs are within = record {
        ready = good-added script shape (System x) p h.ready within (may-always x (is_quiescent shape (deeds_played script p) p.log));
        rests = subst (λ past. is_quiescent shape (settled_on shape k past) (log_given shape (settled_on shape k past)) ≡ true)
            (ap deeds-then are ∙ ap (λ d. d ∷ deeds_played script p) (sym (deed-is p h.ready x))) h.rests;
      }

      by : (xs : List Sys) → available shape (deeds_played script p) (log_given shape (deeds_played script p)) ≡ xs → first_event xs ≡ Some event → Each (IsOf shape) xs → RestsAfter k (added script shape event p)
      by [] are e within = absurd (none_some event e)
      by (x ∷ xs) are e within = subst (λ some. RestsAfter k (added script shape some p)) (same_Some (System x) event e) (goes x xs are within.0)

  -- A settle ends at rest, where it comes to rest.
  record SettleDone (p : Playing) : Type 0 where
    done : Done script shape (λ n q. settled_down script (allowing n shape) q) p
    quiet : is_quiescent shape (deeds_played script done.to) done.to.log ≡ true

  settles-down : (p : Playing) → Good script shape p → ComesToRest shape (deeds_played script p) → SettleDone p
  unfolding settled_down
  settles-down p h rests =
      of (loop-done script shape settle-in settle-now RestsAfter (λ k q g. g.ready) settle-same rests-none rests-less rests.events p (record { ready = h; rests = rests.rests }))
    where
      empty : (xs : List Sys) → first_event xs ≡ None → is_empty xs ≡ true
      empty [] e = refl
      empty (x ∷ xs) e = absurd (none_some (System x) (sym e))

      of : LoopDone script shape settle-in settle-now RestsAfter (λ k q g. g.ready) settle-same rests-none rests-less p → SettleDone p
      of l = record {
        done = l.done;
        quiet =
            ap (is_quiescent shape (deeds_played script l.done.to)) l.done.good.log_is
            ∙ empty (available shape (deeds_played script l.done.to) (log_given shape (deeds_played script l.done.to))) l.stops;
      }

-- ---- commands

-- Each settle comes to rest, or something else is so of the play before it.
module _ (script : Script) (shape : Shape) (Else : Playing → Type 0) (rests : (q : Playing) → Good script shape q → ComesToRest shape (deeds_played script q) ⊎ Else q) where
  -- What follows the begin of a sync.
  after-done : (c w : ℕ) → c < shape.controllers → w < shape.workers → (p : Playing) → Good script shape p → Done script shape (λ n q. after_begin script (allowing n shape) c w q) p
  after-done c w lt less p h = by (has_just_begun p.pasts) refl
    where
      begun : (n : ℕ) (b : Bool) → has_just_begun p.pasts ≡ b → after_begin script (allowing n shape) c w p ≡ stepped_if script (allowing n shape) c w b p
      begun n b s =
          ap (λ full. cond full p (stepped_if script (allowing n shape) c w (has_just_begun p.pasts) p)) h.unfull
          ∙ ap (λ some. stepped_if script (allowing n shape) c w some p) s

      of : has_just_begun p.pasts ≡ true → Done script shape (λ n q. stepped_through script (allowing n shape) c w q) p → Done script shape (λ n q. after_begin script (allowing n shape) c w q) p
      of s d = record { to = d.to; good = d.good; from = d.from; same = λ n le. begun n true s ∙ d.same n le }

      by : (b : Bool) → has_just_begun p.pasts ≡ b → Done script shape (λ n q. after_begin script (allowing n shape) c w q) p
      by true s = of s (steps-through script shape c w lt less p h)
      by false s = record { to = p; good = h; from = 0; same = λ n le. begun n false s }

  module _ (lane place : ℕ) (command : Command) (stands : slice_get script.commands place ≡ Some command) (within : IsOfShape shape (act_of_action command.action)) where
    own-done : (p : Playing) → Good script shape p → MaySettle (act_of_action command.action) (is_quiescent shape (deeds_played script p) p.log)
        → Done script shape (λ n q. event_played script (allowing n shape) (Commands lane place) q) p
    own-done p h m =
        event-done script shape (Commands lane place) p h (subst (λ o. IsOfShape shape (act_of_command o)) (sym stands) within)
        (subst (λ o. MaySettle (act_of_command o) (is_quiescent shape (deeds_played script p) p.log)) (sym stands) m)

    settle-done : (p : Playing) → Good script shape p → command.action ≡ act.Settle → ComesToRest shape (deeds_played script p)
        → Done script shape (λ n q. commanded script (allowing n shape) act.Settle (Commands lane place) q) p
    settle-done p h e rest =
        done-then script shape (λ n q. settled_down script (allowing n shape) q) (λ n q. event_played script (allowing n shape) (Commands lane place) q) p settled.done
        (own-done settled.done.to settled.done.good
        (subst (λ action. MaySettle (act_of_action action) (is_quiescent shape (deeds_played script settled.done.to) settled.done.to.log)) (sym e) settled.quiet))
      where
        settled : SettleDone script shape p
        settled = settles-down script shape p h rest

    sync-done : (p : Playing) → Good script shape p → (c w : ℕ) → command.action ≡ act.Sync c w → Done script shape (λ n q. commanded script (allowing n shape) (act.Sync c w) (Commands lane place) q) p
    sync-done p h c w e =
        done-then script shape
        (λ n q. event_played script (allowing n shape) (Commands lane place) (brought_up script (allowing n shape) c Pods (brought_up script (allowing n shape) c Jobs q)))
        (λ n q. after_begin script (allowing n shape) c w q) p begun (after-done c w both.0 both.1 begun.to begun.good)
      where
        both : (c < shape.controllers) × (w < shape.workers)
        both = subst (λ action. IsOfShape shape (act_of_action action)) e within

        jobs : Done script shape (λ n q. brought_up script (allowing n shape) c Jobs q) p
        jobs = brings-up script shape c Jobs both.0 p h

        up : Done script shape (λ n q. brought_up script (allowing n shape) c Pods (brought_up script (allowing n shape) c Jobs q)) p
        up =
            done-then script shape (λ n q. brought_up script (allowing n shape) c Jobs q) (λ n q. brought_up script (allowing n shape) c Pods q) p jobs
            (brings-up script shape c Pods both.0 jobs.to jobs.good)

        begun : Done script shape (λ n q. event_played script (allowing n shape) (Commands lane place) (brought_up script (allowing n shape) c Pods (brought_up script (allowing n shape) c Jobs q))) p
        begun =
            done-then script shape (λ n q. brought_up script (allowing n shape) c Pods (brought_up script (allowing n shape) c Jobs q))
            (λ n q. event_played script (allowing n shape) (Commands lane place) q) p up
            (own-done up.to up.good (subst (λ action. MaySettle (act_of_action action) (is_quiescent shape (deeds_played script up.to) up.to.log)) (sym e) tt))

    command-done : (p : Playing) → Good script shape p → (action : Action1) → command.action ≡ action → Done script shape (λ n q. commanded script (allowing n shape) action (Commands lane place) q) p ⊎ (Else p × (command.action ≡ act.Settle))
    command-done p h (act.Sync c w) e = inl (sync-done p h c w e)
    command-done p h act.Settle e = by (rests p h)
      where
        by : ComesToRest shape (deeds_played script p) ⊎ Else p → Done script shape (λ n q. commanded script (allowing n shape) act.Settle (Commands lane place) q) p ⊎ (Else p × (command.action ≡ act.Settle))
        by (inl rest) = inl (settle-done p h e rest)
        by (inr found) = inr (found, e)
    command-done p h (act.Create key spec) e = inl (own-done p h (subst (λ action. MaySettle (act_of_action action) (is_quiescent shape (deeds_played script p) p.log)) (sym e) tt))
    command-done p h other e = inl (own-done p h (subst (λ action. MaySettle (act_of_action action) (is_quiescent shape (deeds_played script p) p.log)) (sym e) tt))

  -- The command at the place, if it was not played yet.
  abbrev its-turn : ℕ → Command → ℕ → Playing → Playing
  its-turn place command n q = cond (q.full || list_any (is_command place) q.pasts) q (commanded script (allowing n shape) command.action (Commands command.lane place) q)

  turn-done : (place : ℕ) (command : Command) → slice_get script.commands place ≡ Some command → IsOfShape shape (act_of_action command.action) → (p : Playing) → Good script shape p
      → Done script shape (its-turn place command) p ⊎ (Else p × (command.action ≡ act.Settle))
  turn-done place command stands within p h = by (list_any (is_command place) p.pasts) refl
    where
      plays : (n : ℕ) (b : Bool) → list_any (is_command place) p.pasts ≡ b → its-turn place command n p ≡ cond b p (commanded script (allowing n shape) command.action (Commands command.lane place) p)
      plays n b s =
          ap (λ full. cond (full || list_any (is_command place) p.pasts) p (commanded script (allowing n shape) command.action (Commands command.lane place) p)) h.unfull
          ∙ ap (λ some. cond some p (commanded script (allowing n shape) command.action (Commands command.lane place) p)) s

      of : list_any (is_command place) p.pasts ≡ false → Done script shape (λ n q. commanded script (allowing n shape) command.action (Commands command.lane place) q) p ⊎ (Else p × (command.action ≡ act.Settle))
          → Done script shape (its-turn place command) p ⊎ (Else p × (command.action ≡ act.Settle))
      of s (inl d) = inl (record { to = d.to; good = d.good; from = d.from; same = λ n le. plays n false s ∙ d.same n le })
      of s (inr found) = inr found

      by : (b : Bool) → list_any (is_command place) p.pasts ≡ b → Done script shape (its-turn place command) p ⊎ (Else p × (command.action ≡ act.Settle))
      by true s = inl (record { to = p; good = h; from = 0; same = λ n le. plays n true s })
      by false s = of s (command-done command.lane place command stands within p h command.action refl)

  -- ---- all commands

  -- One command more is played behind the first ones.
  one-more : (n place k : ℕ) (commands : List Command) (command : Command) (p : Playing) → slice_get commands k ≡ Some command
      → rest_played script (allowing n shape) place (take (suc k) commands) p ≡ its-turn (place + k) command n (rest_played script (allowing n shape) place (take k commands) p)
  one-more n place zero [] command p at = absurd (none_some command at)
  one-more n place (suc k) [] command p at = absurd (none_some command at)
  one-more n place zero (first ∷ commands) command p at =
      (let same : place ≡ place + 0 = omega arith in ap (λ m. its-turn m first n p) same) ∙ ap (λ c. its-turn (place + 0) c n p) (same_Some first command at)
  one-more n place (suc k) (first ∷ commands) command p at =
      one-more n (place + 1) k commands command (its-turn place first n p) at
      ∙ (let same : place + 1 + k ≡ place + suc k = omega arith in
      ap (λ m. its-turn m command n (rest_played script (allowing n shape) (place + 1) (take k commands) (its-turn place first n p))) same)

  -- The first commands are played, and the settle that comes next does not come to rest.
  pub record GoesOn : Type 0 where
    pub place : ℕ
    pub events : ℕ
    pub to : Playing
    pub plays : (n : ℕ) → events ≤ n → rest_played script (allowing n shape) 0 (take place script.commands) nothing ≡ to
    pub next : Command
    pub stands : slice_get script.commands place ≡ Some next
    pub settles : next.action ≡ act.Settle
    pub found : Else to

  rest-done : (place : ℕ) (commands : List Command) (p : Playing) → ((i : ℕ) → slice_get script.commands (place + i) ≡ slice_get commands i) → AreWithin shape commands → Good script shape p
      → (events : ℕ) → ((n : ℕ) → events ≤ n → rest_played script (allowing n shape) 0 (take place script.commands) nothing ≡ p)
      → Done script shape (λ n q. rest_played script (allowing n shape) place commands q) p ⊎ GoesOn
  rest-done place [] p at within h events before = inl (record { to = p; good = h; from = 0; same = λ n le. refl })
  rest-done place (command ∷ commands) p at within h events before =
      by (turn-done place command stands within.0 p h) (λ turn. rest-done (place + 1) commands turn.to further within.1 turn.good (events + turn.from) (reached turn))
    where
      stands : slice_get script.commands place ≡ Some command
      stands = (let same : place ≡ place + 0 = omega arith in ap (slice_get script.commands) same) ∙ at 0

      further : (i : ℕ) → slice_get script.commands (place + 1 + i) ≡ slice_get commands i
      further i = (let same : place + 1 + i ≡ place + suc i = omega arith in ap (slice_get script.commands) same) ∙ at (suc i)

      reached : (turn : Done script shape (its-turn place command) p) (n : ℕ) → events + turn.from ≤ n → rest_played script (allowing n shape) 0 (take (place + 1) script.commands) nothing ≡ turn.to
      reached turn n le =
          (let same : place + 1 ≡ suc place = omega arith in ap (λ m. rest_played script (allowing n shape) 0 (take m script.commands) nothing) same)
          ∙ one-more n 0 place script.commands command nothing stands
          ∙ (let same : 0 + place ≡ place = omega arith in ap (λ m. its-turn m command n (rest_played script (allowing n shape) 0 (take place script.commands) nothing)) same)
          ∙ ap (its-turn place command n) (before n (omega (arith, le)))
          ∙ turn.same n (omega (arith, le))

      with-rest : (turn : Done script shape (its-turn place command) p) → Done script shape (λ n q. rest_played script (allowing n shape) (place + 1) commands q) turn.to ⊎ GoesOn
          → Done script shape (λ n q. rest_played script (allowing n shape) place (command ∷ commands) q) p ⊎ GoesOn
      with-rest turn (inl rest) = inl (done-then script shape (its-turn place command) (λ n q. rest_played script (allowing n shape) (place + 1) commands q) p turn rest)
      with-rest turn (inr on) = inr on

      by : Done script shape (its-turn place command) p ⊎ (Else p × (command.action ≡ act.Settle))
          → ((turn : Done script shape (its-turn place command) p) → Done script shape (λ n q. rest_played script (allowing n shape) (place + 1) commands q) turn.to ⊎ GoesOn)
          → Done script shape (λ n q. rest_played script (allowing n shape) place (command ∷ commands) q) p ⊎ GoesOn
      by (inl turn) more = with-rest turn (more turn)
      by (inr fails) more = inr (record { place = place; events = events; to = p; plays = before; next = command; stands = stands; settles = fails.1; found = fails.0 })

  start-good : Good script shape nothing
  unfolding log_given
  start-good = record { unfull = refl; log_is = refl; legal = tt }

  pub play-ends : IsScriptFor script shape → PlayEnds script shape ⊎ GoesOn
  unfolding whole_play
  play-ends proper = of (rest-done 0 script.commands nothing (λ i. let same : 0 + i ≡ i = omega arith in ap (slice_get script.commands) same) proper start-good 0 (λ n le. refl))
    where
      of : Done script shape (λ n q. rest_played script (allowing n shape) 0 script.commands q) nothing ⊎ GoesOn → PlayEnds script shape ⊎ GoesOn
      of (inl d) = inl (record {
        events = d.from;
        unfull = λ n le. ap (λ (p : Playing). p.full) (d.same n le) ∙ d.good.unfull;
        same = λ n le. ap (λ (p : Playing). reverse p.pasts) (d.same n le ∙ sym (d.same d.from (omega arith)));
      })
      of (inr on) = inr on

-- Where each settle comes to rest, the play ends.
pub play-rests : (script : Script) (shape : Shape) → ((q : Playing) → Good script shape q → ComesToRest shape (deeds_played script q)) → IsScriptFor script shape → PlayEnds script shape
play-rests script shape rests proper = by (play-ends script shape (λ q. ⊥) (λ q good. inl (rests q good)) proper)
  where
    by : PlayEnds script shape ⊎ GoesOn script shape (λ q. ⊥) (λ q good. inl (rests q good)) → PlayEnds script shape
    by (inl ends) = ends
    by (inr on) = absurd on.found
