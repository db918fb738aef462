-- What is left for a player of a threaded run to do.
use Rattle.std.proofs.Common.{◌≡◌, ℕ, ◌+◌, ◌%◌, ◌<◌, ◌==◌, Bool, true, false, cond, not, ◌&&◌, ◌||◌, List, [], ◌∷◌, filter, slice_get, Option, Some, None, is_some, inr, refl, sym, ap, ◌∙◌, subst, true≢false, eqb-true}
use Rattle.std.proofs.Math.Nat.{suc-mod}
use Rattle.std.proofs.Math.Numerals.{add-one}
use Rattle.std.specs.List.{list_any}
use Rattle.std.specs.Prelude.{IfSome}
use Rattle.jc_types.specs.declared.actions.Command.{Command}
use Rattle.jc_types.specs.declared.runs.Event.{Event}
use Rattle.jc_types.specs.declared.runs.Past.{Past}
use Rattle.jc_types.specs.declared.runs.Sys.{Sys}
use Rattle.jc_types.specs.declared.runs.Sys.TheVariants as sys
use Rattle.jc_history.specs.Available.{available}
use Rattle.jc_history.specs.Legal.{AreUsed, lane_count, next_command, places_from}
use Rattle.jc_history.specs.Play.{first_event}
use Rattle.jc_runs.specs.Seen.{Seen, deeds_seen, log_seen}
use Rattle.jc_core.specs.Places.{AreUsedUp, most_lanes}
use Rattle.jc_core.specs.Actors.{IsOfActor}
use Rattle.jc_core.specs.Actor.TheVariants as actor
use Rattle.jc_core.specs.Slot.{Slot}
use Rattle.jc_core.specs.Slots.{has_holder, is_slot_of, is_unheld, unheld_seen}
use Rattle.jc_core.specs.Turns.{is_quiescent_seen}
use Rattle.jc_core.proofs.SystemFacts.{quiet}
use Rattle.jc_seats.specs.declared.players.Player.{Player}
use Rattle.jc_seats.specs.Names.{AreLanes, AreLanesBelow}
use Rattle.jc_core.specs.Shared.{Shared}
use Rattle.jc_seats.specs.PlayerTurns.{HasHappened, IsLaneOf, IsOfLanes, IsOwnEvent}

-- ---- nobody holds a register

none-held : (slots : List Slot) (c w : ℕ) → list_any (λ (slot : Slot). is_some slot.holder) slots ≡ false → has_holder slots c w ≡ false
none-held [] c w h = refl
none-held (slot ∷ slots) c w h = by (is_slot_of c w slot) (is_some slot.holder) h (none-held slots c w)
  where
    by : (a b : Bool) → (b || list_any (λ (slot : Slot). is_some slot.holder) slots) ≡ false → (list_any (λ (slot : Slot). is_some slot.holder) slots ≡ false → has_holder slots c w ≡ false) → ((a && b) || has_holder slots c w) ≡ false
    by a true h ih = absurd (true≢false h)
    by true false h ih = ih h
    by false false h ih = ih h

module _ (slots : List Slot) (h : list_any (λ (slot : Slot). is_some slot.holder) slots ≡ false) where
  unheld : (event : Sys) → is_unheld slots event ≡ true
  unheld (sys.Step c w) = ap not (none-held slots c w h)
  unheld other = refl

  all-unheld : (events : List Sys) → filter (is_unheld slots) events ≡ events
  all-unheld [] = refl
  all-unheld (e ∷ es) = ap (λ b. cond b (e ∷ filter (is_unheld slots) es) (filter (is_unheld slots) es)) (unheld e) ∙ ap (λ more. e ∷ more) (all-unheld es)

  -- Where nothing but the steps of held registers is available, nothing is.
  pub rests : (seen : Seen) → first_event (unheld_seen slots seen) ≡ None → is_quiescent_seen seen ≡ true
  rests seen none = quiet seen (sym none ∙ ap first_event (all-unheld (available seen.shape (deeds_seen seen) (log_seen seen))))

-- ---- events of a player

-- The first that is not held is an own event.
pub first-own : (player : Player) (inside old : Shared) (found : Option Event) → inside ≡ old → found ≡ first_event (unheld_seen inside.slots inside.seen) → IfSome found (λ event. IsOwnEvent player old event)
first-own player inside old None e first = tt
first-own player inside old (Some event) e first = inr (subst (λ (s : Shared). first_event (unheld_seen s.slots s.seen) ≡ Some event) e (sym first))

-- What has happened, where nothing has changed before.
pub went-own : (player : Player) (between old new : Shared) (event : Event) → between ≡ old → HasHappened event between new → IsOwnEvent player between event → (event : Event) × HasHappened event old new × IsOwnEvent player old event
went-own player between old new event e happened own = (event, subst (λ (s : Shared). HasHappened event s new) e happened, subst (λ (s : Shared). IsOwnEvent player s event) e own)

-- ---- lanes

-- The place of a lane's command is there only where the lane is below the bound of all.
pub lane-below : (bound lane p : ℕ) (commands : List Command) (k n : ℕ) → AreLanesBelow bound commands → slice_get (places_from lane p commands) k ≡ Some n → lane < bound
lane-below bound lane p [] k n all e = absurd (true≢false (sym (ap is_some e)))
lane-below bound lane p (command ∷ commands) k n all e = by (command.lane == lane) refl k e (λ k e. lane-below bound lane (p + 1) commands k n all.1 e)
  where
    by : (b : Bool) → (command.lane == lane) ≡ b → (k : ℕ) → slice_get (cond b (p ∷ places_from lane (p + 1) commands) (places_from lane (p + 1) commands)) k ≡ Some n
        → ((k : ℕ) → slice_get (places_from lane (p + 1) commands) k ≡ Some n → lane < bound) → lane < bound
    by true s k e more = subst (λ l. l < bound) (eqb-true command.lane lane s) all.0
    by false s k e more = more k e

-- Where no lane that there can be has a command left, none has.
pub used-of : (commands : List Command) (pasts : List Past) → AreLanes commands → AreUsedUp commands pasts → AreUsed commands pasts
used-of commands pasts lanes up lane = by (next_command commands lane pasts) refl
  where
    by : (o : Option ℕ) → next_command commands lane pasts ≡ o → next_command commands lane pasts ≡ None
    by None e = e
    by (Some n) e = up lane (lane-below most_lanes lane 0 commands (lane_count lane pasts) n lanes e)

-- Whose lane the next one is.
pub owner-next : (threads number owner next : ℕ) → owner ≡ number % threads → next ≡ (owner + 1) % threads → next ≡ (number + 1) % threads
owner-next threads number owner next is e =
    e
    ∙ ap (λ k. (k + 1) % threads) is
    ∙ ap (λ k. k % threads) (add-one (number % threads))
    ∙ sym (suc-mod number threads)
    ∙ ap (λ k. k % threads) (sym (add-one number))

-- An event of a lane that is the player's is of its lanes.
pub own-lanes : (player : Player) (lane : ℕ) (found : Option Event) → IsLaneOf player lane → IfSome found (λ event. IsOfActor (actor.Lane lane) event) → IfSome found (λ event. IsOfLanes player event)
own-lanes player lane None own of = tt
own-lanes player lane (Some event) own of = record { lane = lane; own = own; command = of }
