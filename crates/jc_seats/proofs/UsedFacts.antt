-- Which lanes are used up, and that they stay so.
use Rattle.std.proofs.Common.{◌≡◌, ◌<◌, ◌≤◌, ◌+◌, ℕ, zero, suc, Bool, true, false, cond, ltb, List, [], ◌∷◌, length, filter, slice_get, Option, None, Some, is_some, refl, sym, ap, ◌∙◌, subst, true≢false, arith}
use Rattle.std.proofs.lemmas.Bool.{ltb-true, ltb-false}
use Rattle.jc_types.specs.declared.actions.Command.{Command}
use Rattle.jc_types.specs.declared.runs.Event.{Event}
use Rattle.jc_types.specs.declared.runs.Past.{Past}
use Rattle.jc_history.specs.Legal.{ComesNext, is_of_lane, lane_count, lane_places, next_command}
use Rattle.jc_runs.specs.Seen.{Seen, happened}
use Rattle.jc_core.specs.Actors.{CanCome, IsOfActor}
use Rattle.jc_core.specs.Actor.TheVariants as actor
use Rattle.jc_seats.specs.declared.players.Player.{Player}
use Rattle.jc_seats.specs.Names.{AreLanesBelow, AreUsedFrom}
use Rattle.jc_seats.specs.PlayerTurns.{HasLeft, IsLaneOf}
use Rattle.jc_seats.proofs.TurnFacts.{lane-below}

-- Where a list has no item, it has none behind it.
past-end : {A : Type 0} (xs : List A) (k : ℕ) → slice_get xs k ≡ None → slice_get xs (suc k) ≡ None
past-end [] k e = refl
past-end (x ∷ xs) zero e = absurd (true≢false (ap is_some e))
past-end (x ∷ xs) (suc k) e = past-end xs k e

-- A lane that is used up stays so, whatever happens.
used-later : (commands : List Command) (lane : ℕ) (past : Past) (before : List Past) → next_command commands lane before ≡ None → next_command commands lane (past ∷ before) ≡ None
used-later commands lane past before e = by (is_of_lane lane past)
  where
    by : (b : Bool) → slice_get (lane_places lane commands) (length (cond b (past ∷ filter (is_of_lane lane) before) (filter (is_of_lane lane) before))) ≡ None
    by true = past-end (lane_places lane commands) (lane_count lane before) e
    by false = e

-- So it is once an event has happened.
pub used-after : (old : Seen) (event : Event) (bound : ℕ) → AreUsedFrom bound old → AreUsedFrom bound (happened old event)
used-after old event bound used lane above = used-later old.script.commands lane _ old.pasts (used lane above)

-- Above all lanes of the commands each is used up.
pub used-above : (bound : ℕ) (commands : List Command) (pasts : List Past) → AreLanesBelow bound commands → (lane : ℕ) → bound ≤ lane → next_command commands lane pasts ≡ None
used-above bound commands pasts all lane above = by (next_command commands lane pasts) refl
  where
    by : (o : Option ℕ) → next_command commands lane pasts ≡ o → next_command commands lane pasts ≡ None
    by None e = e
    by (Some n) e = let below = lane-below bound lane 0 commands (lane_count lane pasts) n all e in absurd (omega (arith, below, above))

-- One lane more.
pub one-more : (seen : Seen) (bound left : ℕ) → AreUsedFrom left seen → left ≡ bound + 1 → next_command seen.script.commands bound seen.pasts ≡ None → AreUsedFrom bound seen
one-more seen bound left used e none lane above = by (ltb bound lane) refl
  where
    by : (b : Bool) → ltb bound lane ≡ b → next_command seen.script.commands lane seen.pasts ≡ None
    by true more = let higher = ltb-true bound lane more in used lane (omega (arith, e, higher))
    by false more =
        let lower = ltb-false bound lane more in
        let same : bound ≡ lane = omega (arith, above, lower) in
        subst (λ (l : ℕ). next_command seen.script.commands l seen.pasts ≡ None) same none

-- Where no command of its lanes below the bound may come, and those from it on are used up, none is left to the player.
pub none-left : (player : Player) (seen : Seen) (bound : ℕ) → AreUsedFrom bound seen
    → ((lane : ℕ) → lane < bound → IsLaneOf player lane → (event : Event) → IsOfActor (actor.Lane lane) event → CanCome seen event → ⊥) → HasLeft player seen → ⊥
none-left player seen bound used none left = by (ltb left.lane bound) refl
  where
    next : next_command seen.script.commands left.lane seen.pasts ≡ Some left.command.0
    next = subst (ComesNext seen.script.commands seen.pasts) left.command.1 left.can_come.admits.next

    by : (b : Bool) → ltb left.lane bound ≡ b → ⊥
    by true e = none left.lane (ltb-true left.lane bound e) left.own left.event left.command left.can_come
    by false e = true≢false (ap is_some (sym next ∙ used left.lane (ltb-false left.lane bound e)))
