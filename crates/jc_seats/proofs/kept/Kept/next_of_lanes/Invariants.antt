use Rattle.std.proofs.Common.{◌≡◌, ◌<◌, ◌%◌, ℕ}
use Rattle.jc_types.specs.declared.runs.Event.{Event}
use Rattle.jc_core.specs.Actors.{CanCome, IsOfActor}
use Rattle.jc_core.specs.Actor.TheVariants as actor
use Rattle.jc_seats.specs.PlayerTurns.{IsLaneOf}
use Rattle.jc_seats.proofs.kept.Kept.next_of_lanes.Given as goal

-- The owner is that of the lane. No command of a lane before this one may come, of those that are the player's.
abbrev pub invariant-loop-number : goal.invariant-loop-number
invariant-loop-number g l =
    (l.owner ≡ l.number % l.player.threads)
    × ((lane : ℕ) → lane < l.number → IsLaneOf l.player lane → (event : Event) → IsOfActor (actor.Lane lane) event → CanCome l.self.seen event → ⊥)
