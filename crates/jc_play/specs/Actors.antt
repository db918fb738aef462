-- Who can make which event.
--     IsOfActor actor event       it is an event of the actor
--     CanCome seen event          it may come next, and one of the system is available
--     IsOnly actor seen found     what was found is the one event of the actor that can come
use Rattle.std.specs.Prelude.{◌≡◌, ℕ, ◌⊎◌, IfSome, Option, Some}
use Rattle.jc_types.specs.declared.runs.Event.{Event}
use Rattle.jc_types.specs.declared.runs.Event.TheVariants.{Command, System}
use Rattle.jc_types.specs.declared.runs.Sys.TheVariants as sys
use Rattle.jc_log.specs.Deeds.{lane_of}
use Rattle.jc_history.specs.Available.{WasAvailable, available}
use Rattle.jc_runs.specs.Seen.{Admits, Seen, act_seen, deeds_seen, log_seen}
use Rattle.jc_play.specs.declared.actors.Actor.{Actor}
use Rattle.jc_play.specs.declared.actors.Actor.TheVariants as actor

-- It is an event of the actor: any command of a lane, a list or a delivery of a cache, a begin or a
-- step of a worker, the node's, or seconds that pass.
abbrev pub IsOfActor : Actor → Event → Type 0
IsOfActor (actor.Lane lane) event = (number : ℕ) × (event ≡ Command lane number)
IsOfActor (actor.Cache c kind) event =
    (event ≡ System (sys.List c kind)) ⊎ (event ≡ System (sys.Deliver c kind))
IsOfActor (actor.Worker c w) event =
    (event ≡ System (sys.Begin c w)) ⊎ (event ≡ System (sys.Step c w))
IsOfActor actor.Node event = event ≡ System sys.Node
IsOfActor actor.Clock event = (add : ℕ) × (event ≡ System (sys.Clock add))

-- The event may come next, and if it is one of the system, it is available.
pub record CanCome (seen : Seen) (event : Event) : Type 0 where
  pub admits : Admits seen event
  pub among : WasAvailable (act_seen seen event) (lane_of event)
      (available seen.shape (deeds_seen seen) (log_seen seen))

-- What was found is an event of the actor that can come, and there is no other; where nothing was
-- found, there is none.
pub record IsOnly (who : Actor) (seen : Seen) (found : Option Event) : Type 0 where
  pub own : IfSome found (λ event. IsOfActor who event)
  pub can_come : IfSome found (λ event. CanCome seen event)
  pub exactly : (event : Event) → IsOfActor who event → CanCome seen event → found ≡ Some event
