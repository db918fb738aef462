-- What a player of a threaded run does in a turn.
--     IsLaneOf player lane           the lane belongs to the player
--     HasLeft player seen            a command of one of its lanes may come
--     HasHappened event old new      the event could come, and has happened
--     IsOwnEvent player old event    it is of one of its lanes, or the first of the system that is not held
--     HaveHappened player events ..  the events have happened one after the other, each of them the player's own
--     HasTurned player old new       so such events have, and then no more; nothing is said of slots
--     HasTakenPlan player work old new      the player has taken this plan to make
--     wants_none event               an event of the system after which no more registers want a plan
use Rattle.std.specs.Prelude.{◌≡◌, ℕ, ◌<◌, ◌%◌, ◌⊎◌, Bool, true, false, List, [], ◌∷◌, Some}
use Rattle.jc_types.specs.declared.runs.Event.{Event}
use Rattle.jc_types.specs.declared.runs.Event.TheVariants as event
use Rattle.jc_types.specs.declared.runs.Sys.TheVariants as sys
use Rattle.jc_runs.specs.Seen.{Seen, act_seen, happened, reply_seen}
use Rattle.jc_history.specs.Play.{first_event}
use Rattle.jc_history.specs.Registers.{register}
use Rattle.jc_core.specs.Actors.{CanCome, IsOfActor}
use Rattle.jc_core.specs.Slots.{unheld_seen}
use Rattle.jc_core.specs.Actor.TheVariants as actor
use Rattle.jc_core.specs.DiariesSeen.{diary_seen}
use Rattle.jc_core.specs.Shared.{Shared, slots_after, taken_by}
use Rattle.jc_core.specs.declared.holding.Work.{Work}
use Rattle.jc_seats.specs.declared.players.Player.{Player}

-- The lane belongs to the player: each player has every lane of the same rest by the number of players.
abbrev pub IsLaneOf : Player → ℕ → Type 0
IsLaneOf player lane = lane % player.threads ≡ player.number

-- A command of one of its lanes may come.
pub record HasLeft (player : Player) (seen : Seen) : Type 0 where
  pub lane : ℕ
  pub own : IsLaneOf player lane
  pub event : Event
  pub command : IsOfActor (actor.Lane lane) event
  pub can_come : CanCome seen event

-- The event could come, and has happened.
pub record HasHappened (event : Event) (old new : Shared) : Type 0 where
  pub can_come : CanCome old.seen event
  pub seen : new.seen ≡ happened old.seen event
  pub slots : new.slots
      ≡ slots_after (act_seen old.seen event) (reply_seen old.seen event) old.slots

-- The event is a command of one of the player's lanes.
pub record IsOfLanes (player : Player) (event : Event) : Type 0 where
  pub lane : ℕ
  pub own : IsLaneOf player lane
  pub command : IsOfActor (actor.Lane lane) event

-- The event is the next command of one of the player's lanes, or the first of the system that is not the step
-- of a register that is held.
abbrev pub IsOwnEvent : Player → Shared → Event → Type 0
IsOwnEvent player old event =
    IsOfLanes player event ⊎ (first_event (unheld_seen old.slots old.seen) ≡ Some event)

-- The events have happened, the last one first: each could come then, and was the player's own.
abbrev pub HaveHappened : Player → List Event → Shared → Shared → Type 0
HaveHappened player [] old new = new ≡ old
HaveHappened player (event ∷ before) old new =
    (between : Shared) × HaveHappened player before old between × HasHappened event between new
    × IsOwnEvent player between event

-- Own events have happened, one after the other, and then no more. Nothing is said of the slots, since the turn may hold a
-- register at last.
pub record HasTurned (player : Player) (old new : Shared) : Type 0 where
  pub events : List Event
  pub last : Shared
  pub happened : HaveHappened player events old last
  pub seen : new.seen ≡ last.seen

-- The player has taken the plan of a worker of the shape, to be made of what the worker's sync began with. It holds the
-- worker's register, and nothing has happened.
pub record HasTakenPlan (player : Player) (work : Work) (old new : Shared) : Type 0 where
  pub basis : register work.worker (diary_seen old.seen work.controller) ≡ Some work.basis
  pub controller : work.controller < old.seen.shape.controllers
  pub worker : work.worker < old.seen.shape.workers
  pub slots : new.slots ≡ taken_by player.number work.controller work.worker old.slots
  pub seen : new.seen ≡ old.seen

-- The event is of the system, and no begin: no register wants a plan after it that wanted none before.
abbrev pub wants_none : Event → Bool
wants_none (event.System (sys.Begin controller worker)) = false
wants_none (event.System other) = true
wants_none (event.Command lane number) = false
