-- What a machine does of itself.
--     earliest_of found other     the earlier of two moments, where they are there
--     playing_of full seen        what has happened to a machine, as a play so far
--     next_to_settle script shape what comes next in a play that settles: the first that is available
--     next_to_bring, next_to_step what brings a cache on, and what a worker does
--     IsComing seen event         the event is one of the system that is available
--     HasGoneOn next old new      by what came next, again and again, one has come from the other
--     HasGrown old new            the events of the old one stay, and it stays orderly
--     Reaches result q new        so far the play has come
--     IsOwn seen event            a command, its lane's next one
--     HasCome event seen          the command has come
--     NeedsNoRest seen event      it may come whether or not there is something to do
--     is_quiescent_seen seen      nothing is available
use Rattle.std.specs.Prelude.{◌≡◌, ℕ, ◌+◌, ◌≤◌, ◌++◌, Bool, true, false, List, length, Result, Err, OnOk, Option, Some, None, is_some}
use Rattle.std.specs.List.{list_any}
use Rattle.jc_queue.specs.Delayed.{earlier}
use Rattle.jc_types.specs.declared.actions.Script.{Script}
use Rattle.jc_types.specs.declared.objects.Kind.{Kind}
use Rattle.jc_types.specs.declared.runs.Event.{Event}
use Rattle.jc_types.specs.declared.runs.Event.TheVariants.{Command, System}
use Rattle.jc_types.specs.declared.runs.Past.{Past}
use Rattle.jc_types.specs.declared.runs.Shape.{Shape}
use Rattle.jc_types.specs.declared.runs.Sys.{Sys}
use Rattle.jc_log.specs.Deeds.{act_of_system}
use Rattle.jc_history.specs.Available.{IsOrderly, WasAvailable, available, is_quiescent}
use Rattle.jc_history.specs.Legal.{IsOfShape, MaySettle, lane_count, next_command}
use Rattle.jc_history.specs.Numbers.{number}
use Rattle.jc_history.specs.Play.{Playing, brings, deeds_played, first_event, is_command, next_step, notes_in, on_and_on}
use Rattle.jc_history.specs.Registers.{register}
use Rattle.jc_runs.specs.Seen.{IsDoable, Seen, act_seen, deeds_seen, log_seen}
use Rattle.jc_machine.specs.declared.apply.ApplyFault.{ApplyFault}
use Rattle.jc_machine.specs.declared.apply.ApplyFault.TheVariants.{HistoryFull}

-- The earlier of two moments, where they are there.
abbrev pub earliest_of : Option ℕ → Option ℕ → Option ℕ
earliest_of found None = found
earliest_of found (Some moment) = Some (earlier found moment)

-- What has happened to a machine, as a play so far; it is full where one event more was to come and
-- had no room.
abbrev pub playing_of : Bool → Seen → Playing
playing_of full seen = record { pasts = seen.pasts; log = log_seen seen; full = full }

-- What comes next in a play that settles: the first that is available.
abbrev pub next_to_settle : Script → Shape → Playing → Option Event
next_to_settle script shape p = first_event (available shape (deeds_played script p) p.log)

-- What comes next where a cache is brought on.
abbrev pub next_to_bring : ℕ → Kind → Script → Shape → Playing → Option Event
next_to_bring c kind script shape p = brings c kind p.log (number kind (notes_in script shape c p))

-- What comes next where a worker steps until its register is free.
abbrev pub next_to_step : ℕ → ℕ → Script → Shape → Playing → Option Event
next_to_step c w script shape p = next_step c w (is_some (register w (notes_in script shape c p)))

-- The event is one of the system that is available.
pub record IsComing (seen : Seen) (event : Event) : Type 0 where
  pub system : Sys
  pub is : event ≡ System system
  pub within : IsOfShape seen.shape (act_of_system system)
  pub among : WasAvailable (act_of_system system) None
      (available seen.shape (deeds_seen seen) (log_seen seen))

-- By what came next, again and again, the new one has come from the old. It was no command.
pub record HasGoneOn (next : Playing → Option Event) (old new : Seen) : Type 0 where
  pub script : new.script ≡ old.script
  pub shape : new.shape ≡ old.shape
  pub turns : ℕ
  pub count : length new.pasts ≡ turns + length old.pasts
  pub few : turns ≤ old.shape.events
  pub played : on_and_on old.script old.shape next turns (playing_of false old) ≡ playing_of false new
  pub counts : (lane : ℕ) → lane_count lane new.pasts ≡ lane_count lane old.pasts
  pub commands : (place : ℕ)
      → list_any (is_command place) new.pasts ≡ list_any (is_command place) old.pasts

-- Script and shape are as before, the events so far stay, and an orderly history stays orderly.
pub record HasGrown (old new : Seen) : Type 0 where
  pub script : new.script ≡ old.script
  pub shape : new.shape ≡ old.shape
  pub more : List Past
  pub pasts : new.pasts ≡ more ++ old.pasts
  pub orderly : IsOrderly old.shape (deeds_seen old) → IsOrderly new.shape (deeds_seen new)

-- So far the play has come: to q where all was done. It is full there just where the history has all
-- its events and one was still to come.
pub record Reaches (result : Result (Unit {0}) ApplyFault) (q : Playing) (new : Seen) : Type 0 where
  pub done : OnOk result (q ≡ playing_of false new)
  pub full : result ≡ Err HistoryFull → q ≡ playing_of true new
  pub history_full : result ≡ Err HistoryFull → new.shape.events ≤ length new.pasts

-- The event is a command, its lane's next one, and fits the shape.
pub record IsOwn (seen : Seen) (event : Event) : Type 0 where
  pub lane : ℕ
  pub number : ℕ
  pub is : event ≡ Command lane number
  pub next : next_command seen.script.commands lane seen.pasts ≡ Some number
  pub within : IsOfShape seen.shape (act_seen seen event)
  pub doable : IsDoable (act_seen seen event)

-- The event, if it is a command, has come.
abbrev pub HasCome : Event → Seen → Type 0
HasCome event seen = (lane number : ℕ) → event ≡ Command lane number
    → list_any (is_command number) seen.pasts ≡ true

-- What the event does may come whether or not there is something to do.
abbrev pub NeedsNoRest : Seen → Event → Type 0
NeedsNoRest seen event = (rests : Bool) → MaySettle (act_seen seen event) rests

-- Nothing is available.
abbrev pub is_quiescent_seen : Seen → Bool
is_quiescent_seen seen = is_quiescent seen.shape (deeds_seen seen) (log_seen seen)
