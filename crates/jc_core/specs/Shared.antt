-- A cluster, with what the seats of a threaded run hold of it.
--     Shared                         what happened to the cluster, and the registers
--     all_registers shape             all registers, by controller and worker
--     fresh_slot register            one that nobody holds and that wants no plan
--     KeepsShared seen slots              what the type keeps
--     has_holders slots              a seat holds one of them
--     is_open_slot seen slot              its sync has no plan, and nobody holds it
--     is_unplanned slots                  one that nobody holds wants a plan
--     holds_slot seat c w slot       the seat holds that register
--     taken_by seat c w slots        it is now held by the seat
--     put_back_by seat c w slots     it is no longer held by that seat
--     submitted_by seat c w kept ..  the same, and where a plan was kept, none is wanted any more
--     freed_slots slots              nobody holds one
--     slots_after act reply slots    once an event has happened
--     slots_told commands pasts slots    once these have happened, in order
--     HasKeptUp old new              the registers have followed the events that came
--     is_held_actor slots actor      the actor is a worker whose register is held
use Rattle.std.specs.Prelude.{◌≡◌, ℕ, ◌≤◌, ◌==◌, Bool, true, false, ◌&&◌, List, [], ◌∷◌, ◌++◌, map, reverse, if◌then◌else◌, Option, Some, None, is_none, is_some}
use Rattle.std.specs.List.{flat_map, list_any}
use Rattle.jc_types.specs.declared.actions.Command.{Command}
use Rattle.jc_types.specs.declared.replies.Reply.{Reply}
use Rattle.jc_types.specs.declared.replies.Reply.TheVariants as reply
use Rattle.jc_types.specs.declared.runs.Past.{Past}
use Rattle.jc_types.specs.declared.runs.Shape.{Shape}
use Rattle.jc_log.specs.Acts as does
use Rattle.jc_log.specs.Acts.{Act}
use Rattle.jc_log.specs.Deeds.{act_of_event}
use Rattle.jc_history.specs.Available.{below}
use Rattle.jc_history.specs.Registers.{register}
use Rattle.jc_runs.specs.Seen.{Seen}
use Rattle.jc_play.specs.DiariesSeen.{diary_seen}
use Rattle.jc_play.specs.Plays.{IsScriptFor}
use Rattle.jc_play.specs.declared.actors.Actor.{Actor}
use Rattle.jc_play.specs.declared.actors.Actor.TheVariants as actor
use Rattle.jc_play.specs.declared.slots.Slot.{Slot}
use Rattle.jc_play.specs.Slots.{has_holder, is_slot_of}

-- What happened to the cluster, and the registers as the seats see them.
pub record Shared : Type 0 where
  pub seen : Seen
  pub slots : List Slot

-- The controller and the worker of a register.
abbrev pub numbers_of : Slot → ℕ × ℕ
numbers_of slot = (slot.controller, slot.worker)

-- All registers, by controller and worker.
abbrev pub all_registers : Shape → List (ℕ × ℕ)
all_registers shape =
    flat_map (λ c. map (λ w. (c, w)) (below shape.workers)) (below shape.controllers)

-- One that nobody holds and that wants no plan.
abbrev pub fresh_slot : ℕ × ℕ → Slot
fresh_slot numbers =
    record { controller = numbers.0; worker = numbers.1; holder = None; wants = false }

-- What the type keeps: each register has its slot, the script can be played on the shape, and the
-- history is short.
pub record KeepsShared (seen : Seen) (slots : List Slot) : Type 0 where
  pub registers : map numbers_of slots ≡ all_registers seen.shape
  pub proper : IsScriptFor seen.script seen.shape
  pub bound : seen.shape.events ≤ 200000

-- A seat holds one of them.
abbrev pub has_holders : List Slot → Bool
has_holders slots = list_any (λ (slot : Slot). is_some slot.holder) slots

-- Its sync has no plan, and nobody holds it.
abbrev pub is_open_slot : Seen → Slot → Bool
is_open_slot seen slot =
    slot.wants && is_none slot.holder
    && is_some (register slot.worker (diary_seen seen slot.controller))

-- One that nobody holds wants a plan.
abbrev pub is_unplanned : List Slot → Bool
is_unplanned slots = list_any (λ (slot : Slot). slot.wants && is_none slot.holder) slots

-- The seat is this one.
abbrev pub is_seat : ℕ → Option ℕ → Bool
is_seat seat None = false
is_seat seat (Some holder) = holder == seat

-- The seat holds that register.
abbrev pub holds_slot : ℕ → ℕ → ℕ → Slot → Bool
holds_slot seat c w slot = is_slot_of c w slot && is_seat seat slot.holder

-- It is now held by the seat.
abbrev pub taken_by : ℕ → ℕ → ℕ → List Slot → List Slot
taken_by seat c w slots =
    map (λ slot. if is_slot_of c w slot then record slot { holder = Some seat } else slot) slots

-- It is no longer held by that seat.
abbrev pub put_back_by : ℕ → ℕ → ℕ → List Slot → List Slot
put_back_by seat c w slots =
    map (λ slot. if holds_slot seat c w slot then record slot { holder = None } else slot) slots

-- A plan of its sync is wanted, or is not.
abbrev pub wanting : Bool → ℕ → ℕ → List Slot → List Slot
wanting wants c w slots =
    map (λ slot. if is_slot_of c w slot then record slot { wants = wants } else slot) slots

-- It is no longer held by that seat; where the plan was kept, none is wanted any more.
abbrev pub submitted_by : ℕ → ℕ → ℕ → Bool → List Slot → List Slot
submitted_by seat c w true slots = wanting false c w (put_back_by seat c w slots)
submitted_by seat c w false slots = put_back_by seat c w slots

-- Nobody holds one.
abbrev pub freed_slots : List Slot → List Slot
freed_slots slots = map (λ (slot : Slot). record slot { holder = None }) slots

-- A restart frees the registers of its controller.
abbrev pub restarted_slots : ℕ → List Slot → List Slot
restarted_slots c slots =
    map (λ slot. if slot.controller == c then fresh_slot (numbers_of slot) else slot) slots

-- Once an event has happened: a sync that began wants a plan, a step needs none any more, and a
-- restart frees the registers of its controller.
abbrev pub slots_after : Act → Reply → List Slot → List Slot
slots_after (does.Begin c w) (reply.Begun key jobs_at pods_at) slots = wanting true c w slots
slots_after (does.Begin c w) other slots = slots
slots_after (does.Step c w) answer slots = wanting false c w slots
slots_after (does.Restart c) answer slots = restarted_slots c slots
slots_after other answer slots = slots

-- Once these events have happened, in order.
abbrev pub slots_told : List Command → List Past → List Slot → List Slot
slots_told commands [] slots = slots
slots_told commands (past ∷ pasts) slots =
    slots_told commands pasts (slots_after (act_of_event commands past.event) past.reply slots)

-- The events so far stay, and the registers have followed those that came.
pub record HasKeptUp (old new : Shared) : Type 0 where
  pub more : List Past
  pub pasts : new.seen.pasts ≡ more ++ old.seen.pasts
  pub slots : new.slots ≡ slots_told old.seen.script.commands (reverse more) old.slots

-- The actor is a worker whose register is held.
abbrev pub is_held_actor : List Slot → Actor → Bool
is_held_actor slots (actor.Worker c w) = has_holder slots c w
is_held_actor slots other = false
