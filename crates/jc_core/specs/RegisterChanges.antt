-- How the registers of a threaded run change.
--     changed_slot change slot            the register, once the change was made
--     sole_register change             the register that the change is of, where it is of one alone
--     touch_of act                   how an act touches the registers
--     touched_slots touch reply slots      once it was answered so
use Rattle.std.specs.Prelude.{ℕ, ◌==◌, List, if◌then◌else◌, Option, None, Some, true, false}
use Rattle.jc_types.specs.declared.replies.Reply.{Reply}
use Rattle.jc_types.specs.declared.replies.Reply.TheVariants as reply
use Rattle.jc_log.specs.Acts as does
use Rattle.jc_log.specs.Acts.{Act}
use Rattle.jc_play.specs.declared.slots.Slot.{Slot}
use Rattle.jc_play.specs.Slots.{is_slot_of}
use Rattle.jc_core.specs.declared.changes.Change.{Change}
use Rattle.jc_core.specs.declared.changes.Change.TheVariants as change
use Rattle.jc_core.specs.declared.touches.Touch.{Touch}
use Rattle.jc_core.specs.declared.touches.Touch.TheVariants as touch
use Rattle.jc_core.specs.Shared.{fresh_slot, holds_slot, numbers_of, restarted_slots, wanting}

-- The register, once the change was made.
abbrev pub changed_slot : Change → Slot → Slot
changed_slot (change.Take seat c w) slot =
    if is_slot_of c w slot then record slot { holder = Some seat } else slot
changed_slot (change.PutBack seat c w) slot =
    if holds_slot seat c w slot then record slot { holder = None } else slot
changed_slot (change.Want wants c w) slot =
    if is_slot_of c w slot then record slot { wants = wants } else slot
changed_slot change.Free slot = record slot { holder = None }
changed_slot (change.Restart c) slot =
    if slot.controller == c then fresh_slot (numbers_of slot) else slot

-- The register that the change is of, where it is of one alone.
abbrev pub sole_register : Change → Option (ℕ × ℕ)
sole_register (change.Take seat c w) = Some (c, w)
sole_register (change.PutBack seat c w) = Some (c, w)
sole_register (change.Want wants c w) = Some (c, w)
sole_register other = None

-- How an act touches the registers.
abbrev pub touch_of : Act → Touch
touch_of (does.Begin c w) = touch.Begin c w
touch_of (does.Step c w) = touch.Step c w
touch_of (does.Restart c) = touch.Restart c
touch_of other = touch.Nothing

-- The registers, once an act was answered that touches them so.
abbrev pub touched_slots : Touch → Reply → List Slot → List Slot
touched_slots (touch.Begin c w) (reply.Begun key jobs_at pods_at) slots = wanting true c w slots
touched_slots (touch.Begin c w) other slots = slots
touched_slots (touch.Step c w) answer slots = wanting false c w slots
touched_slots (touch.Restart c) answer slots = restarted_slots c slots
touched_slots touch.Nothing answer slots = slots
