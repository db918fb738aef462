-- How events touch the registers of a threaded run.
use Rattle.std.proofs.Common.{◌≡◌, List, refl, ap, ◌∙◌}
use Rattle.jc_types.specs.declared.replies.Reply.{Reply}
use Rattle.jc_types.specs.declared.replies.Reply.TheVariants as reply
use Rattle.jc_types.specs.declared.runs.Event.{Event}
use Rattle.jc_log.specs.Acts as does
use Rattle.jc_log.specs.Acts.{Act}
use Rattle.jc_runs.specs.Seen.{Seen, act_seen, reply_seen}
use Rattle.jc_play.specs.declared.slots.Slot.{Slot}
use Rattle.jc_core.specs.declared.touches.Touch.{Touch}
use Rattle.jc_core.specs.RegisterChanges.{touch_of, touched_slots}
use Rattle.jc_core.specs.Shared.{Shared, slots_after}

-- What an act changes, by how it touches them.
pub touched-by : (act : Act) (answer : Reply) (slots : List Slot) → touched_slots (touch_of act) answer slots ≡ slots_after act answer slots
touched-by (does.Begin c w) (reply.Begun key jobs_at pods_at) slots = refl
touched-by (does.Begin c w) other slots = refl
touched-by other answer slots = refl

-- So it is with an event of a cluster, once it has happened.
pub touched-seen : (seen : Seen) (slots new : List Slot) (shared : Shared) (event : Event) (t : Touch) (answer : Reply)
    → record { seen = seen; slots = slots } ≡ shared → t ≡ touch_of (act_seen seen event) → answer
    ≡ reply_seen shared.seen event → new ≡ touched_slots t answer slots
    → new ≡ slots_after (act_seen shared.seen event) (reply_seen shared.seen event) shared.slots
touched-seen seen slots new shared event t answer view touches replies made =
    made
    ∙ ap (λ t. touched_slots t answer slots) touches
    ∙ touched-by (act_seen seen event) answer slots
    ∙ ap (λ (s : Shared). slots_after (act_seen s.seen event) answer s.slots) view
    ∙ ap (λ a. slots_after (act_seen shared.seen event) a shared.slots) replies
