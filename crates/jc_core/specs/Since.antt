-- What has happened since the history had so many events.
--     seen_at n seen               what was seen of the cluster then
--     is_of_register c w act       the act is of the register
--     is_touch_of c w touch        so is what touches the registers like this
--     is_past_of commands c w ..   so is an event that has happened
use Rattle.std.specs.Prelude.{ℕ, ◌-◌, ◌==◌, Bool, false, ◌&&◌, List, drop, length}
use Rattle.jc_types.specs.declared.actions.Command.{Command}
use Rattle.jc_types.specs.declared.runs.Past.{Past}
use Rattle.jc_log.specs.Acts as does
use Rattle.jc_log.specs.Acts.{Act}
use Rattle.jc_log.specs.Deeds.{act_of_event}
use Rattle.jc_runs.specs.Seen.{Seen}
use Rattle.jc_core.specs.declared.touches.Touch.{Touch}
use Rattle.jc_core.specs.declared.touches.Touch.TheVariants as touch

-- What was seen of the cluster when its history had so many events; the events are newest first.
abbrev pub seen_at : ℕ → Seen → Seen
seen_at n seen = record seen { pasts = drop (length seen.pasts - n) seen.pasts }

-- The act is of the register: a sync of its worker begins or goes on, or its controller restarts.
abbrev pub is_of_register : ℕ → ℕ → Act → Bool
is_of_register c w (does.Begin controller worker) = (controller == c) && (worker == w)
is_of_register c w (does.Step controller worker) = (controller == c) && (worker == w)
is_of_register c w (does.Restart controller) = controller == c
is_of_register c w other = false

-- So is what touches the registers like this.
abbrev pub is_touch_of : ℕ → ℕ → Touch → Bool
is_touch_of c w (touch.Begin controller worker) = (controller == c) && (worker == w)
is_touch_of c w (touch.Step controller worker) = (controller == c) && (worker == w)
is_touch_of c w (touch.Restart controller) = controller == c
is_touch_of c w touch.Nothing = false

-- So is an event that has happened.
abbrev pub is_past_of : List Command → ℕ → ℕ → Past → Bool
is_past_of commands c w past = is_of_register c w (act_of_event commands past.event)
