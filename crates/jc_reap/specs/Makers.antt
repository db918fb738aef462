-- Which command of a script made each Job.
--     made_at commands past          the UID of the Job that the event made, and the place of its command
--     maker commands pasts u      the place of the command that made the Job of the UID u; the events
--                                 are newest first
use Rattle.std.specs.Prelude.{ℕ, Bool, true, false, List, [], ◌∷◌, Option, Some, None, if◌then◌else◌}
use Rattle.std.specs.Option.{option_map}
use Rattle.jc_types.specs.declared.actions.Command.{Command}
use Rattle.jc_types.specs.declared.numbers.Uid.{Uid}
use Rattle.jc_types.specs.declared.replies.Reply.{Reply}
use Rattle.jc_types.specs.declared.replies.Reply.TheVariants as reply
use Rattle.jc_types.specs.declared.runs.Event.{Event}
use Rattle.jc_types.specs.declared.runs.Event.TheVariants as event
use Rattle.jc_types.specs.declared.runs.Past.{Past}
use Rattle.jc_types.specs.Keys.{same_uid}
use Rattle.jc_log.specs.Acts.{Act}
use Rattle.jc_log.specs.Acts as does
use Rattle.jc_log.specs.Deeds.{act_of_event}

-- The act is a create.
abbrev pub is_create : Act → Bool
is_create (does.Create key spec) = true
is_create other = false

-- The UID of the object that the reply says was made.
abbrev pub created_uid : Reply → Option Uid
created_uid (reply.Created uid version) = Some uid
created_uid other = None

-- The place of the event's command in the script; an event of the system has none, and makes no Job.
abbrev pub place_of : Event → ℕ
place_of (event.Command lane number) = number
place_of (event.System system) = 0

-- The UID of the Job that the event made, and the place of the create command that made it.
abbrev pub made_at : List Command → Past → Option (Uid × ℕ)
made_at commands past =
    if is_create (act_of_event commands past.event)
    then option_map (λ uid. (uid, place_of past.event)) (created_uid past.reply)
    else None

-- The place for the UID, where an event has made this.
abbrev pub maker_after : Option (Uid × ℕ) → Uid → Option ℕ → Option ℕ
maker_after None u before = before
maker_after (Some row) u before = if same_uid row.0 u then Some row.1 else before

-- The place of the create command that made the Job of the UID.
abbrev pub maker : List Command → List Past → Uid → Option ℕ
maker commands [] u = None
maker commands (past ∷ before) u = maker_after (made_at commands past) u (maker commands before u)
