-- What each call that does one event asks for, and what it leaves.
--     MayCome old event act               the event may come, does this act, and there is room for it
--     HappensOrKeeps old new event told   it has happened, told is the text of its reply, or there was no memory
use Rattle.std.specs.Prelude.{◌≡◌, ◌<◌, length, Result, Ok, Err}
use Rattle.std.specs.declared.alloc.AllocError.{AllocError}
use Rattle.jc_types.specs.declared.runs.Event.{Event}
use Rattle.jc_log.specs.Acts.{Act}
use Rattle.jc_runs.specs.Seen.{Admits, Seen, act_seen, happened, reply_seen}
use Rattle.jc_team.specs.RepliesAgain.{IsReplyText}
use Rattle.jc_team.specs.declared.told.ReplyText.{ReplyText}

-- The event may come next, does this act, and the history has room for it.
pub record MayCome (old : Seen) (event : Event) (act : Act) : Type 0 where
  pub admits : Admits old event
  pub acts : act_seen old event ≡ act
  pub unfull : length old.pasts < old.shape.events

-- The event has happened, and this is the text of its reply; or there was no memory for it, and nothing has changed.
abbrev pub HappensOrKeeps : Seen → Seen → Event → Result ReplyText AllocError → Type 0
HappensOrKeeps old new event (Ok text) = (new ≡ happened old event) × IsReplyText (reply_seen old event) text
HappensOrKeeps old new event (Err want) = new ≡ old
