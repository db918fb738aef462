-- What a contract sees of a cluster.
--     Seen                             its script, its shape, and what happened, NEWEST FIRST
--     IsCluster script shape ..        what a cluster has is what its history says
--     IsDoable act                     the machine does it
--     Admits seen event                the event may come next
--     happened seen event              once it has
use Rattle.std.specs.Prelude.{ℕ, ◌≤◌, List, [], ◌∷◌, length, map}
use Rattle.jc_log.specs.Acts as does
use Rattle.jc_history.specs.Available.{is_quiescent}
use Rattle.jc_history.specs.Legal.{ComesNext, InLanes, IsOfShape, MaySettle}
use Rattle.jc_control.specs.Schedules.{log_end}
use Rattle.jc_history.specs.Replies.{log_after, log_given, reply_given}
use Rattle.jc_types.specs.declared.actions.Script.{Script}
use Rattle.jc_types.specs.declared.objects.Entry.{Entry}
use Rattle.jc_types.specs.declared.replies.Reply.{Reply}
use Rattle.jc_types.specs.declared.runs.Event.{Event}
use Rattle.jc_types.specs.declared.runs.Past.{Past}
use Rattle.jc_types.specs.declared.runs.Shape.{Shape}
use Rattle.jc_log.specs.Acts.{Act}
use Rattle.jc_log.specs.Deeds.{Deed, act_of_event, deed}
use Rattle.jc_states.specs.ValidActions.{AreValidCommands}
use Rattle.jc_runs.specs.Fates.{Fates}
use Rattle.jc_runs.specs.Machines.{IsMachine}
use Rattle.jc_runs.specs.Teams.{Team}

-- The script, the shape, and what happened, newest first.
pub record Seen : Type 0 where
  pub script : Script
  pub shape : Shape
  pub pasts : List Past

-- What happened, as deeds.
abbrev pub deeds_in : Script → List Past → List Deed
deeds_in script pasts = map (deed script) pasts

-- Those of what was seen.
abbrev pub deeds_seen : Seen → List Deed
deeds_seen seen = deeds_in seen.script seen.pasts

-- The log.
abbrev pub log_seen : Seen → List Entry
log_seen seen = log_given seen.shape (deeds_seen seen)

-- What a cluster keeps: its machine is what the history says, and the script can be played to its
-- end.
pub record IsCluster (script : Script) (shape : Shape) (pasts : List Past) (log : List Entry)
    (teams : List Team) (fates : Fates) (now : ℕ) : Type 0 where
  pub run : IsMachine shape (deeds_in script pasts) log teams fates now
  pub lanes : InLanes script.commands pasts
  pub few : length pasts ≤ shape.events
  pub fine : AreValidCommands script.commands
  pub bound : shape.events ≤ 200000

-- What the event does.
abbrev pub act_seen : Seen → Event → Act
act_seen seen event = act_of_event seen.script.commands event

-- The reply to the event.
abbrev pub reply_seen : Seen → Event → Reply
reply_seen seen event =
    reply_given seen.shape (deeds_seen seen) (log_seen seen) (act_seen seen event)

-- The event with its reply, as it is kept.
abbrev pub past_seen : Seen → Event → Past
past_seen seen event = record {
  event = event;
  reply = reply_seen seen event;
  length = log_end (log_after seen.shape (deeds_seen seen) (log_seen seen) (act_seen seen event));
}

-- What is seen once the event has happened.
abbrev pub happened : Seen → Event → Seen
happened seen event = record seen { pasts = past_seen seen event ∷ seen.pasts }

-- What the machine does: all but a command that no script has.
abbrev pub IsDoable : Act → Type 0
IsDoable does.Unknown = ⊥
IsDoable other = Unit {0}

-- The event may come next.
pub record Admits (seen : Seen) (event : Event) : Type 0 where
  pub next : ComesNext seen.script.commands seen.pasts event
  pub within : IsOfShape seen.shape (act_seen seen event)
  pub settled : MaySettle (act_seen seen event)
      (is_quiescent seen.shape (deeds_seen seen) (log_seen seen))
  pub doable : IsDoable (act_seen seen event)
