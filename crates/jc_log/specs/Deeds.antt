-- A history as its deeds, NEWEST FIRST. A deed is an event with what its command does filled in
-- from the script, so that no number of a command is left in it.
--     act_of_event             what an event does; the own event of a sync is its begin
--     Deed                     the lane of its command, its act, its reply, the log's length after it
--     deed script past         that of one event
--     deeds script history     those of a history
use Rattle.std.specs.Prelude.{ℕ, List, map, reverse, Option, Some, None, slice_get}
use Rattle.jc_types.specs.declared.actions.Action1.{Action1}
use Rattle.jc_types.specs.declared.actions.Action1.TheVariants as act
use Rattle.jc_types.specs.declared.actions.Command.{Command}
use Rattle.jc_types.specs.declared.actions.Script.{Script}
use Rattle.jc_types.specs.declared.numbers.Version.{Version}
use Rattle.jc_types.specs.declared.replies.Reply.{Reply}
use Rattle.jc_types.specs.declared.runs.Event.{Event}
use Rattle.jc_types.specs.declared.runs.Event.TheVariants as event
use Rattle.jc_types.specs.declared.runs.History.{History}
use Rattle.jc_types.specs.declared.runs.Past.{Past}
use Rattle.jc_types.specs.declared.runs.Sys.{Sys}
use Rattle.jc_types.specs.declared.runs.Sys.TheVariants as sys
use Rattle.jc_log.specs.Acts.{Act}
use Rattle.jc_log.specs.Acts as does

-- What a command does.
abbrev pub act_of_action : Action1 → Act
act_of_action (act.Create key spec) = does.Create key spec
act_of_action (act.Update key version change) = does.Update key version change
act_of_action (act.Delete key) = does.Delete key
act_of_action (act.Mark pod) = does.Mark pod
act_of_action (act.Strip pod) = does.Strip pod
act_of_action (act.Finish pod exit) = does.Finish pod exit
act_of_action (act.Report pod change) = does.Report pod change
act_of_action (act.Fate key ends) = does.Fate key ends
act_of_action (act.Clock add) = does.Clock add
act_of_action (act.List controller kind) = does.List controller kind
act_of_action (act.Deliver controller kind) = does.Deliver controller kind
act_of_action (act.Begin controller worker) = does.Begin controller worker
act_of_action (act.Sync controller worker) = does.Begin controller worker
act_of_action (act.Step controller worker) = does.Step controller worker
act_of_action act.Node = does.Node
act_of_action (act.Restart controller) = does.Restart controller
act_of_action (act.PutFault controller worker fault) = does.PutFault controller worker fault
act_of_action act.Settle = does.Settle

-- What an event of the system does.
abbrev pub act_of_system : Sys → Act
act_of_system (sys.List controller kind) = does.List controller kind
act_of_system (sys.Deliver controller kind) = does.Deliver controller kind
act_of_system (sys.Begin controller worker) = does.Begin controller worker
act_of_system (sys.Step controller worker) = does.Step controller worker
act_of_system sys.Node = does.Node
act_of_system (sys.Clock add) = does.Clock add

-- What the command at a place of the script does.
abbrev pub act_of_command : Option Command → Act
act_of_command None = does.Unknown
act_of_command (Some command) = act_of_action command.action

-- What an event does.
abbrev pub act_of_event : List Command → Event → Act
act_of_event commands (event.Command lane number) = act_of_command (slice_get commands number)
act_of_event commands (event.System system) = act_of_system system

-- The lane of the event's command, if it is one.
abbrev pub lane_of : Event → Option ℕ
lane_of (event.Command lane number) = Some lane
lane_of (event.System system) = None

-- An event that has happened, without the number of its command.
pub record Deed : Type 0 where
  pub lane : Option ℕ
  pub act : Act
  pub reply : Reply
  pub length : Version

-- The deed of an event.
abbrev pub deed : Script → Past → Deed
deed script past = record {
  lane = lane_of past.event;
  act = act_of_event script.commands past.event;
  reply = past.reply;
  length = past.length;
}

-- The deeds of a history, newest first.
abbrev pub deeds : Script → History → List Deed
deeds script history = reverse (map (deed script) history.events.items)
