-- What each event is answered, and the entry that it appends: the table of events.
--     gives shape past log act          the answer and the entry
--     reply_given shape past log act    the answer alone
--     log_after shape past log act      the log afterwards
--     log_given shape deeds             the log of the deeds
--     diary shape c deeds               what the controller has noted, over that log
--     next_deed shape deeds lane act    the deed that comes where the act is done next
use Rattle.std.specs.Prelude.{◌≡◌, ◌++◌, ℕ, ◌+◌, ◌-◌, ◌==◌, nat_lt, List, [], ◌∷◌, length, if◌then◌else◌, Option, Some, None}
use Rattle.jc_control.specs.Schedules.{log_end}
use Rattle.jc_log.specs.Acts as does
use Rattle.jc_control.specs.declared.begins.Begin.{Begin}
use Rattle.jc_control.specs.declared.begins.Begin.TheVariants as begin
use Rattle.jc_moment.specs.Range.{end_of_moments}
use Rattle.jc_types.specs.declared.actions.Fault.{Fault}
use Rattle.jc_types.specs.declared.numbers.Version.{Version}
use Rattle.jc_types.specs.declared.objects.Entry.{Entry}
use Rattle.jc_types.specs.declared.objects.Pod.{Pod}
use Rattle.jc_types.specs.declared.replies.Answer.{Answer}
use Rattle.jc_types.specs.declared.replies.Reply.{Reply}
use Rattle.jc_types.specs.declared.replies.Reply.TheVariants as reply
use Rattle.jc_types.specs.declared.replies.Request.{Request}
use Rattle.jc_types.specs.declared.runs.Shape.{Shape}
use Rattle.jc_states.specs.declared.bases.Basis.{Basis}
use Rattle.jc_log.specs.Requests.{Answered, grown, refused, create_job_gives, delete_job_gives, mark_pod_gives, release_gives, report_phase_gives, update_spec_gives}
use Rattle.jc_log.specs.Acts.{Act}
use Rattle.jc_log.specs.Deeds.{Deed}
use Rattle.jc_log.specs.Log.{pod_in}
use Rattle.jc_history.specs.SoFar.{so_far}
use Rattle.jc_asks.specs.Steps.{Stepped, stepped}
use Rattle.jc_history.specs.Diaries.{moment, notes, on_begin}
use Rattle.jc_history.specs.Fresh.{begin as begin_of}
use Rattle.jc_history.specs.Nodes.{NodeAct, change_by, fate, finish_change, node_step}
use Rattle.jc_history.specs.Notes.{Note}
use Rattle.jc_history.specs.Numbers.{number}
use Rattle.jc_history.specs.Registers.{made, pending, register}

-- ---- the clock, the node and the caches

-- The clock goes to the moment, unless that is past the last one.
abbrev pub clock_gives : ℕ → Answered
clock_gives moment = if nat_lt moment end_of_moments then refused (reply.Now moment) else refused reply.ClockEnd

-- A pod that finishes by a command.
abbrev pub finish_gives : List Entry → Option Pod → (Pod → Answered) → Answered
finish_gives log None reports = refused reply.NotFound
finish_gives log (Some pod) reports = reports pod

-- The version that the reply tells, or else this one.
abbrev pub version_in : Reply → Version → Version
version_in (reply.Written version) old = version
version_in (reply.Unchanged version) old = version
version_in other old = old

-- The node did this to the pod, and its report was answered so.
abbrev pub node_done : Pod → NodeAct → Answered → Answered
node_done pod act answered =
    record answered { reply = reply.NodeDone pod.uid (change_by pod act).phase (version_in answered.reply pod.version) }

-- What the node does next.
abbrev pub node_gives : List Entry → Option (Pod × NodeAct) → Answered
node_gives log None = refused reply.Idle
node_gives log (Some step) = node_done step.0 step.1 (report_phase_gives log step.0.uid (change_by step.0 step.1))

-- The cache of this number is told of the next entry, unless it has fallen out of the window or there is none.
abbrev pub deliver_gives : List Entry → ℕ → Option Version → Answered
deliver_gives log window None = refused reply.NotSynced
deliver_gives log window (Some version) =
    if nat_lt version.0 (length log - window) then refused (reply.Expired (record { 0 = length log - window }))
    else if version.0 == length log then refused reply.UpToDate
    else refused (reply.Delivered (record { 0 = version.0 + 1 }))

-- ---- syncs

-- The reply of a begin.
abbrev pub reply_of_begin : Begin → Reply
reply_of_begin begin.NotSynced = reply.NotSynced
reply_of_begin begin.NoKey = reply.NoKey
reply_of_begin (begin.Behind kind need have) = reply.Behind kind need have
reply_of_begin (begin.Begun basis) = reply.Begun basis.key basis.jobs_at basis.pods_at

-- A begin of a worker with this register.
abbrev pub begin_gives : Option Basis → Begin → Answered
begin_gives (Some basis) begin = refused reply.WorkerBusy
begin_gives None begin = refused (reply_of_begin begin)

-- The reply and the entry of a step.
abbrev pub step_done : Stepped → Answered
step_done step = record { reply = step.reply; entry = step.entry }

-- A step of a worker with this register.
abbrev pub step_gives : List Entry → ℕ → List (Request × Answer) → Option Fault → Option Basis → Answered
step_gives log now made fault None = refused reply.Idle
step_gives log now made fault (Some basis) = step_done (stepped now fault log (so_far basis made))

-- ---- the table

-- What the begin of a worker is answered after these notes.
abbrev pub begin_with : List Note → List Entry → ℕ → ℕ → Answered
begin_with notes log now worker = begin_gives (register worker notes) (begin_of notes log now)

-- What a step of the worker is answered after them.
abbrev pub step_with : List Note → List Entry → ℕ → ℕ → Answered
step_with notes log now worker = step_gives log now (made worker notes) (pending worker notes) (register worker notes)

-- The answer to an act after the deeds and their log, and the entry that it appends.
unfoldable pub gives : Shape → List Deed → List Entry → Act → Answered
gives shape past log (does.Create key spec) = create_job_gives log key spec (moment shape past)
gives shape past log (does.Update key version change_by) = update_spec_gives log key version change_by
gives shape past log (does.Delete key) = delete_job_gives log key
gives shape past log (does.Mark pod) = mark_pod_gives log pod (moment shape past)
gives shape past log (does.Strip pod) = release_gives log pod
gives shape past log (does.Finish uid exit) =
    finish_gives log (pod_in uid log) (λ pod. report_phase_gives log uid (finish_change pod exit))
gives shape past log (does.Report pod change_by) = report_phase_gives log pod change_by
gives shape past log (does.Fate key ends) = refused reply.Done
gives shape past log (does.Clock add) = clock_gives (moment shape past + add)
gives shape past log (does.List controller kind) = refused (reply.Listed (log_end log))
gives shape past log (does.Deliver controller kind) =
    deliver_gives log shape.window (number kind (notes shape controller past log))
gives shape past log (does.Begin controller worker) =
    begin_with (notes shape controller past log) log (moment shape past) worker
gives shape past log (does.Step controller worker) =
    step_with (notes shape controller past log) log (moment shape past) worker
gives shape past log does.Node = node_gives log (node_step log (fate past))
gives shape past log (does.Restart controller) = refused reply.Done
gives shape past log (does.PutFault controller worker fault) = refused reply.Done
gives shape past log does.Settle = refused reply.Done
gives shape past log does.Unknown = refused reply.Done

-- The reply alone.
abbrev pub reply_given : Shape → List Deed → List Entry → Act → Reply
reply_given shape past log act = (gives shape past log act).reply

-- The log after an act.
abbrev pub log_after : Shape → List Deed → List Entry → Act → List Entry
log_after shape past log act = grown log (gives shape past log act).entry

-- The log of the deeds.
unfoldable pub log_given : Shape → List Deed → List Entry
log_given shape [] = []
log_given shape (d ∷ past) = log_after shape past (log_given shape past) d.act

-- ---- over the log of the deeds

-- All that a controller has noted, over the log of the deeds themselves.
abbrev pub diary : Shape → ℕ → List Deed → List Note
diary shape c deeds = notes shape c deeds (log_given shape deeds)

-- How a begin of the controller is answered after them, where the worker is free.
abbrev pub begin_now : Shape → ℕ → List Deed → Begin
begin_now shape c deeds = begin_of (diary shape c deeds) (log_given shape deeds) (moment shape deeds)

-- The notes with that of a begin.
abbrev pub notes_with_begin : ℕ → ℕ → List Entry → List Note → List Note
notes_with_begin worker now log notes =
    on_begin worker now log notes (reply_of_begin (begin_of notes log now)) ++ notes

-- The deed appends no entry.
abbrev pub AppendsNothing : Shape → List Deed → Deed → Type 0
AppendsNothing shape past d = log_given shape (d ∷ past) ≡ log_given shape past

-- The deed that comes where the act is done next.
abbrev pub next_deed : Shape → List Deed → Option ℕ → Act → Deed
next_deed shape past lane act = record {
  lane = lane;
  act = act;
  reply = reply_given shape past (log_given shape past) act;
  length = log_end (log_after shape past (log_given shape past) act);
}
