-- A step of a sync: what it asks, what the store answers, and what becomes of the sync (batch/v1, KEP-2307).
--     Sync                                a sync under way: what the ledger sees of it, and what is left to ask
--     answered_to log now flight ask      what the store answers
--     as_answer reply                     the store's reply as an answer to a sync
--     flight_after ask given flight       the sync after the answer
--     answered_at flight left given       the same, with what is left to ask
--     end_given ask given                 how the answer ends it, if it does
--     Next                                the sync goes on, or it has ended
--     Stepped                             reply, entry and what is next
--     stepped now fault log sync          a step, with the fault that is pending
--     flights_of next                     the syncs under way afterwards
--     floor_given given                   what a controller notes of an answer
--     IsStepOf d past log flight step     the deed is this step of the sync
--     IsStepped step reply end ..         what code has done is this step
use Rattle.std.specs.Prelude.{◌≡◌, ℕ, List, [], ◌∷◌, length, Option, Some, None}
pub use Rattle.jc_control.specs.declared.ends.SyncEnd.{SyncEnd}
use Rattle.jc_control.specs.declared.ends.SyncEnd.TheVariants as ends
use Rattle.jc_types.specs.declared.actions.Fault.{Fault}
use Rattle.jc_types.specs.declared.actions.Fault.TheVariants as fault
use Rattle.jc_types.specs.declared.numbers.Version.{Version}
use Rattle.jc_types.specs.declared.objects.Entry.{Entry}
use Rattle.jc_types.specs.declared.objects.Job.{Job}
use Rattle.jc_types.specs.declared.replies.Answer.{Answer}
use Rattle.jc_types.specs.declared.replies.Answer.TheVariants as answer
use Rattle.jc_types.specs.declared.replies.Reply.{Reply}
use Rattle.jc_types.specs.declared.replies.Reply.TheVariants as reply
use Rattle.jc_types.specs.declared.statuses.JobStatus.{JobStatus}
use Rattle.jc_log.specs.Requests.{Answered, refused, grown, create_pod_gives, mark_pod_gives, let_go_gives, write_status_gives, release_gives}
use Rattle.jc_log.specs.Deeds.{Deed}
use Rattle.jc_plan.specs.declared.plans.Planned.{Planned}
use Rattle.jc_plan.specs.Plans.{planned}
use Rattle.jc_ledger.specs.declared.flights.Flight.{Flight}
use Rattle.jc_ledger.specs.EventKinds.{began, with_released}
use Rattle.jc_ledger.specs.Syncs.{step_sync}
use Rattle.jc_asks.specs.declared.asks.Ask.{Ask}
use Rattle.jc_asks.specs.declared.asks.Ask.TheVariants.{MakePod, MarkPod, LetPodGo, WriteFirst, ReleasePod, WriteSecond}
use Rattle.jc_asks.specs.Asks.{as_request, asks_after}

-- A sync under way: what the ledger sees of it, and what is left to ask.
pub record Sync : Type 0 where
  pub flight : Flight
  pub left : List Ask

-- ---- what the store answers

-- To the creation of a pod for the Job that the sync sees.
abbrev pub make_gives : List Entry → Option ℕ → ℕ → Option Job → Answered
make_gives log index now None = refused reply.NotFound
make_gives log index now (Some job) = create_pod_gives log job index now

-- To a write of the status of that Job, at the version that the sync sends.
abbrev pub status_gives : List Entry → Flight → JobStatus → Option Job → Answered
status_gives log flight status None = refused reply.NotFound
status_gives log flight status (Some job) =
    write_status_gives log flight.basis.key job.uid flight.sends status

-- To a write of a status of the plan, where it has one.
abbrev pub written_gives : List Entry → Flight → Option JobStatus → Answered
written_gives log flight None = refused reply.NotFound
written_gives log flight (Some status) = status_gives log flight status flight.basis.job

-- To the request.
abbrev pub answered_to : List Entry → ℕ → Flight → Ask → Answered
answered_to log now flight (MakePod index) = make_gives log index now flight.basis.job
answered_to log now flight (MarkPod u) = mark_pod_gives log u now
answered_to log now flight (LetPodGo u v) = let_go_gives log u v
answered_to log now flight WriteFirst = written_gives log flight (planned flight.basis).first
answered_to log now flight (ReleasePod u) = release_gives log u
answered_to log now flight WriteSecond = written_gives log flight (planned flight.basis).second

-- The store's reply, as it answers a sync. A reply of no request is none.
abbrev pub as_answer : Reply → Answer
as_answer (reply.Created u v) = answer.Created u v
as_answer (reply.Written v) = answer.Written v
as_answer (reply.Unchanged v) = answer.Unchanged v
as_answer (reply.Released v) = answer.Released v
as_answer (reply.Removed v) = answer.Removed v
as_answer (reply.Conflict v) = answer.Conflict v
as_answer reply.NotFound = answer.NotFound
as_answer reply.AlreadyExists = answer.AlreadyExists
as_answer (reply.Immutable field) = answer.Immutable field
as_answer (reply.Invalid field) = answer.Invalid field
as_answer (reply.Final phase) = answer.Final phase
as_answer (reply.BadStep from to) = answer.BadStep from to
as_answer (reply.NoContainer name) = answer.NoContainer name
as_answer reply.NotTracked = answer.NotTracked
as_answer other = answer.Unavailable

-- ---- what becomes of the sync

-- The sync knows its first status once that is written, and sends the version that it got.
abbrev pub first_answered : Option JobStatus → Answer → Flight → Flight
first_answered first (answer.Written v) flight = record flight { written = first; sends = v }
first_answered first other flight = flight

-- The sync after the answer: an answered release counts as made, whatever the answer is.
abbrev pub flight_after : Ask → Answer → Flight → Flight
flight_after WriteFirst given flight = first_answered (planned flight.basis).first given flight
flight_after (ReleasePod u) given flight = with_released flight u
flight_after other given flight = flight

-- The sync after an answer to its next request.
abbrev pub answered_at : Flight → List Ask → Answer → Sync
answered_at flight [] given = record { flight = flight; left = [] }
answered_at flight (ask ∷ left) given =
    record { flight = flight_after ask given flight; left = asks_after ask given left }

-- How a write of the status that was refused ends the sync.
abbrev pub refusal : Answer → Option SyncEnd
refusal (answer.Conflict v) = Some ends.Retry
refusal answer.NotFound = Some ends.Gone
refusal other = None

-- A write of the status that is refused ends the sync. No other answer does.
abbrev pub end_given : Ask → Answer → Option SyncEnd
end_given WriteFirst given = refusal given
end_given WriteSecond given = refusal given
end_given other given = None

-- The sync goes on, or it has ended.
pub data Next : Type 0 where
  GoesOn : Sync → Next
  Ends : SyncEnd → Next

-- The sync goes on, unless it has ended so.
abbrev pub next_unless : Option SyncEnd → Sync → Next
next_unless None sync = GoesOn sync
next_unless (Some end) sync = Ends end

-- What is next after the answer to the request.
abbrev pub next_after : Flight → Ask → List Ask → Answer → Next
next_after flight ask left given = next_unless (end_given ask given) (answered_at flight (ask ∷ left) given)

-- ---- a step

-- The reply, the entry that was appended, where one was, and what is next.
pub record Stepped : Type 0 where
  pub reply : Reply
  pub entry : Option Entry
  pub next : Next

-- The request is made and answered. Under a fault it is not answered, and with Drop not made.
abbrev pub stepped_by : Option Fault → Flight → Ask → List Ask → Answered → Stepped
stepped_by None flight ask left answered = record {
  reply = reply.Stepped (as_request ask) (as_answer answered.reply);
  entry = answered.entry;
  next = next_after flight ask left (as_answer answered.reply);
}
stepped_by (Some fault.Drop) flight ask left answered = record {
  reply = reply.Stepped (as_request ask) answer.Unavailable;
  entry = None;
  next = Ends ends.Unavailable;
}
stepped_by (Some fault.Lose) flight ask left answered = record {
  reply = reply.Stepped (as_request ask) answer.Unavailable;
  entry = answered.entry;
  next = Ends ends.Unavailable;
}

-- A step with these requests left: the sync ends where none is, and tells when its key is to be synced again.
abbrev pub stepped_at : ℕ → Option Fault → List Entry → Flight → List Ask → Stepped
stepped_at now pending log flight [] = record {
  reply = reply.Ended;
  entry = None;
  next = Ends (ends.Ended (planned flight.basis).next);
}
stepped_at now pending log flight (ask ∷ left) =
    stepped_by pending flight ask left (answered_to log now flight ask)

-- A step of the sync.
abbrev pub stepped : ℕ → Option Fault → List Entry → Sync → Stepped
stepped now pending log sync = stepped_at now pending log sync.flight sync.left

-- The syncs under way afterwards.
abbrev pub flights_of : Next → List Flight
flights_of (GoesOn sync) = sync.flight ∷ []
flights_of (Ends end) = []

-- ---- what a controller notes of an answer

-- The version that raises the floor of the key.
abbrev pub floor_given : Answer → Option Version
floor_given (answer.Created u v) = Some v
floor_given (answer.Written v) = Some v
floor_given (answer.Unchanged v) = Some v
floor_given (answer.Released v) = Some v
floor_given other = None

-- ---- the deed

-- The deed is this step of the sync.
pub record IsStepOf (d : Deed) (past : List Deed) (log : List Entry) (flight : Flight) (step : Stepped) : Type 0 where
  pub reply : d.reply ≡ step.reply
  pub length_is : d.length.0 ≡ length (grown log step.entry)
  pub sync : step_sync d past ≡ Some (began flight.basis)

-- ---- a step as code gives it

-- The sync goes on as this one, or has ended so.
abbrev pub GoesTo : Option SyncEnd → Sync → Next → Type 0
GoesTo None sync next = next ≡ GoesOn sync
GoesTo (Some end) sync next = next ≡ Ends end

-- The reply, the log and the sync afterwards are those of the step.
pub record IsStepped (step : Stepped) (told : Reply) (end : Option SyncEnd) (old new : List Entry) (sync : Sync) : Type 0 where
  pub reply : told ≡ step.reply
  pub log : new ≡ grown old step.entry
  pub next : GoesTo end sync step.next
