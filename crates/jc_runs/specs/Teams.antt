-- A controller with its workers, and what each event makes of it.
--     Team                       a controller, its workers' registers, the faults before them
--     registers_of teams         the registers of all
--     listed, delivered_at       a cache is listed, or told of the next entry
--     noted_told, ended_if       what a controller keeps of an answer and of a sync's end
--     stride_of log now team w   what a step of the worker gives and leaves
--     clocked_team now team      the controller after a clock
--     KnowsNothing workers team  it knows nothing, and its workers have nothing
use Rattle.std.specs.Prelude.{◌≡◌, ℕ, [], replicate, Bool, false, ◌+◌, ◌-◌, ◌==◌, nat_lt, List, map, length, set, slice_get, Option, Some, None, if◌then◌else◌}
use Rattle.std.specs.Option.{unwrap_or}
use Rattle.jc_asks.specs.declared.asks.Ask.TheVariants.{WriteFirst}
use Rattle.jc_control.specs.Schedules.{ControllerView, Schedule, idle, log_end}
use Rattle.jc_control.specs.ControllerCalls.{answered, clocked, delivered, ended, forgot, forgets_caches, kept_backoff, listed_jobs, listed_pods}
use Rattle.jc_control.specs.declared.begins.Begin.{Begin}
use Rattle.jc_control.specs.declared.begins.Begin.TheVariants.{Begun}
use Rattle.jc_control.specs.declared.ends.SyncEnd.{SyncEnd}
use Rattle.jc_history.specs.Registers.{tells_written}
use Rattle.jc_history.specs.Replies.{reply_of_begin}
use Rattle.jc_plan.specs.Plans.{planned}
use Rattle.jc_asks.specs.declared.asks.Ask.{Ask}
use Rattle.jc_sync.specs.AllRegisters.{Registers, register_of}
use Rattle.jc_asks.specs.Sends.{new_sync}
use Rattle.jc_asks.specs.Steps.{Next, GoesOn, Ends, Stepped, Sync, floor_given, stepped}
use Rattle.jc_types.specs.declared.actions.Fault.{Fault}
use Rattle.jc_types.specs.declared.numbers.Version.{Version}
use Rattle.jc_types.specs.declared.objects.Entry.{Entry}
use Rattle.jc_types.specs.declared.objects.KeyNames.{KeyNames as Key}
use Rattle.jc_types.specs.declared.objects.Kind.{Kind}
use Rattle.jc_types.specs.declared.objects.Kind.TheVariants.{Jobs, Pods}
use Rattle.jc_types.specs.declared.replies.Answer.{Answer}
use Rattle.jc_types.specs.declared.replies.Reply.{Reply}
use Rattle.jc_types.specs.declared.replies.Reply.TheVariants as reply
use Rattle.jc_types.specs.declared.syncs.Backoff.{Backoff}
use Rattle.jc_log.specs.Log.{entry_at, jobs_in, pods_in}

-- What the controller has, the register of each worker, and the fault that each worker's next
-- request meets.
pub record Team : Type 0 where
  pub con : ControllerView
  pub registers : List (Option Sync)
  pub faults : List (Option Fault)

-- The registers of all.
abbrev pub registers_of : List Team → Registers
registers_of teams = map (λ team. team.registers) teams

-- ---- caches

-- What a list of the cache leaves.
abbrev pub listed : Schedule → Kind → List Entry → Schedule
listed schedule Jobs log = listed_jobs schedule (map (λ row. row.1) (jobs_in log)) (log_end log)
listed schedule Pods log = listed_pods schedule (pods_in log) (log_end log)

-- The version after this one.
abbrev pub version_after : Version → Version
version_after version = record { 0 = version.0 + 1 }

-- What the entry of the version leaves, where there is one.
abbrev pub told_of : Schedule → Kind → Version → Option Entry → Schedule
told_of schedule kind version None = schedule
told_of schedule kind version (Some entry) = delivered schedule kind entry version

-- What a delivery leaves: a cache that has fallen out of the window is forgotten.
abbrev pub delivered_at : List Entry → ℕ → Schedule → Kind → Option Version → Schedule
delivered_at log window schedule kind None = schedule
delivered_at log window schedule kind (Some version) =
    if nat_lt version.0 (length log - window) then forgot schedule kind
    else if version.0 == length log then schedule
    else told_of schedule kind (version_after version) (entry_at (version.0 + 1) log)

-- ---- answers and ends

-- What an answer with this version leaves, if it has one.
abbrev pub answered_if : Schedule → Key → Option Version → Schedule
answered_if schedule k None = schedule
answered_if schedule k (Some version) = answered schedule k version

-- The first status was written.
abbrev pub is_first_written : Ask → Answer → Bool
is_first_written WriteFirst given = tells_written given
is_first_written other given = false

-- What is known of the key once a request was answered.
abbrev pub noted_answer : Schedule → Key → Ask → Answer → Backoff → Schedule
noted_answer schedule k ask given backoff =
    if is_first_written ask given
    then kept_backoff (answered_if schedule k (floor_given given)) k backoff
    else answered_if schedule k (floor_given given)

-- So after the sync's next request, if one is left.
abbrev pub noted_ask : Schedule → Key → Option Ask → Answer → Backoff → Schedule
noted_ask schedule k None given backoff = schedule
noted_ask schedule k (Some ask) given backoff = noted_answer schedule k ask given backoff

-- So after the reply to a step.
abbrev pub noted_told : Schedule → Key → Option Ask → Reply → Backoff → Schedule
noted_told schedule k ask (reply.Stepped asked given) backoff =
    noted_ask schedule k ask given backoff
noted_told schedule k ask other backoff = schedule

-- What the end of the key's sync leaves, if it has ended.
abbrev pub ended_if : Schedule → Key → Option SyncEnd → ℕ → Schedule
ended_if schedule k None now = schedule
ended_if schedule k (Some end) now = ended schedule k end now

-- The fault that is pending afterwards: one is used up by a request that was not answered.
abbrev pub fault_left : Option SyncEnd → Option Fault → Option Fault
fault_left None fault = fault
fault_left (Some end) fault = if forgets_caches end then None else fault

-- ---- begins

-- The sync that begins, if one does.
abbrev pub begun_sync : Begin → Option Sync
begun_sync (Begun basis) = Some (new_sync basis)
begun_sync other = None

-- The registers with the worker's sync, if it has begun.
abbrev pub with_sync : List (Option Sync) → ℕ → Option Sync → List (Option Sync)
with_sync rs w None = rs
with_sync rs w (Some sync) = set rs w (Some sync)

-- The registers once the worker's sync began, if it did.
abbrev pub with_begun : List (Option Sync) → ℕ → Begin → List (Option Sync)
with_begun rs w answer = with_sync rs w (begun_sync answer)

-- What a begin of a worker with this register is answered.
abbrev pub begin_reply : Option (Option Sync) → Begin → Reply
begin_reply (Some (Some sync)) answer = reply.WorkerBusy
begin_reply other answer = reply_of_begin answer

-- What it leaves of the schedule: nothing changes where the worker has a sync.
abbrev pub begin_held : Option (Option Sync) → Schedule → Schedule → Schedule
begin_held (Some (Some sync)) old begun = old
begin_held other old begun = begun

-- What it leaves of the registers.
abbrev pub begin_registers : Option (Option Sync) → List (Option Sync) → ℕ → Begin
    → List (Option Sync)
begin_registers (Some (Some sync)) rs w answer = rs
begin_registers other rs w answer = with_begun rs w answer

-- ---- steps

-- What a step gives and leaves, where the worker has a sync, and where it has none.
pub record Stride : Type 0 where
  pub reply : Reply
  pub entry : Option Entry
  pub schedule : Schedule
  pub register : Option Sync
  pub fault : Option Fault

-- How the sync ends by the step, if it does.
abbrev pub end_of_next : Next → Option SyncEnd
end_of_next (GoesOn sync) = None
end_of_next (Ends end) = Some end

-- The stride of this step of the sync.
abbrev pub stride_by : ℕ → Option Fault → Schedule → Sync → Stepped → Stride
stride_by now fault schedule sync step = record {
  reply = step.reply;
  entry = step.entry;
  schedule =
      ended_if
      (noted_told schedule sync.flight.basis.key (slice_get sync.left 0) step.reply
      (planned sync.flight.basis).backoff)
      sync.flight.basis.key (end_of_next step.next) now;
  register = register_of step.next;
  fault = fault_left (end_of_next step.next) fault;
}

-- That of a worker with this register.
abbrev pub stride_at : List Entry → ℕ → Option Fault → Schedule → Option Sync → Stride
stride_at log now fault schedule None = record {
  reply = reply.Idle;
  entry = None;
  schedule = schedule;
  register = None;
  fault = fault;
}
stride_at log now fault schedule (Some sync) =
    stride_by now fault schedule sync (stepped now fault log sync)

-- That of the worker.
abbrev pub stride_of : List Entry → ℕ → Team → ℕ → Stride
stride_of log now team w =
    stride_at log now (unwrap_or (slice_get team.faults w) None) team.con.schedule
    (unwrap_or (slice_get team.registers w) None)

-- ---- the clock

-- The controller after the clock.
abbrev pub clocked_team : ℕ → Team → Team
clocked_team now team =
    record team { con = record team.con { schedule = clocked team.con.schedule now } }

-- ---- the start

-- The controller knows nothing, and no worker has a sync or a fault.
pub record KnowsNothing (workers : ℕ) (team : Team) : Type 0 where
  pub schedule : team.con.schedule ≡ idle
  pub jobs : team.con.jobs ≡ []
  pub rows : team.con.rows ≡ []
  pub registers : team.registers ≡ replicate workers None
  pub faults : team.faults ≡ replicate workers None
