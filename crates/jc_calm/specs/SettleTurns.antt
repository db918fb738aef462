-- From a calm state a settle goes on by turns: a sync that runs alone from its begin to its end, an act of the node, or
-- the clock.
--     faults_pending shape past    how many workers' next requests meet a fault
--     asks_for_a_pod reply         a sync asked to make, mark, let go or release a pod
--     is_of_pods d                 the deed is the node's, or asks for a pod
--     pods_asked plan              how many pods a plan makes, marks, lets go and releases
--     SawAll notes log now basis   the sync sees the whole log
--     BeginsAlone shape past ..    a sync begins, of the key that is first in line, and sees the whole log
--     AsksForAPod shape past       after so many events a sync asks for a pod
--     MovesTheClock ..             the clock moves to the least delay
--     notes_of_nothing w basis now   what is noted of a sync that asks for nothing
--     EndsAtOnce ..              a sync begins, asks for nothing and ends
--     WritesStatus ..               one begins and writes its Job's status
--     WritesNoMore ..              and asks for nothing more
--     MeetsFault ..                one begins, and its first request is not answered
--     Turn shape past              what a settle does from a calm state up to the next one
use Rattle.std.specs.Prelude.{◌≡◌, ℕ, ◌+◌, ◌-◌, ◌<◌, ◌≤◌, ◌==◌, Bool, true, false, not, ◌||◌, List, [], ◌∷◌, ◌++◌, length, if◌then◌else◌, Some, None, is_some}
use Rattle.std.specs.List.{AllByRecursion as Each}
use Rattle.jc_types.specs.declared.actions.Fault.{Fault}
use Rattle.jc_types.specs.declared.objects.Job.{Job}
use Rattle.jc_types.specs.declared.objects.Entry.{Entry}
use Rattle.jc_types.specs.declared.objects.Entry.TheVariants.{JobPut}
use Rattle.jc_types.specs.declared.objects.KeyNames.{KeyNames as Key}
use Rattle.jc_types.specs.declared.replies.Answer.TheVariants as answer
use Rattle.jc_types.specs.declared.replies.Reply.{Reply}
use Rattle.jc_types.specs.declared.replies.Reply.TheVariants as reply
use Rattle.jc_types.specs.declared.replies.Request.{Request}
use Rattle.jc_types.specs.declared.replies.Request.TheVariants as request
use Rattle.jc_types.specs.declared.runs.Shape.{Shape}
use Rattle.jc_types.specs.declared.statuses.JobStatus.{JobStatus}
use Rattle.jc_states.specs.declared.bases.Basis.{Basis}
use Rattle.jc_control.specs.Schedules.{log_end}
use Rattle.jc_control.specs.declared.ends.SyncEnd.TheVariants as end
use Rattle.jc_log.specs.Acts as does
use Rattle.jc_log.specs.Acts.{Act}
use Rattle.jc_log.specs.Deeds.{Deed}
use Rattle.jc_log.specs.Log.{next_version}
use Rattle.jc_log.specs.Requests.{with_status}
use Rattle.jc_plan.specs.Plans.{planned}
use Rattle.jc_plan.specs.declared.plans.Planned.{Planned}
use Rattle.jc_asks.specs.Asks.{asks_of}
use Rattle.jc_history.specs.Available.{is_quiescent, least_of_all}
use Rattle.jc_history.specs.Diaries.{moment}
use Rattle.jc_history.specs.Fresh.{basis as basis_of}
use Rattle.jc_history.specs.Lines.{line}
use Rattle.jc_history.specs.Notes.{Note, Began, Ended, Ticked}
use Rattle.jc_history.specs.Registers.{asks_status, pending}
use Rattle.jc_history.specs.Replies.{diary, log_given}
use Rattle.jc_settle.specs.Comes.{HaveNoKeys}
use Rattle.jc_settle.specs.Settles.{IsCalm, is_on_the_way, next_of_settle, settled_on}
use Rattle.jc_settle.specs.Totals.{total}

-- ---- faults

-- How many workers' next requests meet a fault.
abbrev pub faults_pending : Shape → List Deed → ℕ
faults_pending shape past =
    total (λ c. total (λ w. if is_some (pending w (diary shape c past)) then 1 else 0) shape.workers)
    shape.controllers

-- ---- pods

-- A sync asked to make, mark, let go or release a pod.
abbrev pub asks_for_a_pod : Reply → Bool
asks_for_a_pod (reply.Stepped asked given) = not (asks_status asked)
asks_for_a_pod other = false

-- The act is the node's.
abbrev pub is_node : Act → Bool
is_node does.Node = true
is_node other = false

-- The deed is the node's, or asks for a pod.
abbrev pub is_of_pods : Deed → Bool
is_of_pods d = is_node d.act || asks_for_a_pod d.reply

-- How many pods a plan makes, marks, lets go and releases.
abbrev pub pods_asked : Planned → ℕ
pods_asked plan =
    length plan.creates + length plan.marks + length plan.let_goes + length plan.releases

-- After so many events of the settle a deed asks for a pod.
pub record AsksForAPod (shape : Shape) (past : List Deed) : Type 0 where
  pub events : ℕ
  pub ask : Deed
  pub next : next_of_settle shape (settled_on shape events past) ≡ Some ask
  pub asks : asks_for_a_pod ask.reply ≡ true

-- ---- turns

-- The clock moves to the least delay, where no key is in line; it writes nothing, and each controller notes it.
pub record MovesTheClock (shape : Shape) (past : List Deed) (d : Deed) (due : ℕ) : Type 0 where
  pub next : next_of_settle shape past ≡ Some d
  pub act : d.act ≡ does.Clock (due - moment shape past)
  pub least : least_of_all shape past (log_given shape past) ≡ Some due
  pub lines : HaveNoKeys shape past (log_given shape past)
  pub reply : d.reply ≡ reply.Now (moment shape past + (due - moment shape past))
  pub now_is : moment shape (d ∷ past) ≡ moment shape past + (due - moment shape past)
  pub log_is : log_given shape (d ∷ past) ≡ log_given shape past
  pub notes : (c : ℕ) → diary shape c (d ∷ past)
      ≡ Ticked (moment shape past + (due - moment shape past)) ∷ diary shape c past
  pub calm : IsCalm shape (d ∷ past)
  pub faults : faults_pending shape (d ∷ past) ≤ faults_pending shape past

-- The sync sees all that the log has, and what the controller has noted, at this moment.
abbrev pub SawAll : List Note → List Entry → ℕ → Basis → Type 0
SawAll notes log now basis = basis ≡ basis_of notes log now basis.key (log_end log) (log_end log)

-- A sync begins: the settle's next deed begins it, of the key that is first in line, and it sees the whole log.
pub record BeginsAlone (shape : Shape) (past : List Deed) (c w : ℕ) (basis : Basis) (begin : Deed)
    : Type 0 where
  pub next : next_of_settle shape past ≡ Some begin
  pub controller : c < shape.controllers
  pub worker : w < shape.workers
  pub act : begin.act ≡ does.Begin c w
  pub rest : List Key
  pub first : line (diary shape c past) ≡ basis.key ∷ rest
  pub saw : SawAll (diary shape c past) (log_given shape past) (moment shape past) basis

-- What its controller notes of a sync that asks for nothing, the newest note first.
abbrev pub notes_of_nothing : ℕ → Basis → ℕ → List Note
notes_of_nothing w basis now = Ended w basis (end.Ended (planned basis).next) now ∷ Began w basis ∷ []

-- It asks for nothing, and ends at its only step: the log and the moment are as they were, its controller has noted its
-- begin and its end, and no other has noted anything.
pub record EndsAtOnce (shape : Shape) (past : List Deed) (c w : ℕ) (basis : Basis) (begin end : Deed)
    : Type 0 where
  pub asks : asks_of (planned basis) ≡ []
  pub writes : (planned basis).first ≡ None
  pub after : settled_on shape 2 past ≡ end ∷ begin ∷ past
  pub reply : end.reply ≡ reply.Ended
  pub log_is : log_given shape (end ∷ begin ∷ past) ≡ log_given shape past
  pub now_is : moment shape (end ∷ begin ∷ past) ≡ moment shape past
  pub notes : (e : ℕ) → diary shape e (end ∷ begin ∷ past)
      ≡ (if c == e then notes_of_nothing w basis (moment shape past) else []) ++ diary shape e past
  pub calm : IsCalm shape (end ∷ begin ∷ past)
  pub faults : faults_pending shape (end ∷ begin ∷ past) ≤ faults_pending shape past

-- It asks for no pod before its first status, and its first step writes that.
pub record WritesStatus (shape : Shape) (past : List Deed) (c w : ℕ) (basis : Basis) (job : Job)
    (status : JobStatus) (begin write : Deed) : Type 0 where
  pub no_fault : pending w (diary shape c past) ≡ None
  pub job_is : basis.job ≡ Some job
  pub status_is : (planned basis).first ≡ Some status
  pub creates : (planned basis).creates ≡ []
  pub marks : (planned basis).marks ≡ []
  pub let_goes : (planned basis).let_goes ≡ []
  pub after : settled_on shape 2 past ≡ write ∷ begin ∷ past
  pub reply : write.reply ≡ reply.Stepped request.Status (answer.Written (next_version (log_given shape past)))
  pub log_is : log_given shape (write ∷ begin ∷ past)
      ≡ JobPut (with_status (log_given shape past) job status) ∷ log_given shape past

-- It asks for nothing more: after so many events, behind its begin lists, deliveries and steps, it is calm again, and that
-- status is all that was written.
pub record WritesNoMore (shape : Shape) (past : List Deed) (basis : Basis) (job : Job) (status : JobStatus)
    : Type 0 where
  pub events : ℕ
  pub begin : Deed
  pub next : next_of_settle shape past ≡ Some begin
  pub run : List Deed
  pub are : settled_on shape events past ≡ run ++ begin ∷ past
  pub way : Each (λ (d : Deed). is_on_the_way d.act ≡ true) run
  pub releases : (planned basis).releases ≡ []
  pub second : (planned basis).second ≡ None
  pub log_is : log_given shape (settled_on shape events past)
      ≡ JobPut (with_status (log_given shape past) job status) ∷ log_given shape past
  pub now_is : moment shape (settled_on shape events past) ≡ moment shape past
  pub calm : IsCalm shape (settled_on shape events past)
  pub faults : faults_pending shape (settled_on shape events past) ≤ faults_pending shape past

-- A fault is pending: its first request is not answered, which ends it. After so many events it is calm again, and
-- fewer faults are pending.
pub record MeetsFault (shape : Shape) (past : List Deed) (c w : ℕ) (begin fails : Deed) : Type 0 where
  pub fault : Fault
  pub is_pending : pending w (diary shape c past) ≡ Some fault
  pub after : settled_on shape 2 past ≡ fails ∷ begin ∷ past
  pub asked : Request
  pub reply : fails.reply ≡ reply.Stepped asked answer.Unavailable
  pub events : ℕ
  pub now_is : moment shape (settled_on shape events past) ≡ moment shape past
  pub calm : IsCalm shape (settled_on shape events past)
  pub fewer : faults_pending shape (settled_on shape events past) < faults_pending shape past

-- What a settle does from a calm state up to the next one.
pub data Turn (shape : Shape) (past : List Deed) : Type 0 where
  -- Nothing is available.
  Rests : is_quiescent shape past (log_given shape past) ≡ true → Turn shape past
  -- The node acts.
  NodeActs : (d : Deed) → next_of_settle shape past ≡ Some d → d.act ≡ does.Node → Turn shape past
  -- The clock moves.
  ClockMoves : (d : Deed) (due : ℕ) → MovesTheClock shape past d due → Turn shape past
  -- A sync finds nothing to do.
  Finds : (c w : ℕ) (basis : Basis) (begin end : Deed) → BeginsAlone shape past c w basis begin
      → EndsAtOnce shape past c w basis begin end → Turn shape past
  -- One asks for a pod at its first step.
  Asks : (c w : ℕ) (basis : Basis) (begin : Deed) → BeginsAlone shape past c w basis begin
      → pending w (diary shape c past) ≡ None → (asks : AsksForAPod shape past) → asks.events ≡ 1
      → 0 < pods_asked (planned basis) → Turn shape past
  -- One writes its Job's status, and asks for a pod then.
  WritesAndAsks : (c w : ℕ) (basis : Basis) (job : Job) (status : JobStatus) (begin write : Deed)
      → BeginsAlone shape past c w basis begin → WritesStatus shape past c w basis job status begin write
      → AsksForAPod shape past → 0 < pods_asked (planned basis) → Turn shape past
  -- One writes its Job's status, and no more.
  Writes : (c w : ℕ) (basis : Basis) (job : Job) (status : JobStatus) (begin write : Deed)
      → BeginsAlone shape past c w basis begin → WritesStatus shape past c w basis job status begin write
      → WritesNoMore shape past basis job status → Turn shape past
  -- One meets a fault.
  Fails : (c w : ℕ) (basis : Basis) (begin fails : Deed) → BeginsAlone shape past c w basis begin
      → MeetsFault shape past c w begin fails → Turn shape past
