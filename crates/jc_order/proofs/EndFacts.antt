-- Where both caches have seen the whole log every key is fresh.
use Rattle.std.proofs.Common.{◌≡◌, ℕ, suc, ◌+◌, ◌-◌, ◌≤◌, ◌==◌, nat_lt, Bool, true, false, cond, not, ◌&&◌, List, [], ◌∷◌, ◌++◌, length, find, Option, Some, None, refl, sym, ap, ◌∙◌, subst, arith, ltb-true}
use Rattle.std.specs.List.{AllByRecursion as Each}
use Rattle.std.specs.Option.{option_map, option_to_list}
use Rattle.jc_log.specs.Acts as does
use Rattle.jc_control.specs.declared.begins.Begin.TheVariants as begin
use Rattle.jc_control.specs.declared.begins.Lag.{Lag}
use Rattle.jc_control.specs.declared.ends.SyncEnd.{SyncEnd}
use Rattle.jc_control.specs.ControllerCalls.{behind, first_lag, pods_need}
use Rattle.jc_log.specs.Range.{end_of_moments}
use Rattle.jc_plan.specs.Plans.{planned}
use Rattle.jc_types.specs.declared.actions.ContainerChange.{ContainerChange}
use Rattle.jc_types.specs.declared.actions.Fault.{Fault}
use Rattle.jc_types.specs.declared.actions.Fault.TheVariants.{Drop, Lose}
use Rattle.jc_types.specs.declared.actions.PhaseChange.{PhaseChange}
use Rattle.jc_types.specs.declared.actions.SpecChange.{SpecChange}
use Rattle.jc_types.specs.declared.numbers.Uid.{Uid}
use Rattle.jc_types.specs.declared.numbers.Version.{Version}
use Rattle.jc_types.specs.declared.objects.Entry.{Entry}
use Rattle.jc_types.specs.declared.objects.Entry.TheVariants.{JobPut, JobGone, PodPut, PodGone}
use Rattle.jc_types.specs.declared.objects.Job.{Job}
use Rattle.jc_types.specs.declared.objects.Kind.{Kind}
use Rattle.jc_types.specs.declared.objects.Kind.TheVariants.{Jobs, Pods}
use Rattle.jc_types.specs.declared.objects.Pod.{Pod}
use Rattle.jc_types.specs.declared.objects.Phase.TheVariants.{Pending, Running}
use Rattle.jc_types.specs.declared.replies.Answer.{Answer}
use Rattle.jc_types.specs.declared.replies.Reply.{Reply}
use Rattle.jc_types.specs.declared.replies.Reply.TheVariants as reply
use Rattle.jc_types.specs.declared.replies.Request.{Request}
use Rattle.jc_types.specs.declared.replies.Field.TheVariants.{Completions, Parallelism, BackoffLimit, Deadline}
use Rattle.jc_types.specs.declared.runs.Shape.{Shape}
use Rattle.jc_types.specs.declared.specifications.JobSpec.{JobSpec}
use Rattle.jc_types.specs.declared.statuses.JobStatus.{JobStatus}
use Rattle.jc_states.specs.declared.bases.Basis.{Basis}
use Rattle.jc_log.specs.Requests.{Answered, grown, refused, accepted, create_job_at, create_pod_gives, delete_job_at, is_other, let_go_at, made_job, made_pod, mark_pod_at, pod_entry, release_at, released, report_phase_at, report_unless}
use Rattle.jc_log.specs.Requests.{same_course_of, is_unnamed, update_refusal, update_spec_at, update_unless, changed_spec, with_mark, with_report, with_spec, with_status, gone_job, without_finalizer, write_status_at}
use Rattle.jc_log.specs.Acts.{Act}
use Rattle.jc_log.specs.Deeds.{Deed}
use Rattle.jc_types.specs.declared.objects.KeyNames.{KeyNames as Key}
use Rattle.jc_types.specs.Keys.{same_key, same_uid}
use Rattle.jc_log.specs.Log.{Life, Live, Gone, job_in, job_after, life, life_after, living, next_uid, next_version, pod_in, upto}
use Rattle.jc_states.specs.Pods.{goes, is_final, is_marked}
use Rattle.jc_types.specs.Equality.{same_limits, same_phase, same_status}
use Rattle.jc_log.specs.Writes.{version_of}
use Rattle.jc_log.proofs.LogFacts.{upto-all}
use Rattle.jc_ledger.specs.declared.flights.Flight.{Flight}
use Rattle.jc_asks.specs.declared.asks.Ask.{Ask}
use Rattle.jc_asks.specs.declared.asks.Ask.TheVariants.{MakePod, MarkPod, LetPodGo, WriteFirst, ReleasePod, WriteSecond}
use Rattle.jc_asks.specs.Steps.{as_answer, answered_to, make_gives, status_gives, stepped_at, written_gives, floor_given as version_in}
use Rattle.jc_history.specs.SoFar.{so_far}
use Rattle.jc_history.specs.Diaries.{end_by, moment, notes_taken, notes, on_begin, on_clock, on_delivery, on_list, on_step, restarts, on_lag}
use Rattle.jc_history.specs.Fresh.{basis, begin as begin_of, begin_at, begin_first, begin_unless, cache_lag}
use Rattle.jc_history.specs.Legal.{IsLegal}
use Rattle.jc_history.specs.Lines.{line}
use Rattle.jc_history.specs.Nodes.{NodeAct, change_by, finish_change, node_step, fate}
use Rattle.jc_history.specs.Notes.{Note, Asked, Ended}
use Rattle.jc_history.specs.Numbers.{number}
use Rattle.jc_history.specs.Registers.{floor, asks_status, later_if, made, pending, register, version_told}
use Rattle.jc_history.specs.Replies.{begin_gives, deliver_gives, finish_gives, gives, log_given, node_gives, step_done, step_gives}
use Rattle.jc_control.specs.Schedules.{log_end}
use Rattle.jc_history.proofs.DiaryFacts.{either, legal-told, notes-within, number-within, grown-longer}
use Rattle.jc_order.specs.Ends.{IsAtMost, IsUpToDate, Placed}
use Rattle.jc_types.proofs.ListFacts.{Each-append as each-append}

-- ---- the versions of what the log has

abbrev IfJob : ℕ → Option Job → Type 0
IfJob n None = Unit {0}
IfJob n (Some job) = job.version.0 ≤ n

abbrev IfPod : ℕ → Option Pod → Type 0
IfPod n None = Unit {0}
IfPod n (Some pod) = pod.version.0 ≤ n

pub job-placed : (k : Key) (log : List Entry) → Placed log → IfJob (length log) (job_in k log)
job-placed k [] h = tt
job-placed k (e ∷ older) h = by e h.0 (further (job_in k older) (job-placed k older h.1))
  where
    further : (o : Option Job) → IfJob (length older) o → IfJob (suc (length older)) o
    further None w = tt
    further (Some job) w = omega (arith, w)

    put : (n : ℕ) (b : Bool) (o new : Option Job) → IfJob n o → IfJob n new → IfJob n (cond b new o)
    put n true o new w v = v
    put n false o new w v = w

    by : (e : Entry) → version_of e ≤ suc (length older) → IfJob (suc (length older)) (job_in k older) → IfJob (suc (length older)) (job_after k e (job_in k older))
    by (JobPut job) w rest = put _ (same_key job.key k) (job_in k older) (Some job) rest w
    by (JobGone job) w rest = put _ (same_key job.key k) (job_in k older) None rest tt
    by (PodPut pod) w rest = rest
    by (PodGone pod) w rest = rest

pub pod-placed : (u : Uid) (log : List Entry) → Placed log → IfPod (length log) (pod_in u log)
pod-placed u [] h = tt
pod-placed u (e ∷ older) h = by e h.0 (further (living (life u older)) (pod-placed u older h.1))
  where
    further : (o : Option Pod) → IfPod (length older) o → IfPod (suc (length older)) o
    further None w = tt
    further (Some pod) w = omega (arith, w)

    put : (n : ℕ) (b : Bool) (old new : Life) → IfPod n (living old) → IfPod n (living new) → IfPod n (living (cond b new old))
    put n true old new w v = v
    put n false old new w v = w

    by : (e : Entry) → version_of e ≤ suc (length older) → IfPod (suc (length older)) (living (life u older)) → IfPod (suc (length older)) (living (life_after u e (life u older)))
    by (JobPut job) w rest = rest
    by (JobGone job) w rest = rest
    by (PodPut pod) w rest = put _ (same_uid pod.uid u) (life u older) (Live pod) rest w
    by (PodGone pod) w rest = put _ (same_uid pod.uid u) (life u older) Gone rest tt

-- ---- what the store answers

abbrev IfEntry : ℕ → Option Entry → Type 0
IfEntry n None = Unit {0}
IfEntry n (Some e) = version_of e ≤ n

-- The version in the entry, and the one that the answer tells, are places of the log after it.
record Fits (log : List Entry) (a : Answered) : Type 0 where
  entry : IfEntry (suc (length log)) a.entry
  version : IsAtMost (length (grown log a.entry)) (version_in (as_answer a.reply))

module _ (log : List Entry) where
  no : (r : Reply) → IsAtMost (length log) (version_in (as_answer r)) → Fits log (refused r)
  no r w = record { entry = tt; version = w }

  yes : (r : Reply) (e : Entry) → version_of e ≤ suc (length log) → IsAtMost (suc (length log)) (version_in (as_answer r)) → Fits log (accepted r e)
  yes r e w v = record { entry = w; version = v }

  -- Which of two answers.
  which : (b : Bool) (x y : Answered) → Fits log x → Fits log y → Fits log (cond b x y)
  which true x y h g = h
  which false x y h g = g

  put-pod : (r : Reply) (pod : Pod) → pod.version.0 ≤ suc (length log) → IsAtMost (suc (length log)) (version_in (as_answer r)) → Fits log (accepted r (pod_entry pod))
  put-pod r pod w v = by (goes pod)
    where
      by : (b : Bool) → Fits log (accepted r (cond b (PodGone pod) (PodPut pod)))
      by true = record { entry = w; version = v }
      by false = record { entry = w; version = v }

  created-fits : (key : Key) (spec : JobSpec) (now : ℕ) (o : Option Job) → Fits log (create_job_at log key spec now o)
  created-fits key spec now (Some job) = no reply.AlreadyExists tt
  created-fits key spec now None = yes (reply.Created (next_uid log) (next_version log)) (JobPut (made_job log key spec now)) (omega arith) (omega arith)

  -- A refusal of an update tells no version.
  abbrev IfTold : Option Reply → Type 0
  IfTold None = Unit {0}
  IfTold (Some r) = IsAtMost (length log) (version_in (as_answer r))

  refusal-tells : (a b c d : Bool) → IfTold (cond a (Some (reply.Immutable Completions)) (cond b (Some (reply.Invalid Parallelism)) (cond c (Some (reply.Invalid BackoffLimit)) (cond d (Some (reply.Invalid Deadline)) None))))
  refusal-tells true b c d = tt
  refusal-tells false true c d = tt
  refusal-tells false false true d = tt
  refusal-tells false false false true = tt
  refusal-tells false false false false = tt

  updated-fits : (version : Option Version) (change : SpecChange) (o : Option Job) → IfJob (length log) o → Fits log (update_spec_at log version change o)
  updated-fits version change None w = no reply.NotFound tt
  updated-fits version change (Some job) w = which (is_other version job.version) _ _ (no (reply.Conflict job.version) tt) (unless (update_refusal job.spec change) (refusal-tells _ _ _ _))
    where
      unless : (o : Option Reply) → IfTold o → Fits log (update_unless log job change o)
      unless (Some r) e = no r e
      unless None e = which (same_limits job.spec (changed_spec job.spec change)) _ _
          (no (reply.Unchanged job.version) w) (yes (reply.Written (next_version log))
          (JobPut (with_spec log job (changed_spec job.spec change))) (omega arith) (omega arith))

  status-fits : (uid : Uid) (version : Version) (status : JobStatus) (o : Option Job) → IfJob (length log) o → Fits log (write_status_at log uid version status o)
  status-fits uid version status None w = no reply.NotFound tt
  status-fits uid version status (Some job) w =
      which (not (same_uid job.uid uid)) _ _ (no reply.NotFound tt)
      (which (not (job.version.0 == version.0)) _ _ (no (reply.Conflict job.version) tt)
      (which (same_status job.status status) _ _ (no (reply.Unchanged job.version) w)
      (yes (reply.Written (next_version log)) (JobPut (with_status log job status)) (omega arith) (omega arith))))

  deleted-fits : (o : Option Job) → Fits log (delete_job_at log o)
  deleted-fits None = no reply.NotFound tt
  deleted-fits (Some job) = yes (reply.Removed (next_version log)) (JobGone (gone_job log job)) (omega arith) tt

  made-fits : (owner : Job) (index : Option ℕ) (now : ℕ) → Fits log (create_pod_gives log owner index now)
  made-fits owner index now = yes (reply.Created (next_uid log) (next_version log)) (PodPut (made_pod log owner index now)) (omega arith) (omega arith)

  marked-fits : (now : ℕ) (o : Option Pod) → IfPod (length log) o → Fits log (mark_pod_at log now o)
  marked-fits now None w = no reply.NotFound tt
  marked-fits now (Some pod) w = which (is_marked pod) _ _ (no (reply.Unchanged pod.version) w) (put-pod (reply.Written (next_version log)) (with_mark log pod now) (omega arith) (omega arith))

  released-fits : (pod : Pod) → Fits log (released log pod)
  released-fits pod = put-pod (reply.Released (next_version log)) (without_finalizer log pod) (omega arith) (omega arith)

  release-fits : (o : Option Pod) → Fits log (release_at log o)
  release-fits None = no reply.NotTracked tt
  release-fits (Some pod) = which pod.tracked _ _ (released-fits pod) (no reply.NotTracked tt)

  let_go-fits : (version : Version) (o : Option Pod) → Fits log (let_go_at log version o)
  let_go-fits version None = no reply.NotFound tt
  let_go-fits version (Some pod) = which (not (pod.version.0 == version.0)) _ _ (no (reply.Conflict pod.version) tt) (which pod.tracked _ _ (released-fits pod) (no reply.NotTracked tt))

  report-fits : (change : PhaseChange) (o : Option Pod) → IfPod (length log) o → Fits log (report_phase_at log change o)
  report-fits change None w = no reply.NotFound tt
  report-fits change (Some pod) w =
      which (is_final pod.phase) _ _ (no (reply.Final pod.phase) tt)
      (which (same_phase pod.phase Running && same_phase change.phase Pending) _ _ (no (reply.BadStep Running Pending) tt)
      (unless (find (is_unnamed pod) change.containers)))
    where
      unless : (o : Option ContainerChange) → Fits log (report_unless log pod change o)
      unless (Some unnamed) = no (reply.NoContainer unnamed.name) tt
      unless None = which (same_course_of pod (with_report log pod change)) _ _ (no (reply.Unchanged pod.version) w) (put-pod (reply.Written (next_version log)) (with_report log pod change) (omega arith) (omega arith))

  -- ---- syncs

  write-fits : Placed log → (flight : Flight) (o : Option JobStatus) → Fits log (written_gives log flight o)
  write-fits h flight None = no reply.NotFound tt
  write-fits h flight (Some status) = by flight.basis.job
    where
      by : (o : Option Job) → Fits log (status_gives log flight status o)
      by None = no reply.NotFound tt
      by (Some job) = status-fits job.uid flight.sends status (job_in flight.basis.key log) (job-placed flight.basis.key log h)

  ask-fits : Placed log → (now : ℕ) (flight : Flight) (ask : Ask) → Fits log (answered_to log now flight ask)
  ask-fits h now flight (MakePod index) = make flight.basis.job
    where
      make : (o : Option Job) → Fits log (make_gives log index now o)
      make None = no reply.NotFound tt
      make (Some job) = made-fits job index now
  ask-fits h now flight (MarkPod pod) = marked-fits now (pod_in pod log) (pod-placed pod log h)
  ask-fits h now flight (LetPodGo pod version) = let_go-fits version (pod_in pod log)
  ask-fits h now flight WriteFirst = write-fits h flight (planned flight.basis).first
  ask-fits h now flight (ReleasePod pod) = release-fits (pod_in pod log)
  ask-fits h now flight WriteSecond = write-fits h flight (planned flight.basis).second

-- The version that the answer to a step tells is a place of the log after it.
abbrev pub IsGiven : ℕ → Reply → Type 0
IsGiven n (reply.Stepped asked given) = IsAtMost n (version_in given)
IsGiven n other = Unit {0}

record Gives (log : List Entry) (a : Answered) : Type 0 where
  entry : IfEntry (suc (length log)) a.entry
  given : IsGiven (length (grown log a.entry)) a.reply

step-gives : (log : List Entry) → Placed log → (now : ℕ) (made : List (Request × Answer)) (fault : Option Fault) (o : Option Basis) → Gives log (step_gives log now made fault o)
step-gives log h now made fault None = record { entry = tt; given = tt }
step-gives log h now made fault (Some basis) = by fault (so_far basis made).left
  where
    flight : Flight
    flight = (so_far basis made).flight

    by : (fault : Option Fault) (left : List Ask) → Gives log (step_done (stepped_at now fault log flight left))
    by fault [] = record { entry = tt; given = tt }
    by None (ask ∷ left) = record { entry = (ask-fits log h now flight ask).entry; given = (ask-fits log h now flight ask).version }
    by (Some Drop) (ask ∷ left) = record { entry = tt; given = tt }
    by (Some Lose) (ask ∷ left) = record { entry = (ask-fits log h now flight ask).entry; given = tt }

-- ---- the table

-- Each entry is at its place.
entry-placed : (shape : Shape) (past : List Deed) (log : List Entry) (act : Act) → Placed log → IfEntry (suc (length log)) (gives shape past log act).entry
unfolding gives
entry-placed shape past log (does.Create key spec) h = (created-fits log key spec (moment shape past) (job_in key log)).entry
entry-placed shape past log (does.Update key version change) h = (updated-fits log version change (job_in key log) (job-placed key log h)).entry
entry-placed shape past log (does.Delete key) h = (deleted-fits log (job_in key log)).entry
entry-placed shape past log (does.Mark pod) h = (marked-fits log (moment shape past) (pod_in pod log) (pod-placed pod log h)).entry
entry-placed shape past log (does.Strip pod) h = (release-fits log (pod_in pod log)).entry
entry-placed shape past log (does.Finish uid exit) h = by (pod_in uid log)
  where
    by : (o : Option Pod) → IfEntry (suc (length log)) (finish_gives log o (λ pod. report_phase_at log (finish_change pod exit) (pod_in uid log))).entry
    by None = tt
    by (Some pod) = (report-fits log (finish_change pod exit) (pod_in uid log) (pod-placed uid log h)).entry
entry-placed shape past log (does.Report pod change) h = (report-fits log change (pod_in pod log) (pod-placed pod log h)).entry
entry-placed shape past log (does.Clock add) h = by (nat_lt (moment shape past + add) end_of_moments)
  where
    by : (b : Bool) → IfEntry (suc (length log)) (cond {A = Answered} b (refused (reply.Now (moment shape past + add))) (refused reply.ClockEnd)).entry
    by true = tt
    by false = tt
entry-placed shape past log (does.Deliver controller kind) h = by (number kind (notes shape controller past log))
  where
    which_of : (b c : Bool) (x y z : Reply) → IfEntry (suc (length log)) (cond {A = Answered} b (refused x) (cond c (refused y) (refused z))).entry
    which_of true c x y z = tt
    which_of false true x y z = tt
    which_of false false x y z = tt

    by : (o : Option Version) → IfEntry (suc (length log)) (deliver_gives log shape.window o).entry
    by None = tt
    by (Some version) = which_of (nat_lt version.0 (length log - shape.window)) (version.0 == length log) (reply.Expired (record { 0 = length log - shape.window })) reply.UpToDate (reply.Delivered (record { 0 = version.0 + 1 }))
entry-placed shape past log (does.Begin controller worker) h = by (register worker (notes shape controller past log))
  where
    by : (o : Option Basis) → IfEntry (suc (length log)) (begin_gives o (begin_of (notes shape controller past log) log (moment shape past))).entry
    by None = tt
    by (Some basis) = tt
entry-placed shape past log (does.Step controller worker) h =
    (step-gives log h (moment shape past) (made worker (notes shape controller past log)) (pending worker (notes shape controller past log)) (register worker (notes shape controller past log))).entry
entry-placed shape past log does.Node h = by (node_step log (fate past))
  where
    by : (o : Option (Pod × NodeAct)) → IfEntry (suc (length log)) (node_gives log o).entry
    by None = tt
    by (Some step) = (report-fits log (change_by step.0 step.1) (pod_in step.0.uid log) (pod-placed step.0.uid log h)).entry
entry-placed shape past log other h = tt

pub log-placed : (shape : Shape) (deeds : List Deed) → Placed (log_given shape deeds)
unfolding log_given
log-placed shape [] = tt
log-placed shape (d ∷ past) = by (gives shape past (log_given shape past) d.act).entry (entry-placed shape past (log_given shape past) d.act (log-placed shape past)) (log-placed shape past)
  where
    by : (o : Option Entry) → IfEntry (suc (length (log_given shape past))) o → Placed (log_given shape past) → Placed (grown (log_given shape past) o)
    by None w h = h
    by (Some e) w h = (w, h)

-- ---- floors

-- What a step was answered is a place of the log.
abbrev IsMet : ℕ → Act → Reply → Type 0
IsMet n (does.Step controller worker) r = IsGiven n r
IsMet n other r = Unit {0}

met-further : (m n : ℕ) (act : Act) (r : Reply) → m ≤ n → IsMet m act r → IsMet n act r
met-further m n (does.Step controller worker) (reply.Stepped asked given) w h = further (version_in given) h
  where
    further : (o : Option Version) → IsAtMost m o → IsAtMost n o
    further None h = tt
    further (Some version) h = omega (arith, w, h)
met-further m n (does.Step controller worker) other w h = tt
met-further m n other r w h = tt

abbrev AreMet : ℕ → List Deed → Type 0
AreMet n deeds = Each (λ d. IsMet n d.act d.reply) deeds

all-further : (m n : ℕ) (deeds : List Deed) → m ≤ n → AreMet m deeds → AreMet n deeds
all-further m n [] w h = tt
all-further m n (d ∷ deeds) w h = (met-further m n d.act d.reply w h.0, all-further m n deeds w h.1)

reply-met : (shape : Shape) (past : List Deed) (log : List Entry) (act : Act) → Placed log → IsMet (length (grown log (gives shape past log act).entry)) act (gives shape past log act).reply
unfolding gives
reply-met shape past log (does.Step controller worker) h =
    (step-gives log h (moment shape past) (made worker (notes shape controller past log)) (pending worker (notes shape controller past log)) (register worker (notes shape controller past log))).given
reply-met shape past log other h = tt

deeds-met : (shape : Shape) (deeds : List Deed) → IsLegal shape deeds → AreMet (length (log_given shape deeds)) deeds
unfolding log_given
deeds-met shape [] h = tt
deeds-met shape (d ∷ past) h = (
  subst (IsMet (length (log_given shape (d ∷ past))) d.act) (sym h.0.reply) (reply-met shape past (log_given shape past) d.act (log-placed shape past)),
  all-further _ _ past (grown-longer (log_given shape past) (gives shape past (log_given shape past) d.act).entry) (deeds-met shape past h.1),
)

abbrev IsAsked : ℕ → Note → Type 0
IsAsked n (Asked worker basis request given) = IsAtMost n (version_in given)
IsAsked n note = Unit {0}

noted-asked : (n c : ℕ) (act : Act) (r : Reply) (now : ℕ) (log : List Entry) (older : List Note) → IsMet n act r → Each (IsAsked n) (notes_taken c act r now log older)
noted-asked n c (does.List controller kind) r now log older w = either (IsAsked n) (controller == c) _ (by r)
  where
    by : (r : Reply) → Each (IsAsked n) (on_list kind log r)
    by (reply.Listed at) = (tt, tt)
    by other = tt
noted-asked n c (does.Deliver controller kind) r now log older w = either (IsAsked n) (controller == c) _ (by r)
  where
    by : (r : Reply) → Each (IsAsked n) (on_delivery kind log r)
    by (reply.Delivered version) = (tt, tt)
    by (reply.Expired floor) = (tt, tt)
    by other = tt
noted-asked n c (does.Begin controller worker) r now log older w = either (IsAsked n) (controller == c) _ (by r)
  where
    sent : (some : List Key) → Each (IsAsked n) (on_lag some)
    sent [] = tt
    sent (k ∷ rest) = (tt, tt)

    by : (r : Reply) → Each (IsAsked n) (on_begin worker now log older r)
    by (reply.Begun key jobs_at pods_at) = (tt, tt)
    by (reply.Behind kind need have) = sent (line older)
    by other = tt
noted-asked n c (does.Step controller worker) r now log older w = either (IsAsked n) (controller == c) _ (by (register worker older) r w)
  where
    ends : (o : Option SyncEnd) (basis : Basis) (asked : Request) (given : Answer) → IsAtMost n (version_in given) → Each (IsAsked n) (option_to_list (option_map (λ end. Ended worker basis end now) o) ++ Asked worker basis asked given ∷ [])
    ends None basis asked given w = (w, tt)
    ends (Some end) basis asked given w = (tt, (w, tt))

    by : (o : Option Basis) (r : Reply) → IsGiven n r → Each (IsAsked n) (on_step worker now o r)
    by (Some basis) (reply.Stepped asked given) w = ends (end_by (asks_status asked) given) basis asked given w
    by (Some basis) reply.Ended w = (tt, tt)
    by o other w = tt
noted-asked n c (does.PutFault controller worker fault) r now log older w = either (IsAsked n) (controller == c) _ (tt, tt)
noted-asked n c (does.Clock add) r now log older w = by r
  where
    by : (r : Reply) → Each (IsAsked n) (on_clock r)
    by (reply.Now moment) = (tt, tt)
    by other = tt
noted-asked n c other r now log older w = tt

notes-asked : (n : ℕ) (shape : Shape) (c : ℕ) (deeds : List Deed) (log : List Entry) → AreMet n deeds → Each (IsAsked n) (notes shape c deeds log)
notes-asked n shape c [] log h = tt
notes-asked n shape c (d ∷ past) log h = by (notes-asked n shape c past log h.1) (restarts c d.act)
  where
    by : Each (IsAsked n) (notes shape c past log) → (b : Bool) → Each (IsAsked n) (cond b [] (notes_taken c d.act d.reply (moment shape past) log (notes shape c past log) ++ notes shape c past log))
    by ih true = tt
    by ih false = each-append (IsAsked n) _ _ (noted-asked n c d.act d.reply (moment shape past) log (notes shape c past log) h.0) ih

floor-asked : (n : ℕ) (k : Key) (notes : List Note) → Each (IsAsked n) notes → (floor k notes).0 ≤ n
floor-asked n k [] h = omega arith
floor-asked n k (note ∷ older) h = by note h.0 (floor-asked n k older h.1)
  where
    told : (b : Bool) (o : Option Version) → IsAtMost n o → (floor k older).0 ≤ n → (later_if (floor k older) (cond b o None)).0 ≤ n
    told true None w le = le
    told true (Some version) w le = omega (arith, w, le)
    told false o w le = le

    by : (note : Note) → IsAsked n note → (floor k older).0 ≤ n → (later_if (floor k older) (version_told k note)).0 ≤ n
    by (Asked worker basis request given) w le = told (same_key basis.key k) (version_in given) w le
    by other w le = le

pub floor-within : (shape : Shape) (c : ℕ) (deeds : List Deed) → IsLegal shape deeds → (k : Key) → (floor k (notes shape c deeds (log_given shape deeds))).0 ≤ length (log_given shape deeds)
floor-within shape c deeds h k = floor-asked _ k _ (notes-asked _ shape c deeds (log_given shape deeds) (deeds-met shape deeds h))

pub numbers-within : (shape : Shape) (c : ℕ) (deeds : List Deed) → IsLegal shape deeds → (kind : Kind) → IsAtMost (length (log_given shape deeds)) (number kind (notes shape c deeds (log_given shape deeds)))
numbers-within shape c deeds h kind = number-within _ kind _ (notes-within _ shape c deeds (log_given shape deeds) (legal-told shape deeds h))

-- ---- fresh at the end

not-behind : (kind : Kind) (need have : Version) → need.0 ≤ have.0 → behind kind need have ≡ None
not-behind kind need have w = by (nat_lt have.0 need.0) refl
  where
    by : (b : Bool) → nat_lt have.0 need.0 ≡ b → cond {A = Option Lag} b (Some (record { kind = kind; need = need; have = have })) None ≡ None
    by true e = let lt = ltb-true have.0 need.0 e in absurd (omega (arith, w, lt))
    by false e = refl

pub end-fresh : (shape : Shape) (c : ℕ) (deeds : List Deed) → IsLegal shape deeds → (k : Key)
    → cache_lag (notes shape c deeds (log_given shape deeds)) (log_given shape deeds) k (log_end (log_given shape deeds)) (log_end (log_given shape deeds)) ≡ None
end-fresh shape c deeds h k =
    (λ i. first_lag (not-behind Jobs low end (floor-within shape c deeds h k) i)
    (not-behind Pods (pods_need low (job_in k (upto (length log) log))) end
    (subst (λ some. (pods_need low (job_in k some)).0 ≤ length log) (sym (upto-all (length log) log (omega arith)))
    (need (job_in k log) (job-placed k log (log-placed shape deeds)))) i))
  where
    log : List Entry
    log = log_given shape deeds

    end : Version
    end = log_end log

    low : Version
    low = floor k (notes shape c deeds log)

    need : (o : Option Job) → IfJob (length log) o → (pods_need low o).0 ≤ length log
    need None w = floor-within shape c deeds h k
    need (Some job) w = let le : low.0 ≤ length log = floor-within shape c deeds h k in omega (arith, le, w)

-- So a begin of a free worker is never answered Behind there.
pub end-begins : (shape : Shape) (c : ℕ) (deeds : List Deed) → IsLegal shape deeds → IsUpToDate (notes shape c deeds (log_given shape deeds)) (log_given shape deeds) → (now : ℕ) (k : Key) (rest : List Key)
    → line (notes shape c deeds (log_given shape deeds)) ≡ k ∷ rest
    → begin_of (notes shape c deeds (log_given shape deeds)) (log_given shape deeds) now
    ≡ begin.Begun (basis (notes shape c deeds (log_given shape deeds)) (log_given shape deeds) now k
    (log_end (log_given shape deeds)) (log_end (log_given shape deeds)))
end-begins shape c deeds h up now k rest first =
    (λ i. begin_at (notes shape c deeds (log_given shape deeds)) (log_given shape deeds) now (up Jobs i) (up Pods i))
    ∙ ap (begin_first (notes shape c deeds (log_given shape deeds)) (log_given shape deeds) now (log_end (log_given shape deeds)) (log_end (log_given shape deeds))) first
    ∙ ap (begin_unless (basis (notes shape c deeds (log_given shape deeds)) (log_given shape deeds) now k (log_end (log_given shape deeds)) (log_end (log_given shape deeds)))) (end-fresh shape c deeds h k)
