-- What stands in the log of deeds is limited: the conditions of Jobs by the moment, pods by the number of deeds.
use Rattle.std.proofs.Common.{ℕ, ℤ, ◌+◌, ◌-◌, ◌≤◌, ◌==◌, nat_lt, Bool, true, false, cond, not, ◌&&◌, ◌||◌, List, [], ◌∷◌, ◌++◌, length, map, find, Option, Some, None, option_map, is_some, IfSome, arith}
use Rattle.std.specs.List.{AllByRecursion as Each, list_any}
use Rattle.std.specs.Option.{option_or, option_to_list, unwrap_or}
use Rattle.jc_log.specs.Acts as does
use Rattle.jc_log.specs.Acts.{Act}
use Rattle.jc_log.specs.Deeds.{Deed}
use Rattle.jc_log.specs.Log.{Gone, Life, Live, births, job_in, life, living, next_version, pod_in, upto}
use Rattle.jc_log.specs.Requests.{Answered, accepted, changed_spec, create_job_at, create_job_gives, create_pod_gives, delete_job_at, delete_job_gives, grown, is_other, is_unnamed, let_go_at, let_go_gives, mark_pod_at, mark_pod_gives}
use Rattle.jc_log.specs.Requests.{pod_entry, refused, release_at, release_gives, released, report_phase_at, report_phase_gives, report_unless, same_course_of, update_refusal, update_spec_at, update_spec_gives, update_unless, with_mark}
use Rattle.jc_log.specs.Requests.{with_report, with_spec, with_status, without_finalizer, write_status_at, write_status_gives}
use Rattle.jc_log.proofs.CountFacts.{births_within}
use Rattle.jc_asks.specs.declared.asks.Ask.{Ask}
use Rattle.jc_asks.specs.declared.asks.Ask.TheVariants.{MakePod, MarkPod, LetPodGo, WriteFirst, ReleasePod, WriteSecond}
use Rattle.jc_asks.specs.Steps.{answered_to, make_gives, status_gives, stepped_at, written_gives}
use Rattle.jc_finish.specs.Settled.{end_kind, in_place, is_suspension, is_target, settled, settled_suspended, suspension, true_since, with_end, with_last, with_target}
use Rattle.jc_history.specs.SoFar.{so_far}
use Rattle.jc_history.specs.Diaries.{end_by, moment, notes, notes_taken, on_answer, on_begin, on_clock, on_delivery, on_lag, on_list, on_step, restarts}
use Rattle.jc_control.specs.declared.begins.Begin.{Begin}
use Rattle.jc_control.specs.declared.ends.SyncEnd.{SyncEnd}
use Rattle.jc_history.specs.Fresh.{basis, begin as begin_of}
use Rattle.jc_history.specs.Numbers.{number}
use Rattle.jc_log.specs.Range.{end_of_moments}
use Rattle.jc_history.specs.Lines.{line}
use Rattle.jc_history.specs.Nodes.{NodeAct, change_by, fate, finish_change, node_step}
use Rattle.jc_history.specs.Notes.{Note, Asked, Began, Ended, Expired, Faulted, Listed, SentBack, Ticked, Told, newest}
use Rattle.jc_history.specs.Registers.{asks_status, made, pending, register, register_told}
use Rattle.jc_history.specs.Replies.{begin_gives, clock_gives, deliver_gives, finish_gives, gives, log_given, node_gives, step_done, step_gives}
use Rattle.jc_ledger.specs.declared.flights.Flight.{Flight}
use Rattle.jc_plan.specs.Plans.{changed, planned, planned_for}
use Rattle.jc_plan.specs.Statuses.{first_value, second_value}
use Rattle.jc_states.specs.Conditions.{has_end, has_target, stands}
use Rattle.jc_states.specs.Pods.{goes, is_final, is_marked}
use Rattle.jc_states.specs.declared.bases.Basis.{Basis}
use Rattle.jc_types.specs.Equality.{same_bool, same_limits, same_phase, same_status}
use Rattle.jc_types.specs.declared.objects.KeyNames.{KeyNames as Key}
use Rattle.jc_types.specs.Keys.{same_key, same_uid}
use Rattle.jc_types.specs.declared.actions.ContainerChange.{ContainerChange}
use Rattle.jc_types.specs.declared.actions.Fault.{Fault}
use Rattle.jc_types.specs.declared.actions.Fault.TheVariants.{Drop, Lose}
use Rattle.jc_types.specs.declared.actions.PhaseChange.{PhaseChange}
use Rattle.jc_types.specs.declared.actions.SpecChange.{SpecChange}
use Rattle.jc_types.specs.declared.numbers.Uid.{Uid}
use Rattle.jc_types.specs.declared.numbers.Version.{Version}
use Rattle.jc_types.specs.declared.objects.Entry.{Entry}
use Rattle.jc_types.specs.declared.objects.Entry.TheVariants.{JobPut, JobGone, PodPut, PodGone}
use Rattle.jc_types.specs.declared.objects.Job.{Job}
use Rattle.jc_types.specs.declared.objects.Kind.{Kind}
use Rattle.jc_types.specs.declared.objects.Phase.TheVariants.{Pending, Running}
use Rattle.jc_types.specs.declared.objects.Pod.{Pod}
use Rattle.jc_types.specs.declared.replies.Answer.{Answer}
use Rattle.jc_types.specs.declared.replies.Reply.{Reply}
use Rattle.jc_types.specs.declared.replies.Reply.TheVariants as reply
use Rattle.jc_types.specs.declared.replies.Request.{Request}
use Rattle.jc_types.specs.declared.runs.Shape.{Shape}
use Rattle.jc_types.specs.declared.specifications.JobSpec.{JobSpec}
use Rattle.jc_types.specs.declared.statuses.CondKind.{CondKind}
use Rattle.jc_types.specs.declared.statuses.CondKind.TheVariants.{Suspended}
use Rattle.jc_types.specs.declared.statuses.Condition.{Condition}
use Rattle.jc_types.specs.declared.statuses.JobStatus.{JobStatus}
use Rattle.jc_types.specs.declared.statuses.Reason.{Reason}
use Rattle.jc_origins.specs.Origins.{AllCreateOf, AreDated, CreatesOf, HasOrigin, JobHasOrigin, PodHasOrigin, LogHasOrigin}

-- ---- conditions

dated_last : (n : ℕ) (conditions : List Condition) (c : Condition) → AreDated n conditions → c.since ≤ n → AreDated n (conditions ++ c ∷ [])
dated_last n [] c all one = (one, tt)
dated_last n (first ∷ conditions) c all one = (all.0, dated_last n conditions c all.1 one)

dated_weaker : (n m : ℕ) (conditions : List Condition) → n ≤ m → AreDated n conditions → AreDated m conditions
dated_weaker n m [] le all = tt
dated_weaker n m (c ∷ conditions) le all = let one = all.0 in (omega (arith, one, le), dated_weaker n m conditions le all.1)

dated_in_place : (n : ℕ) (new : Condition) (conditions : List Condition) → new.since ≤ n → AreDated n conditions → AreDated n (map (in_place new) conditions)
dated_in_place n new [] one all = tt
dated_in_place n new (c ∷ conditions) one all = (by (is_suspension c), dated_in_place n new conditions one all.1)
  where
    by : (b : Bool) → (cond b new c).since ≤ n
    by true = one
    by false = all.0

dated_with_last : (n : ℕ) (o : Option Condition) (conditions : List Condition) → IfSome o (λ (c : Condition). c.since ≤ n) → AreDated n conditions → AreDated n (with_last o conditions)
dated_with_last n None conditions one all = all
dated_with_last n (Some c) conditions one all = dated_last n conditions c all one

module _ (n now : ℕ) (past : now ≤ n) where
  suspended_dated : (suspend is_decided : Bool) (conditions : List Condition) → AreDated n conditions → AreDated n (settled_suspended now suspend is_decided conditions)
  suspended_dated suspend is_decided conditions all = by (is_decided || has_target conditions || same_bool suspend (stands Suspended conditions)) (list_any is_suspension conditions)
    where
      new : Condition
      new = suspension now suspend

      by : (p q : Bool) → AreDated n (cond p conditions (cond q (map (in_place new) conditions) (conditions ++ new ∷ [])))
      by true q = all
      by false true = dated_in_place n new conditions past all
      by false false = dated_last n conditions new all past

  target_dated : (target : Option (CondKind × Reason)) (conditions : List Condition) → AreDated n conditions → AreDated n (with_target now target conditions)
  target_dated None conditions all = all
  target_dated (Some pair) conditions all = dated_last n conditions (true_since now pair.0 pair.1) all past

  end_dated : (due : Bool) (conditions : List Condition) → AreDated n conditions → AreDated n (with_end now due conditions)
  end_dated due conditions all = by (due && not (has_end conditions)) (find is_target conditions)
    where
      by : (b : Bool) (o : Option Condition) → AreDated n (cond b (with_last (option_map (λ (target : Condition). true_since now (end_kind target.kind) target.reason) o) conditions) conditions)
      by false o = all
      by true None = all
      by true (Some target) = dated_last n conditions (true_since now (end_kind target.kind) target.reason) all past

  pub settled_dated : (suspend : Bool) (target : Option (CondKind × Reason)) (due : Bool) (conditions : List Condition) → AreDated n conditions → AreDated n (settled now suspend target due conditions)
  settled_dated suspend target due conditions all =
      end_dated due (with_target now target (settled_suspended now suspend (is_some target) conditions))
      (target_dated target (settled_suspended now suspend (is_some target) conditions) (suspended_dated suspend (is_some target) conditions all))

-- ---- what is found in a log

module _ (P : Key → Type 0) (n m : ℕ) where
  abbrev HaveOrigins : List Entry → Type 0
  HaveOrigins log = Each (HasOrigin P n m) log

  pub job-origin : (log : List Entry) → HaveOrigins log → (k : Key) → IfSome (job_in k log) (JobHasOrigin P n)
  job-origin [] all k = tt
  job-origin (JobPut job ∷ older) all k = by (job-origin older all.1 k) (same_key job.key k)
    where
      by : IfSome (job_in k older) (JobHasOrigin P n) → (b : Bool) → IfSome (cond b (Some job) (job_in k older)) (JobHasOrigin P n)
      by rest true = all.0
      by rest false = rest
  job-origin (JobGone job ∷ older) all k = by (job-origin older all.1 k) (same_key job.key k)
    where
      by : IfSome (job_in k older) (JobHasOrigin P n) → (b : Bool) → IfSome (cond b None (job_in k older)) (JobHasOrigin P n)
      by rest true = tt
      by rest false = rest
  job-origin (PodPut pod ∷ older) all k = job-origin older all.1 k
  job-origin (PodGone pod ∷ older) all k = job-origin older all.1 k

  -- the pod that lives
  abbrev LivesLimited : Life → Type 0
  LivesLimited life = IfSome (living life) (PodHasOrigin m)

  life_limited : (log : List Entry) → HaveOrigins log → (u : Uid) → LivesLimited (life u log)
  life_limited [] all u = tt
  life_limited (JobPut job ∷ older) all u = life_limited older all.1 u
  life_limited (JobGone job ∷ older) all u = life_limited older all.1 u
  life_limited (PodPut pod ∷ older) all u = by (life_limited older all.1 u) (same_uid pod.uid u)
    where
      by : LivesLimited (life u older) → (b : Bool) → LivesLimited (cond b (Live pod) (life u older))
      by rest true = all.0
      by rest false = rest
  life_limited (PodGone pod ∷ older) all u = by (life_limited older all.1 u) (same_uid pod.uid u)
    where
      by : LivesLimited (life u older) → (b : Bool) → LivesLimited (cond b Gone (life u older))
      by rest true = tt
      by rest false = rest

  upto_limited : (v : ℕ) (log : List Entry) → HaveOrigins log → HaveOrigins (upto v log)
  upto_limited v [] all = tt
  upto_limited v (e ∷ older) all = by (upto_limited v older all.1) (nat_lt (length older) v)
    where
      by : HaveOrigins (upto v older) → (b : Bool) → HaveOrigins (cond b (e ∷ older) (upto v older))
      by rest true = all
      by rest false = rest

  -- What a sync starts from: a moment that is past, and a Job that stood in the log.
  record IsLimitedBasis (b : Basis) : Type 0 where
    now : b.now ≤ n
    job : IfSome b.job (JobHasOrigin P n)

  -- ---- what an answer appends

  abbrev GivesLimited : Answered → Type 0
  GivesLimited answered = IfSome answered.entry (HasOrigin P n m)

  -- nothing, or this
  unless_gives : (b : Bool) (r : Reply) (other : Answered) → GivesLimited other → GivesLimited (cond b (refused r) other)
  unless_gives true r other g = tt
  unless_gives false r other g = g

  or_nothing : (b : Bool) (one : Answered) (r : Reply) → GivesLimited one → GivesLimited (cond b one (refused r))
  or_nothing true one r h = h
  or_nothing false one r h = tt

  pod_entry_limited : (pod : Pod) → PodHasOrigin m pod → HasOrigin P n m (pod_entry pod)
  pod_entry_limited pod h = by (goes pod)
    where
      by : (b : Bool) → HasOrigin P n m (cond b (PodGone pod) (PodPut pod))
      by true = tt
      by false = h

  module _ (log : List Entry) (all : HaveOrigins log) where
    create_limited : (key : Key) (spec : JobSpec) (now : ℕ) → P key → GivesLimited (create_job_gives log key spec now)
    create_limited key spec now named = by (job_in key log)
      where
        by : (o : Option Job) → GivesLimited (create_job_at log key spec now o)
        by None = record { dated = tt; key = named }
        by (Some job) = tt

    update_limited : (key : Key) (version : Option Version) (change : SpecChange) → GivesLimited (update_spec_gives log key version change)
    update_limited key version change = by (job_in key log) (job-origin log all key)
      where
        written : Job → Answered
        written job = accepted (reply.Written (next_version log)) (JobPut (with_spec log job (changed_spec job.spec change)))

        given : (job : Job) → JobHasOrigin P n job → (o : Option Reply) → GivesLimited (update_unless log job change o)
        given job h (Some r) = tt
        given job h None =
            unless_gives (same_limits job.spec (changed_spec job.spec change)) (reply.Unchanged job.version) (written job) (record { dated = h.dated; key = h.key })

        by : (o : Option Job) → IfSome o (JobHasOrigin P n) → GivesLimited (update_spec_at log version change o)
        by None h = tt
        by (Some job) h =
            unless_gives (is_other version job.version) (reply.Conflict job.version) (update_unless log job change (update_refusal job.spec change))
            (given job h (update_refusal job.spec change))

    delete_limited : (key : Key) → GivesLimited (delete_job_gives log key)
    delete_limited key = by (job_in key log)
      where
        by : (o : Option Job) → GivesLimited (delete_job_at log o)
        by None = tt
        by (Some job) = tt

    status_limited : (key : Key) (uid : Uid) (version : Version) (status : JobStatus) → AreDated n status.conditions → GivesLimited (write_status_gives log key uid version status)
    status_limited key uid version status dated = by (job_in key log) (job-origin log all key)
      where
        by : (o : Option Job) → IfSome o (JobHasOrigin P n) → GivesLimited (write_status_at log uid version status o)
        by None h = tt
        by (Some job) h =
            unless_gives (not (same_uid job.uid uid)) reply.NotFound _
            (unless_gives (not (job.version.0 == version.0)) (reply.Conflict job.version) _
            (unless_gives (same_status job.status status) (reply.Unchanged job.version) (accepted (reply.Written (next_version log)) (JobPut (with_status log job status)))
            (record { dated = dated; key = h.key })))

    made_limited : (owner : Job) (index : Option ℕ) (now : ℕ) → births log + 1 ≤ m → GivesLimited (create_pod_gives log owner index now)
    made_limited owner index now few = record { some = omega arith; few = few }

    mark_limited : (uid : Uid) (now : ℕ) → GivesLimited (mark_pod_gives log uid now)
    mark_limited uid now = by (pod_in uid log) (life_limited log all uid)
      where
        by : (o : Option Pod) → IfSome o (PodHasOrigin m) → GivesLimited (mark_pod_at log now o)
        by None h = tt
        by (Some pod) h =
            unless_gives (is_marked pod) (reply.Unchanged pod.version) (accepted (reply.Written (next_version log)) (pod_entry (with_mark log pod now)))
            (pod_entry_limited (with_mark log pod now) (record { some = h.some; few = h.few }))

    released_limited : (pod : Pod) → PodHasOrigin m pod → GivesLimited (released log pod)
    released_limited pod h = pod_entry_limited (without_finalizer log pod) (record { some = h.some; few = h.few })

    release_limited : (uid : Uid) → GivesLimited (release_gives log uid)
    release_limited uid = by (pod_in uid log) (life_limited log all uid)
      where
        by : (o : Option Pod) → IfSome o (PodHasOrigin m) → GivesLimited (release_at log o)
        by None h = tt
        by (Some pod) h = or_nothing pod.tracked (released log pod) reply.NotTracked (released_limited pod h)

    let_go_limited : (uid : Uid) (version : Version) → GivesLimited (let_go_gives log uid version)
    let_go_limited uid version = by (pod_in uid log) (life_limited log all uid)
      where
        by : (o : Option Pod) → IfSome o (PodHasOrigin m) → GivesLimited (let_go_at log version o)
        by None h = tt
        by (Some pod) h =
            unless_gives (not (pod.version.0 == version.0)) (reply.Conflict pod.version) (cond pod.tracked (released log pod) (refused reply.NotTracked))
            (or_nothing pod.tracked (released log pod) reply.NotTracked (released_limited pod h))

    report_limited : (uid : Uid) (change : PhaseChange) → GivesLimited (report_phase_gives log uid change)
    report_limited uid change = by (pod_in uid log) (life_limited log all uid)
      where
        unless : (pod : Pod) → PodHasOrigin m pod → (o : Option ContainerChange) → GivesLimited (report_unless log pod change o)
        unless pod h (Some unnamed) = tt
        unless pod h None =
            unless_gives (same_course_of pod (with_report log pod change)) (reply.Unchanged pod.version) (accepted (reply.Written (next_version log)) (pod_entry (with_report log pod change)))
            (pod_entry_limited (with_report log pod change) (record { some = h.some; few = h.few }))

        by : (o : Option Pod) → IfSome o (PodHasOrigin m) → GivesLimited (report_phase_at log change o)
        by None h = tt
        by (Some pod) h =
            unless_gives (is_final pod.phase) (reply.Final pod.phase)
            (cond (same_phase pod.phase Running && same_phase change.phase Pending)
            (refused (reply.BadStep Running Pending))
            (report_unless log pod change (find (is_unnamed pod) change.containers)))
            (unless_gives (same_phase pod.phase Running && same_phase change.phase Pending) (reply.BadStep Running Pending) (report_unless log pod change (find (is_unnamed pod) change.containers))
            (unless pod h (find (is_unnamed pod) change.containers)))

    finish_limited : (uid : Uid) (exit : ℤ) → GivesLimited (finish_gives log (pod_in uid log) (λ pod. report_phase_gives log uid (finish_change pod exit)))
    finish_limited uid exit = by (pod_in uid log)
      where
        by : (o : Option Pod) → GivesLimited (finish_gives log o (λ pod. report_phase_gives log uid (finish_change pod exit)))
        by None = tt
        by (Some pod) = report_limited uid (finish_change pod exit)

    node_limited : (o : Option (Pod × NodeAct)) → GivesLimited (node_gives log o)
    node_limited None = tt
    node_limited (Some step) = report_limited step.0.uid (change_by step.0 step.1)

    -- ---- the steps of a sync

    changed_dated : (old new : JobStatus) → AreDated n new.conditions → IfSome (changed old new) (λ (status : JobStatus). AreDated n status.conditions)
    changed_dated old new h = by (same_status old new)
      where
        by : (b : Bool) → IfSome (cond b None (Some new)) (λ (status : JobStatus). AreDated n status.conditions)
        by true = tt
        by false = h

    first_dated : (job : Job) (b : Basis) → b.now ≤ n → AreDated n job.status.conditions → AreDated n (first_value job b).conditions
    unfolding first_value
    first_dated job b past h = settled_dated n b.now past job.spec.suspend _ _ job.status.conditions h

    second_dated : (job : Job) (b : Basis) → b.now ≤ n → AreDated n job.status.conditions → AreDated n (second_value job b).conditions
    unfolding second_value
    second_dated job b past h = settled_dated n b.now past job.spec.suspend _ _ job.status.conditions h

    record PlansLimited (one other : Option JobStatus) : Type 0 where
      first : IfSome one (λ (status : JobStatus). AreDated n status.conditions)
      second : IfSome other (λ (status : JobStatus). AreDated n status.conditions)

    plan_limited : (b : Basis) → IsLimitedBasis b → PlansLimited (planned b).first (planned b).second
    unfolding planned
    plan_limited b h = by b.job h.job
      where
        by : (o : Option Job) → IfSome o (JobHasOrigin P n) → PlansLimited (planned_for b o).first (planned_for b o).second
        by None g = record { first = tt; second = tt }
        by (Some job) g = record {
          first = changed_dated job.status (first_value job b) (first_dated job b h.now g.dated);
          second = changed_dated (first_value job b) (second_value job b) (second_dated job b h.now g.dated);
        }

    module _ (few : births log + 1 ≤ m) (now : ℕ) (flight : Flight) (h : IsLimitedBasis flight.basis) where
      written_limited : (o : Option JobStatus) → IfSome o (λ (status : JobStatus). AreDated n status.conditions) → GivesLimited (written_gives log flight o)
      written_limited None g = tt
      written_limited (Some status) g = by flight.basis.job
        where
          by : (o : Option Job) → GivesLimited (status_gives log flight status o)
          by None = tt
          by (Some job) = status_limited flight.basis.key job.uid flight.sends status g

      make_limited : (index : Option ℕ) (o : Option Job) → GivesLimited (make_gives log index now o)
      make_limited index None = tt
      make_limited index (Some job) = made_limited job index now few

      answered_limited : (ask : Ask) → GivesLimited (answered_to log now flight ask)
      answered_limited (MakePod index) = make_limited index flight.basis.job
      answered_limited (MarkPod u) = mark_limited u now
      answered_limited (LetPodGo u v) = let_go_limited u v
      answered_limited WriteFirst = written_limited (planned flight.basis).first (plan_limited flight.basis h).first
      answered_limited (ReleasePod u) = release_limited u
      answered_limited WriteSecond = written_limited (planned flight.basis).second (plan_limited flight.basis h).second

      stepped_limited : (fault : Option Fault) (left : List Ask) → GivesLimited (step_done (stepped_at now fault log flight left))
      stepped_limited fault [] = tt
      stepped_limited None (ask ∷ left) = answered_limited ask
      stepped_limited (Some Drop) (ask ∷ left) = tt
      stepped_limited (Some Lose) (ask ∷ left) = answered_limited ask

  -- ---- what a controller has noted

  abbrev IsLimitedNote : Note → Type 0
  IsLimitedNote (Began worker b) = IsLimitedBasis b
  IsLimitedNote other = Unit {0}

  newest_limited : (w : ℕ) (notes : List Note) → Each IsLimitedNote notes → IfSome (newest (register_told w) notes) (λ o. IfSome o IsLimitedBasis)
  newest_limited w [] all = tt
  newest_limited w (Began worker b ∷ older) all = by (newest_limited w older all.1) (worker == w)
    where
      by : IfSome (newest (register_told w) older) (λ o. IfSome o IsLimitedBasis) → (t : Bool)
          → IfSome (option_or (cond t (Some (Some b)) None) (newest (register_told w) older)) (λ o. IfSome o IsLimitedBasis)
      by rest true = all.0
      by rest false = rest
  newest_limited w (Ended worker b end now ∷ older) all = by (newest_limited w older all.1) (worker == w)
    where
      by : IfSome (newest (register_told w) older) (λ o. IfSome o IsLimitedBasis) → (t : Bool)
          → IfSome (option_or (cond t (Some None) None) (newest (register_told w) older)) (λ o. IfSome o IsLimitedBasis)
      by rest true = tt
      by rest false = rest
  newest_limited w (Listed kind at keys ∷ older) all = newest_limited w older all.1
  newest_limited w (Told kind at key ∷ older) all = newest_limited w older all.1
  newest_limited w (Expired kind ∷ older) all = newest_limited w older all.1
  newest_limited w (SentBack key ∷ older) all = newest_limited w older all.1
  newest_limited w (Asked worker b request answer ∷ older) all = newest_limited w older all.1
  newest_limited w (Faulted worker fault ∷ older) all = newest_limited w older all.1
  newest_limited w (Ticked at ∷ older) all = newest_limited w older all.1

  register_limited : (w : ℕ) (notes : List Note) → Each IsLimitedNote notes → IfSome (register w notes) IsLimitedBasis
  register_limited w notes all = by (newest (register_told w) notes) (newest_limited w notes all)
    where
      by : (o : Option (Option Basis)) → IfSome o (λ o. IfSome o IsLimitedBasis) → IfSome (unwrap_or o None) IsLimitedBasis
      by None h = tt
      by (Some o) h = h

  if_noted : (b : Bool) (notes : List Note) → Each IsLimitedNote notes → Each IsLimitedNote (cond b notes [])
  if_noted true notes all = all
  if_noted false notes all = tt

  both_noted : (first rest : List Note) → Each IsLimitedNote first → Each IsLimitedNote rest → Each IsLimitedNote (first ++ rest)
  both_noted [] rest one all = all
  both_noted (note ∷ first) rest one all = (one.0, both_noted first rest one.1 all)

  module _ (log : List Entry) (all : HaveOrigins log) (now : ℕ) (past : now ≤ n) where
    lag_noted : (keys : List Key) → Each IsLimitedNote (on_lag keys)
    lag_noted [] = tt
    lag_noted (k ∷ keys) = (tt, tt)

    begin_noted : (worker : ℕ) (older : List Note) (r : Reply) → Each IsLimitedNote (on_begin worker now log older r)
    begin_noted worker older (reply.Begun key jobs_at pods_at) =
        (record { now = past; job = job-origin (upto jobs_at.0 log) (upto_limited jobs_at.0 log all) key }, tt)
    begin_noted worker older (reply.Behind kind need have) = lag_noted (line older)
    begin_noted worker older other = tt

    list_noted : (kind : Kind) (r : Reply) → Each IsLimitedNote (on_list kind log r)
    list_noted kind (reply.Listed at) = (tt, tt)
    list_noted kind other = tt

    delivery_noted : (kind : Kind) (r : Reply) → Each IsLimitedNote (on_delivery kind log r)
    delivery_noted kind (reply.Delivered version) = (tt, tt)
    delivery_noted kind (reply.Expired floor) = (tt, tt)
    delivery_noted kind other = tt

    clock_noted : (r : Reply) → Each IsLimitedNote (on_clock r)
    clock_noted (reply.Now moment) = (tt, tt)
    clock_noted other = tt

    answer_noted : (worker : ℕ) (b : Basis) (asked : Request) (given : Answer) → Each IsLimitedNote (on_answer worker b now asked given)
    answer_noted worker b asked given = by (end_by (asks_status asked) given)
      where
        by : (o : Option SyncEnd) → Each IsLimitedNote (option_to_list (option_map (λ end. Ended worker b end now) o) ++ Asked worker b asked given ∷ [])
        by None = (tt, tt)
        by (Some end) = (tt, (tt, tt))

    step_noted : (worker : ℕ) (o : Option Basis) (r : Reply) → Each IsLimitedNote (on_step worker now o r)
    step_noted worker (Some b) (reply.Stepped asked given) = answer_noted worker b asked given
    step_noted worker (Some b) reply.Ended = (tt, tt)
    step_noted worker (Some b) other = tt
    step_noted worker None other = tt

    taken_noted : (c : ℕ) (act : Act) (r : Reply) (older : List Note) → Each IsLimitedNote (notes_taken c act r now log older)
    taken_noted c (does.List controller kind) r older = if_noted (controller == c) (on_list kind log r) (list_noted kind r)
    taken_noted c (does.Deliver controller kind) r older = if_noted (controller == c) (on_delivery kind log r) (delivery_noted kind r)
    taken_noted c (does.Begin controller worker) r older = if_noted (controller == c) (on_begin worker now log older r) (begin_noted worker older r)
    taken_noted c (does.Step controller worker) r older =
        if_noted (controller == c) (on_step worker now (register worker older) r) (step_noted worker (register worker older) r)
    taken_noted c (does.PutFault controller worker fault) r older = if_noted (controller == c) (Faulted worker fault ∷ []) (tt, tt)
    taken_noted c (does.Clock add) r older = clock_noted r
    taken_noted c other r older = tt

  notes_limited : (shape : Shape) (c : ℕ) (deeds : List Deed) (log : List Entry) → HaveOrigins log → moment shape deeds ≤ n → Each IsLimitedNote (notes shape c deeds log)
  notes_limited shape c [] log all past = tt
  notes_limited shape c (d ∷ deeds) log all past =
      by (notes_limited shape c deeds log all (omega (arith, past))) (restarts c d.act)
    where
      older : List Note
      older = notes shape c deeds log

      by : Each IsLimitedNote older → (b : Bool) → Each IsLimitedNote (cond b [] (notes_taken c d.act d.reply (moment shape deeds) log older ++ older))
      by rest true = tt
      by rest false =
          both_noted (notes_taken c d.act d.reply (moment shape deeds) log older) older
          (taken_noted log all (moment shape deeds) (omega (arith, past)) c d.act d.reply older) rest

  -- ---- what each act appends

  module _ (shape : Shape) (past : List Deed) (log : List Entry) (all : HaveOrigins log) (few : births log + 1 ≤ m) (before : moment shape past ≤ n) where
    clock_limited : (at : ℕ) → GivesLimited (clock_gives at)
    clock_limited at = by (nat_lt at end_of_moments)
      where
        by : (b : Bool) → GivesLimited (cond b (refused (reply.Now at)) (refused reply.ClockEnd))
        by true = tt
        by false = tt

    deliver_limited : (window : ℕ) (o : Option Version) → GivesLimited (deliver_gives log window o)
    deliver_limited window None = tt
    deliver_limited window (Some version) = by (nat_lt version.0 (length log - window)) (version.0 == length log)
      where
        by : (p q : Bool) → GivesLimited (cond p (refused (reply.Expired (record { 0 = length log - window }))) (cond q (refused reply.UpToDate) (refused (reply.Delivered (record { 0 = version.0 + 1 })))))
        by true q = tt
        by false true = tt
        by false false = tt

    begin_limited : (o : Option Basis) (b : Begin) → GivesLimited (begin_gives o b)
    begin_limited None b = tt
    begin_limited (Some basis) b = tt

    step_limited : (made : List (Request × Answer)) (fault : Option Fault) (o : Option Basis) → IfSome o IsLimitedBasis → GivesLimited (step_gives log (moment shape past) made fault o)
    step_limited made fault None h = tt
    step_limited made fault (Some b) h = stepped_limited log all few (moment shape past) (so_far b made).flight h fault (so_far b made).left

    act_limited : (act : Act) → CreatesOf P act → GivesLimited (gives shape past log act)
    unfolding gives
    act_limited (does.Create key spec) asks = create_limited log all key spec (moment shape past) asks
    act_limited (does.Update key version change) asks = update_limited log all key version change
    act_limited (does.Delete key) asks = delete_limited log all key
    act_limited (does.Mark pod) asks = mark_limited log all pod (moment shape past)
    act_limited (does.Strip pod) asks = release_limited log all pod
    act_limited (does.Finish uid exit) asks = finish_limited log all uid exit
    act_limited (does.Report pod change) asks = report_limited log all pod change
    act_limited (does.Fate key ends) asks = tt
    act_limited (does.Clock add) asks = clock_limited (moment shape past + add)
    act_limited (does.List controller kind) asks = tt
    act_limited (does.Deliver controller kind) asks = deliver_limited shape.window (number kind (notes shape controller past log))
    act_limited (does.Begin controller worker) asks =
        begin_limited (register worker (notes shape controller past log)) (begin_of (notes shape controller past log) log (moment shape past))
    act_limited (does.Step controller worker) asks =
        step_limited (made worker (notes shape controller past log)) (pending worker (notes shape controller past log)) (register worker (notes shape controller past log))
        (register_limited worker (notes shape controller past log) (notes_limited shape controller past log all before))
    act_limited does.Node asks = node_limited log all (node_step log (fate past))
    act_limited (does.Restart controller) asks = tt
    act_limited (does.PutFault controller worker fault) asks = tt
    act_limited does.Settle asks = tt
    act_limited does.Unknown asks = tt

-- ---- the log of deeds

module _ (P : Key → Type 0) where
  weaker : (n m k l : ℕ) → n ≤ k → m ≤ l → (e : Entry) → HasOrigin P n m e → HasOrigin P k l e
  weaker n m k l first second (JobPut job) h = record { dated = dated_weaker n k job.status.conditions first h.dated; key = h.key }
  weaker n m k l first second (JobGone job) h = tt
  weaker n m k l first second (PodPut pod) h = let few = h.few in record { some = h.some; few = omega (arith, few, second) }
  weaker n m k l first second (PodGone pod) h = tt

  all_weaker : (n m k l : ℕ) → n ≤ k → m ≤ l → (log : List Entry) → Each (HasOrigin P n m) log → Each (HasOrigin P k l) log
  all_weaker n m k l first second [] all = tt
  all_weaker n m k l first second (e ∷ log) all = (weaker n m k l first second e all.0, all_weaker n m k l first second log all.1)

  pub log-origins : (shape : Shape) (deeds : List Deed) → AllCreateOf P deeds → LogHasOrigin P (moment shape deeds) (length deeds) (log_given shape deeds)
  unfolding log_given
  log-origins shape [] asks = record { origins = tt; few = omega arith }
  log-origins shape (d ∷ past) asks =
      let before = log-origins shape past asks.1 in
      let few = before.few in
      let log : List Entry = log_given shape past in
      let n : ℕ = moment shape (d ∷ past) in
      let m : ℕ = length (d ∷ past) in
      let older = all_weaker (moment shape past) (length past) n m (omega arith) (omega arith) log before.origins in
      let births = births_within log in
      by (log_given shape past) older few (gives shape past (log_given shape past) d.act).entry
      (act_limited P n m shape past log older (omega (arith, births, few)) (omega arith) d.act asks.0)
    where
      by : (log : List Entry) → Each (HasOrigin P (moment shape (d ∷ past)) (length (d ∷ past))) log → length log ≤ length past
          → (o : Option Entry) → IfSome o (HasOrigin P (moment shape (d ∷ past)) (length (d ∷ past)))
          → LogHasOrigin P (moment shape (d ∷ past)) (length (d ∷ past)) (grown log o)
      by log older few None h = record { origins = older; few = omega (arith, few) }
      by log older few (Some e) h = record { origins = (h, older); few = omega (arith, few) }
