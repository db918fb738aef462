-- What is so of each Job that is created, and stays so, is so of all Jobs of a log; and what is so of each pod then.
use Rattle.std.proofs.Common.{◌≡◌, ◌⊎◌, inl, inr, ℕ, ℤ, ◌+◌, ◌-◌, ◌==◌, nat_lt, Bool, true, false, cond, not, ◌&&◌, List, [], ◌∷◌, ◌++◌, length, find, Option, Some, None, option_map, IfSome, refl, subst}
use Rattle.std.specs.List.{AllByRecursion as Each}
use Rattle.std.specs.Option.{option_or, option_to_list, unwrap_or}
use Rattle.jc_types.specs.Equality.{same_limits, same_phase, same_status}
use Rattle.jc_types.specs.declared.objects.KeyNames.{KeyNames as Key}
use Rattle.jc_types.specs.Keys.{same_key, same_uid}
use Rattle.jc_types.specs.declared.actions.ContainerChange.{ContainerChange}
use Rattle.jc_types.specs.declared.actions.Fault.{Fault}
use Rattle.jc_types.specs.declared.actions.Fault.TheVariants.{Drop, Lose}
use Rattle.jc_types.specs.declared.actions.PhaseChange.{PhaseChange}
use Rattle.jc_types.specs.declared.actions.SpecChange.{SpecChange}
use Rattle.jc_types.specs.declared.numbers.Uid.{Uid}
use Rattle.jc_types.specs.declared.numbers.Version.{Version}
use Rattle.jc_types.specs.declared.objects.Entry.{Entry}
use Rattle.jc_types.specs.declared.objects.Entry.TheVariants.{JobPut, JobGone, PodPut, PodGone}
use Rattle.jc_types.specs.declared.objects.Job.{Job}
use Rattle.jc_types.specs.declared.objects.Kind.{Kind}
use Rattle.jc_types.specs.declared.objects.Phase.TheVariants.{Pending, Running}
use Rattle.jc_types.specs.declared.objects.Pod.{Pod}
use Rattle.jc_types.specs.declared.replies.Answer.{Answer}
use Rattle.jc_types.specs.declared.replies.Reply.{Reply}
use Rattle.jc_types.specs.declared.replies.Reply.TheVariants as reply
use Rattle.jc_types.specs.declared.replies.Request.{Request}
use Rattle.jc_types.specs.declared.runs.Shape.{Shape}
use Rattle.jc_types.specs.declared.specifications.JobSpec.{JobSpec}
use Rattle.jc_types.specs.declared.statuses.JobStatus.{JobStatus}
use Rattle.jc_states.specs.declared.bases.Basis.{Basis}
use Rattle.jc_states.specs.Pods.{goes, is_final, is_marked}
use Rattle.jc_log.specs.Acts as does
use Rattle.jc_log.specs.Acts.{Act}
use Rattle.jc_log.specs.Deeds.{Deed}
use Rattle.jc_log.specs.Log.{Gone, Life, Live, Never, job_in, life, living, next_version, pod_in, pods_in, upto}
use Rattle.jc_log.proofs.PodFacts.{pods_in-live}
use Rattle.jc_types.proofs.ListFacts.{Each-weaker}
use Rattle.jc_log.specs.Range.{end_of_moments}
use Rattle.jc_log.specs.Requests.{Answered, accepted, changed_spec, create_job_at, create_job_gives, delete_job_at, delete_job_gives, grown, is_other, is_unnamed, let_go_at, let_go_gives, made_job, made_pod, mark_pod_at, mark_pod_gives}
use Rattle.jc_log.specs.Requests.{pod_entry, refused, release_at, release_gives, released, report_phase_at, report_phase_gives, report_unless, same_course_of, update_refusal, update_spec_at, update_spec_gives, update_unless, with_mark}
use Rattle.jc_log.specs.Requests.{with_report, with_spec, with_status, without_finalizer, write_status_at, write_status_gives}
use Rattle.jc_plan.specs.Plans.{planned}
use Rattle.jc_history.specs.Diaries.{end_by, moment, notes, notes_taken, on_answer, on_begin, on_clock, on_delivery, on_lag, on_list, on_step, restarts}
use Rattle.jc_history.specs.Fresh.{begin as begin_of}
use Rattle.jc_history.specs.Lines.{line}
use Rattle.jc_history.specs.Nodes.{NodeAct, change_by, fate, finish_change, node_step}
use Rattle.jc_history.specs.Notes.{Note, Asked, Began, Ended, Expired, Faulted, Listed, SentBack, Ticked, Told, newest}
use Rattle.jc_history.specs.Numbers.{number}
use Rattle.jc_history.specs.Registers.{asks_status, made, pending, register, register_told}
use Rattle.jc_history.specs.Replies.{begin_gives, clock_gives, deliver_gives, finish_gives, gives, log_given, node_gives, step_done, step_gives}
use Rattle.jc_history.specs.SoFar.{so_far}
use Rattle.jc_sync.specs.Ask.{Ask}
use Rattle.jc_sync.specs.Ask.TheVariants.{MakePod, MarkPod, LetPodGo, WriteFirst, ReleasePod, WriteSecond}
use Rattle.jc_sync.specs.Flight.{Flight}
use Rattle.jc_sync.specs.Steps.{SyncEnd, answered_to, make_gives, status_gives, stepped_at, written_gives}

-- What is so of each Job that is created, and stays so whatever is written of it; and of each pod, as of its Job.
pub record AreKept (JobP : Job → Type 0) (PodP : Pod → Type 0) (MayCreate : Key → JobSpec → Type 0) : Type 0 where
  pub created : (log : List Entry) (key : Key) (spec : JobSpec) (now : ℕ) → MayCreate key spec → JobP (made_job log key spec now)
  pub updated : (log : List Entry) (job : Job) (change : SpecChange) → JobP job → JobP (with_spec log job (changed_spec job.spec change))
  pub stated : (log : List Entry) (basis : Basis) (job current : Job) (status : JobStatus) → basis.job ≡ Some job → JobP job → JobP current
      → ((planned basis).first ≡ Some status) ⊎ ((planned basis).second ≡ Some status) → JobP (with_status log current status)
  pub made : (log : List Entry) (job : Job) (index : Option ℕ) (now : ℕ) → JobP job → PodP (made_pod log job index now)
  pub marked : (log : List Entry) (pod : Pod) (now : ℕ) → PodP pod → PodP (with_mark log pod now)
  pub freed : (log : List Entry) (pod : Pod) → PodP pod → PodP (without_finalizer log pod)
  pub reported : (log : List Entry) (pod : Pod) (change : PhaseChange) → PodP pod → PodP (with_report log pod change)

module _ (JobP : Job → Type 0) (PodP : Pod → Type 0) (MayCreate : Key → JobSpec → Type 0) (kept : AreKept JobP PodP MayCreate) where
  -- An act that creates a Job creates such a one.
  abbrev pub MayAct : Act → Type 0
  MayAct (does.Create key spec) = MayCreate key spec
  MayAct other = Unit {0}

  -- ---- what is found in a log

  abbrev pub PutsBy : Entry → Type 0
  PutsBy (JobPut job) = JobP job
  PutsBy (PodPut pod) = PodP pod
  PutsBy other = Unit {0}

  abbrev pub AllBy : List Entry → Type 0
  AllBy log = Each PutsBy log

  abbrev pub JobBy : Option Job → Type 0
  JobBy o = IfSome o JobP

  pub found-by : (log : List Entry) → AllBy log → (k : Key) → JobBy (job_in k log)
  found-by [] all k = tt
  found-by (JobPut job ∷ older) all k = by (found-by older all.1 k) (same_key job.key k)
    where
      by : JobBy (job_in k older) → (b : Bool) → JobBy (cond b (Some job) (job_in k older))
      by rest true = all.0
      by rest false = rest
  found-by (JobGone job ∷ older) all k = by (found-by older all.1 k) (same_key job.key k)
    where
      by : JobBy (job_in k older) → (b : Bool) → JobBy (cond b None (job_in k older))
      by rest true = tt
      by rest false = rest
  found-by (PodPut pod ∷ older) all k = found-by older all.1 k
  found-by (PodGone pod ∷ older) all k = found-by older all.1 k

  abbrev pub LifeBy : Life → Type 0
  LifeBy (Live pod) = PodP pod
  LifeBy other = Unit {0}

  pub life-by : (log : List Entry) → AllBy log → (u : Uid) → LifeBy (life u log)
  life-by [] all u = tt
  life-by (JobPut job ∷ older) all u = life-by older all.1 u
  life-by (JobGone job ∷ older) all u = life-by older all.1 u
  life-by (PodPut pod ∷ older) all u = by (life-by older all.1 u) (same_uid pod.uid u)
    where
      by : LifeBy (life u older) → (b : Bool) → LifeBy (cond b (Live pod) (life u older))
      by rest true = all.0
      by rest false = rest
  life-by (PodGone pod ∷ older) all u = by (life-by older all.1 u) (same_uid pod.uid u)
    where
      by : LifeBy (life u older) → (b : Bool) → LifeBy (cond b Gone (life u older))
      by rest true = tt
      by rest false = rest

  abbrev PodBy : Option Pod → Type 0
  PodBy o = IfSome o PodP

  pod-found : (log : List Entry) → AllBy log → (u : Uid) → PodBy (pod_in u log)
  pod-found log all u = by (life u log) (life-by log all u)
    where
      by : (l : Life) → LifeBy l → PodBy (living l)
      by Never h = tt
      by (Live pod) h = h
      by Gone h = tt

  upto-by : (v : ℕ) (log : List Entry) → AllBy log → AllBy (upto v log)
  upto-by v [] all = tt
  upto-by v (e ∷ older) all = by (upto-by v older all.1) (nat_lt (length older) v)
    where
      by : AllBy (upto v older) → (b : Bool) → AllBy (cond b (e ∷ older) (upto v older))
      by rest true = all
      by rest false = rest

  -- ---- what an answer appends

  abbrev pub GivesBy : Answered → Type 0
  GivesBy answered = IfSome answered.entry PutsBy

  unless-by : (b : Bool) (r : Reply) (other : Answered) → GivesBy other → GivesBy (cond b (refused r) other)
  unless-by true r other g = tt
  unless-by false r other g = g

  where-by : (b : Bool) (one : Answered) (r : Reply) → GivesBy one → GivesBy (cond b one (refused r))
  where-by true one r h = h
  where-by false one r h = tt

  pod-by : (pod : Pod) → PodP pod → PutsBy (pod_entry pod)
  pod-by pod h = by (goes pod)
    where
      by : (b : Bool) → PutsBy (cond b (PodGone pod) (PodPut pod))
      by true = tt
      by false = h

  -- ---- requests and commands

  module _ (log : List Entry) (all : AllBy log) where
    create-by : (key : Key) (spec : JobSpec) (now : ℕ) → MayCreate key spec → GivesBy (create_job_gives log key spec now)
    create-by key spec now may = by (job_in key log)
      where
        by : (o : Option Job) → GivesBy (create_job_at log key spec now o)
        by None = kept.created log key spec now may
        by (Some job) = tt

    update-by : (key : Key) (version : Option Version) (change : SpecChange) → GivesBy (update_spec_gives log key version change)
    update-by key version change = by (job_in key log) (found-by log all key)
      where
        written : Job → Answered
        written job = accepted (reply.Written (next_version log)) (JobPut (with_spec log job (changed_spec job.spec change)))

        given : (job : Job) → JobP job → (o : Option Reply) → GivesBy (update_unless log job change o)
        given job h (Some r) = tt
        given job h None = unless-by (same_limits job.spec (changed_spec job.spec change)) (reply.Unchanged job.version) (written job) (kept.updated log job change h)

        by : (o : Option Job) → JobBy o → GivesBy (update_spec_at log version change o)
        by None h = tt
        by (Some job) h =
            unless-by (is_other version job.version) (reply.Conflict job.version) (update_unless log job change (update_refusal job.spec change))
            (given job h (update_refusal job.spec change))

    delete-by : (key : Key) → GivesBy (delete_job_gives log key)
    delete-by key = by (job_in key log)
      where
        by : (o : Option Job) → GivesBy (delete_job_at log o)
        by None = tt
        by (Some job) = tt

    status-by : (key : Key) (uid : Uid) (version : Version) (status : JobStatus) → ((current : Job) → JobP current → JobP (with_status log current status)) → GivesBy (write_status_gives log key uid version status)
    status-by key uid version status good = by (job_in key log) (found-by log all key)
      where
        by : (o : Option Job) → JobBy o → GivesBy (write_status_at log uid version status o)
        by None h = tt
        by (Some job) h =
            unless-by (not (same_uid job.uid uid)) reply.NotFound _
            (unless-by (not (job.version.0 == version.0)) (reply.Conflict job.version) _
            (unless-by (same_status job.status status) (reply.Unchanged job.version) (accepted (reply.Written (next_version log)) (JobPut (with_status log job status))) (good job h)))

    mark-by : (uid : Uid) (now : ℕ) → GivesBy (mark_pod_gives log uid now)
    mark-by uid now = by (pod_in uid log) (pod-found log all uid)
      where
        by : (o : Option Pod) → PodBy o → GivesBy (mark_pod_at log now o)
        by None h = tt
        by (Some pod) h = unless-by (is_marked pod) (reply.Unchanged pod.version) (accepted (reply.Written (next_version log)) (pod_entry (with_mark log pod now))) (pod-by (with_mark log pod now) (kept.marked log pod now h))

    release-by : (uid : Uid) → GivesBy (release_gives log uid)
    release-by uid = by (pod_in uid log) (pod-found log all uid)
      where
        by : (o : Option Pod) → PodBy o → GivesBy (release_at log o)
        by None h = tt
        by (Some pod) h = where-by pod.tracked (released log pod) reply.NotTracked (pod-by (without_finalizer log pod) (kept.freed log pod h))

    let-go-by : (uid : Uid) (version : Version) → GivesBy (let_go_gives log uid version)
    let-go-by uid version = by (pod_in uid log) (pod-found log all uid)
      where
        by : (o : Option Pod) → PodBy o → GivesBy (let_go_at log version o)
        by None h = tt
        by (Some pod) h =
            unless-by (not (pod.version.0 == version.0)) (reply.Conflict pod.version) (cond pod.tracked (released log pod) (refused reply.NotTracked))
            (where-by pod.tracked (released log pod) reply.NotTracked (pod-by (without_finalizer log pod) (kept.freed log pod h)))

    report-by : (uid : Uid) (change : PhaseChange) → GivesBy (report_phase_gives log uid change)
    report-by uid change = by (pod_in uid log) (pod-found log all uid)
      where
        unless : (pod : Pod) → PodP pod → (o : Option ContainerChange) → GivesBy (report_unless log pod change o)
        unless pod h (Some unnamed) = tt
        unless pod h None =
            unless-by (same_course_of pod (with_report log pod change)) (reply.Unchanged pod.version) (accepted (reply.Written (next_version log)) (pod_entry (with_report log pod change)))
            (pod-by (with_report log pod change) (kept.reported log pod change h))

        by : (o : Option Pod) → PodBy o → GivesBy (report_phase_at log change o)
        by None h = tt
        by (Some pod) h =
            unless-by (is_final pod.phase) (reply.Final pod.phase)
            (cond (same_phase pod.phase Running && same_phase change.phase Pending)
            (refused (reply.BadStep Running Pending))
            (report_unless log pod change (find (is_unnamed pod) change.containers)))
            (unless-by (same_phase pod.phase Running && same_phase change.phase Pending) (reply.BadStep Running Pending) (report_unless log pod change (find (is_unnamed pod) change.containers))
            (unless pod h (find (is_unnamed pod) change.containers)))

    finish-by : (uid : Uid) (exit : ℤ) → GivesBy (finish_gives log (pod_in uid log) (λ pod. report_phase_gives log uid (finish_change pod exit)))
    finish-by uid exit = by (pod_in uid log)
      where
        by : (o : Option Pod) → GivesBy (finish_gives log o (λ pod. report_phase_gives log uid (finish_change pod exit)))
        by None = tt
        by (Some pod) = report-by uid (finish_change pod exit)

    node-by : (o : Option (Pod × NodeAct)) → GivesBy (node_gives log o)
    node-by None = tt
    node-by (Some step) = report-by step.0.uid (change_by step.0 step.1)

    -- ---- the steps of a sync

    module _ (now : ℕ) (flight : Flight) (h : JobBy flight.basis.job) where
      written-by : (o : Option JobStatus) → ((planned flight.basis).first ≡ o) ⊎ ((planned flight.basis).second ≡ o) → GivesBy (written_gives log flight o)
      written-by None is = tt
      written-by (Some status) is = by flight.basis.job refl h
        where
          by : (o : Option Job) → flight.basis.job ≡ o → JobBy o → GivesBy (status_gives log flight status o)
          by None saw g = tt
          by (Some job) saw g = status-by flight.basis.key job.uid flight.sends status (λ current there. kept.stated log flight.basis job current status saw g there is)

      make-by : (index : Option ℕ) (o : Option Job) → JobBy o → GivesBy (make_gives log index now o)
      make-by index None g = tt
      make-by index (Some job) g = kept.made log job index now g

      answered-by : (ask : Ask) → GivesBy (answered_to log now flight ask)
      answered-by (MakePod index) = make-by index flight.basis.job h
      answered-by (MarkPod u) = mark-by u now
      answered-by (LetPodGo u v) = let-go-by u v
      answered-by WriteFirst = written-by (planned flight.basis).first (inl refl)
      answered-by (ReleasePod u) = release-by u
      answered-by WriteSecond = written-by (planned flight.basis).second (inr refl)

      stepped-by : (fault : Option Fault) (left : List Ask) → GivesBy (step_done (stepped_at now fault log flight left))
      stepped-by fault [] = tt
      stepped-by None (ask ∷ left) = answered-by ask
      stepped-by (Some Drop) (ask ∷ left) = tt
      stepped-by (Some Lose) (ask ∷ left) = answered-by ask

  -- ---- what a controller has noted

  abbrev NotesBy : Note → Type 0
  NotesBy (Began worker b) = JobBy b.job
  NotesBy other = Unit {0}

  abbrev RegisterBy : Option Basis → Type 0
  RegisterBy o = IfSome o (λ (b : Basis). JobBy b.job)

  newest-by : (w : ℕ) (notes : List Note) → Each NotesBy notes → IfSome (newest (register_told w) notes) RegisterBy
  newest-by w [] all = tt
  newest-by w (Began worker b ∷ older) all = by (newest-by w older all.1) (worker == w)
    where
      by : IfSome (newest (register_told w) older) RegisterBy → (t : Bool)
          → IfSome (option_or (cond t (Some (Some b)) None) (newest (register_told w) older)) RegisterBy
      by rest true = all.0
      by rest false = rest
  newest-by w (Ended worker b end now ∷ older) all = by (newest-by w older all.1) (worker == w)
    where
      by : IfSome (newest (register_told w) older) RegisterBy → (t : Bool)
          → IfSome (option_or (cond t (Some None) None) (newest (register_told w) older)) RegisterBy
      by rest true = tt
      by rest false = rest
  newest-by w (Listed kind at keys ∷ older) all = newest-by w older all.1
  newest-by w (Told kind at key ∷ older) all = newest-by w older all.1
  newest-by w (Expired kind ∷ older) all = newest-by w older all.1
  newest-by w (SentBack key ∷ older) all = newest-by w older all.1
  newest-by w (Asked worker b request answer ∷ older) all = newest-by w older all.1
  newest-by w (Faulted worker fault ∷ older) all = newest-by w older all.1
  newest-by w (Ticked at ∷ older) all = newest-by w older all.1

  register-by : (w : ℕ) (notes : List Note) → Each NotesBy notes → RegisterBy (register w notes)
  register-by w notes all = by (newest (register_told w) notes) (newest-by w notes all)
    where
      by : (o : Option (Option Basis)) → IfSome o RegisterBy → RegisterBy (unwrap_or o None)
      by None h = tt
      by (Some o) h = h

  if-by : (b : Bool) (notes : List Note) → Each NotesBy notes → Each NotesBy (cond b notes [])
  if-by true notes all = all
  if-by false notes all = tt

  both-by : (first rest : List Note) → Each NotesBy first → Each NotesBy rest → Each NotesBy (first ++ rest)
  both-by [] rest one all = all
  both-by (note ∷ first) rest one all = (one.0, both-by first rest one.1 all)

  module _ (log : List Entry) (all : AllBy log) (now : ℕ) where
    lag-by : (keys : List Key) → Each NotesBy (on_lag keys)
    lag-by [] = tt
    lag-by (k ∷ keys) = (tt, tt)

    begin-by : (worker : ℕ) (older : List Note) (r : Reply) → Each NotesBy (on_begin worker now log older r)
    begin-by worker older (reply.Begun key jobs_at pods_at) = (found-by (upto jobs_at.0 log) (upto-by jobs_at.0 log all) key, tt)
    begin-by worker older (reply.Behind kind need have) = lag-by (line older)
    begin-by worker older other = tt

    list-by : (kind : Kind) (r : Reply) → Each NotesBy (on_list kind log r)
    list-by kind (reply.Listed at) = (tt, tt)
    list-by kind other = tt

    delivery-by : (kind : Kind) (r : Reply) → Each NotesBy (on_delivery kind log r)
    delivery-by kind (reply.Delivered version) = (tt, tt)
    delivery-by kind (reply.Expired floor) = (tt, tt)
    delivery-by kind other = tt

    clock-by : (r : Reply) → Each NotesBy (on_clock r)
    clock-by (reply.Now moment) = (tt, tt)
    clock-by other = tt

    answer-by : (worker : ℕ) (b : Basis) (asked : Request) (given : Answer) → Each NotesBy (on_answer worker b now asked given)
    answer-by worker b asked given = by (end_by (asks_status asked) given)
      where
        by : (o : Option SyncEnd) → Each NotesBy (option_to_list (option_map (λ end. Ended worker b end now) o) ++ Asked worker b asked given ∷ [])
        by None = (tt, tt)
        by (Some end) = (tt, (tt, tt))

    step-by : (worker : ℕ) (o : Option Basis) (r : Reply) → Each NotesBy (on_step worker now o r)
    step-by worker (Some b) (reply.Stepped asked given) = answer-by worker b asked given
    step-by worker (Some b) reply.Ended = (tt, tt)
    step-by worker (Some b) other = tt
    step-by worker None other = tt

    taken-by : (c : ℕ) (act : Act) (r : Reply) (older : List Note) → Each NotesBy (notes_taken c act r now log older)
    taken-by c (does.List controller kind) r older = if-by (controller == c) (on_list kind log r) (list-by kind r)
    taken-by c (does.Deliver controller kind) r older = if-by (controller == c) (on_delivery kind log r) (delivery-by kind r)
    taken-by c (does.Begin controller worker) r older = if-by (controller == c) (on_begin worker now log older r) (begin-by worker older r)
    taken-by c (does.Step controller worker) r older = if-by (controller == c) (on_step worker now (register worker older) r) (step-by worker (register worker older) r)
    taken-by c (does.PutFault controller worker fault) r older = if-by (controller == c) (Faulted worker fault ∷ []) (tt, tt)
    taken-by c (does.Clock add) r older = clock-by r
    taken-by c other r older = tt

  notes-by : (shape : Shape) (c : ℕ) (deeds : List Deed) (log : List Entry) → AllBy log → Each NotesBy (notes shape c deeds log)
  notes-by shape c [] log all = tt
  notes-by shape c (d ∷ deeds) log all = by (notes-by shape c deeds log all) (restarts c d.act)
    where
      older : List Note
      older = notes shape c deeds log

      by : Each NotesBy older → (b : Bool) → Each NotesBy (cond b [] (notes_taken c d.act d.reply (moment shape deeds) log older ++ older))
      by rest true = tt
      by rest false =
          both-by (notes_taken c d.act d.reply (moment shape deeds) log older) older
          (taken-by log all (moment shape deeds) c d.act d.reply older) rest

  -- ---- what each act appends

  module _ (shape : Shape) (past : List Deed) (log : List Entry) (all : AllBy log) where
    tick-by : (at : ℕ) → GivesBy (clock_gives at)
    tick-by at = by (nat_lt at end_of_moments)
      where
        by : (b : Bool) → GivesBy (cond b (refused (reply.Now at)) (refused reply.ClockEnd))
        by true = tt
        by false = tt

    told-by : (window : ℕ) (o : Option Version) → GivesBy (deliver_gives log window o)
    told-by window None = tt
    told-by window (Some version) = by (nat_lt version.0 (length log - window)) (version.0 == length log)
      where
        by : (p q : Bool) → GivesBy (cond p (refused (reply.Expired (record { 0 = length log - window }))) (cond q (refused reply.UpToDate) (refused (reply.Delivered (record { 0 = version.0 + 1 })))))
        by true q = tt
        by false true = tt
        by false false = tt

    sync-by : (made : List (Request × Answer)) (fault : Option Fault) (o : Option Basis) → RegisterBy o → GivesBy (step_gives log (moment shape past) made fault o)
    sync-by made fault None h = tt
    sync-by made fault (Some b) h = stepped-by log all (moment shape past) (so_far b made).flight h fault (so_far b made).left

    pub act-by : (act : Act) → MayAct act → GivesBy (gives shape past log act)
    unfolding gives
    act-by (does.Create key spec) may = create-by log all key spec (moment shape past) may
    act-by (does.Update key version change) may = update-by log all key version change
    act-by (does.Delete key) may = delete-by log all key
    act-by (does.Mark pod) may = mark-by log all pod (moment shape past)
    act-by (does.Strip pod) may = release-by log all pod
    act-by (does.Finish uid exit) may = finish-by log all uid exit
    act-by (does.Report pod change) may = report-by log all pod change
    act-by (does.Fate key ends) may = tt
    act-by (does.Clock add) may = tick-by (moment shape past + add)
    act-by (does.List controller kind) may = tt
    act-by (does.Deliver controller kind) may = told-by shape.window (number kind (notes shape controller past log))
    act-by (does.Begin controller worker) may = by (register worker (notes shape controller past log))
      where
        by : (o : Option Basis) → GivesBy (begin_gives o (begin_of (notes shape controller past log) log (moment shape past)))
        by None = tt
        by (Some basis) = tt
    act-by (does.Step controller worker) may =
        sync-by (made worker (notes shape controller past log)) (pending worker (notes shape controller past log)) (register worker (notes shape controller past log))
        (register-by worker (notes shape controller past log) (notes-by shape controller past log all))
    act-by does.Node may = node-by log all (node_step log (fate past))
    act-by (does.Restart controller) may = tt
    act-by (does.PutFault controller worker fault) may = tt
    act-by does.Settle may = tt
    act-by does.Unknown may = tt

  -- ---- the log of deeds

  all-by : (shape : Shape) (deeds : List Deed) → Each (λ (d : Deed). MayAct d.act) deeds → AllBy (log_given shape deeds)
  unfolding log_given
  all-by shape [] may = tt
  all-by shape (d ∷ past) may =
      by (gives shape past (log_given shape past) d.act).entry (act-by shape past (log_given shape past) (all-by shape past may.1) d.act may.0) (all-by shape past may.1)
    where
      by : (o : Option Entry) → IfSome o PutsBy → AllBy (log_given shape past) → AllBy (grown (log_given shape past) o)
      by None h older = older
      by (Some e) h older = (h, older)

  -- So it is of each Job that is there, and of each pod.
  pub job-kept : (shape : Shape) (deeds : List Deed) → Each (λ (d : Deed). MayAct d.act) deeds → (k : Key) → IfSome (job_in k (log_given shape deeds)) JobP
  job-kept shape deeds may k = found-by (log_given shape deeds) (all-by shape deeds may) k

  pub pods-kept : (shape : Shape) (deeds : List Deed) → Each (λ (d : Deed). MayAct d.act) deeds → Each PodP (pods_in (log_given shape deeds))
  pods-kept shape deeds may =
      Each-weaker (λ (pod : Pod). life pod.uid (log_given shape deeds) ≡ Live pod) PodP
      (λ pod there. subst LifeBy there (life-by (log_given shape deeds) (all-by shape deeds may) pod.uid)) (pods_in (log_given shape deeds)) (pods_in-live (log_given shape deeds))
