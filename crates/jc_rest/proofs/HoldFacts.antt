-- Which answers of the store leave a pod its finalizer, and which take it.
use Rattle.std.proofs.Common.{◌≡◌, ℕ, ◌+◌, ◌-◌, ◌==◌, nat_lt, Bool, true, false, cond, not, ◌&&◌, List, [], ◌∷◌, length, Option, Some, None, find, refl, sym, ap, ◌∙◌, subst, true≢false}
use Rattle.std.proofs.lemmas.Bool.{and_parts, not-false, not-true, not_from_true}
use Rattle.jc_log.specs.Acts as does
use Rattle.jc_control.specs.declared.begins.Begin.{Begin}
use Rattle.jc_log.specs.Range.{end_of_moments}
use Rattle.jc_types.specs.declared.actions.ContainerChange.{ContainerChange}
use Rattle.jc_types.specs.declared.actions.Fault.{Fault}
use Rattle.jc_types.specs.declared.actions.Fault.TheVariants.{Drop, Lose}
use Rattle.jc_types.specs.declared.actions.PhaseChange.{PhaseChange}
use Rattle.jc_types.specs.declared.actions.SpecChange.{SpecChange}
use Rattle.jc_types.specs.declared.numbers.Uid.{Uid}
use Rattle.jc_types.specs.declared.numbers.Version.{Version}
use Rattle.jc_types.specs.declared.objects.Entry.{Entry}
use Rattle.jc_types.specs.declared.objects.Entry.TheVariants.{PodPut, PodGone}
use Rattle.jc_types.specs.declared.objects.Job.{Job}
use Rattle.jc_types.specs.declared.objects.Phase.TheVariants as phase
use Rattle.jc_types.specs.declared.objects.Pod.{Pod}
use Rattle.jc_types.specs.declared.replies.Reply.{Reply}
use Rattle.jc_types.specs.declared.replies.Request.{Request}
use Rattle.jc_types.specs.declared.runs.Shape.{Shape}
use Rattle.jc_types.specs.declared.specifications.JobSpec.{JobSpec}
use Rattle.jc_types.specs.declared.statuses.JobStatus.{JobStatus}
use Rattle.jc_types.specs.Equality.{same_limits, same_phase, same_status}
use Rattle.jc_types.specs.declared.objects.KeyNames.{KeyNames as Key}
use Rattle.jc_types.specs.Keys.{same_uid}
use Rattle.jc_types.proofs.KeyFacts.{same_uid-eq}
use Rattle.jc_states.specs.declared.bases.Basis.{Basis}
use Rattle.jc_states.specs.Pods.{goes, is_final, is_marked}
use Rattle.jc_log.specs.Acts.{Act}
use Rattle.jc_log.specs.Deeds.{Deed}
use Rattle.jc_log.specs.Log.{Gone, Life, Live, is_lost, job_in, life, pod_in}
use Rattle.jc_log.specs.Requests.{Answered, changed_spec, create_job_at, create_job_gives, delete_job_at, delete_job_gives, grown, is_other, is_unnamed, let_go_gives, made_pod, mark_pod_at, mark_pod_gives, pod_entry, release_gives}
use Rattle.jc_log.specs.Requests.{released, report_phase_at, report_phase_gives, report_unless, same_course_of, update_refusal, update_spec_at, update_spec_gives, update_unless, with_mark, with_report, without_finalizer, write_status_at}
use Rattle.jc_log.proofs.PodFacts.{living-live}
use Rattle.jc_log.proofs.WriteFacts.{life-uid}
use Rattle.jc_plan.specs.Plans.{planned}
use Rattle.jc_sync.specs.Flight.{Flight}
use Rattle.jc_sync.specs.Once.{Taking, taking_of}
use Rattle.jc_sync.specs.Syncs.{request_of}
use Rattle.jc_sync.specs.Ask.{Ask}
use Rattle.jc_sync.specs.Ask.TheVariants.{MakePod, MarkPod, LetPodGo, WriteFirst, ReleasePod, WriteSecond}
use Rattle.jc_sync.specs.Asks.{as_request}
use Rattle.jc_sync.specs.Steps.{answered_to, make_gives, status_gives, stepped_at, written_gives}
use Rattle.jc_sync.proofs.ApiFacts.{LetGoCases, LetGone, NotThere, Other, Refused, ReleaseCases, Took, let_go_cases, release_cases}
use Rattle.jc_history.specs.SoFar.{so_far}
use Rattle.jc_history.specs.Diaries.{moment, notes}
use Rattle.jc_history.specs.Fresh.{begin as begin_of}
use Rattle.jc_history.specs.Nodes.{NodeAct, change_by, fate, finish_change, node_step}
use Rattle.jc_history.specs.Numbers.{number}
use Rattle.jc_history.specs.Registers.{made, pending, register}
use Rattle.jc_history.specs.Replies.{begin_gives, deliver_gives, finish_gives, gives, node_gives, step_gives}

-- No pod is without its finalizer, or gone.
abbrev pub Holds : Life → Type 0
Holds l = is_lost l ≡ false

module _ (u : Uid) (log : List Entry) where
  -- What an answer to the request leaves: the pod has its finalizer still, or the request took it.
  pub data Outcome (asked : Option Request) (a : Answered) : Type 0 where
    Held : Holds (life u (grown log a.entry)) → Outcome asked a
    Taken : (taking : Taking) → taking_of asked ≡ Some taking → taking.pod ≡ u → (pod : Pod) → life u log ≡ Live pod → (e : Entry) → a.entry ≡ Some e → Outcome asked a

  -- So it is of an act, or the act strips the pod.
  pub data OfAct (act : Act) (a : Answered) : Type 0 where
    Strips : act ≡ does.Strip u → (pod : Pod) → life u log ≡ Live pod → (e : Entry) → a.entry ≡ Some e → OfAct act a
    Otherwise : Outcome (request_of a.reply) a → OfAct act a

  module _ (held : Holds (life u log)) where
    abbrev Keeps : Answered → Type 0
    Keeps a = Holds (life u (grown log a.entry))

    either : (b : Bool) (x y : Answered) → Keeps x → Keeps y → Keeps (cond b x y)
    either true x y h g = h
    either false x y h g = g

    -- ---- entries

    put : (new : Pod) → (same_uid new.uid u ≡ true → new.tracked ≡ true) → Holds (life u (PodPut new ∷ log))
    put new h = by (same_uid new.uid u) refl
      where
        by : (b : Bool) → same_uid new.uid u ≡ b → Holds (cond b (Live new) (life u log))
        by true s = not_from_true new.tracked (h s)
        by false s = held

    -- A pod that goes has no finalizer.
    gone : (new : Pod) → (same_uid new.uid u ≡ true → new.tracked ≡ true) → goes new ≡ true → Holds (life u (PodGone new ∷ log))
    gone new h g = by (same_uid new.uid u) refl
      where
        untracked : new.tracked ≡ false
        untracked = not-true new.tracked (and_parts (not new.tracked) (is_final new.phase) (and_parts (is_marked new) (not new.tracked && is_final new.phase) g).1).0

        by : (b : Bool) → same_uid new.uid u ≡ b → Holds (cond b Gone (life u log))
        by true s = absurd (true≢false (sym (h s) ∙ untracked))
        by false s = held

    written : (new : Pod) → (same_uid new.uid u ≡ true → new.tracked ≡ true) → Holds (life u (pod_entry new ∷ log))
    written new h = by (goes new) refl
      where
        by : (b : Bool) → goes new ≡ b → Holds (life u (cond b (PodGone new) (PodPut new) ∷ log))
        by true g = gone new h g
        by false g = put new h

    -- A pod of the UID that is there has its finalizer.
    its : (v : Uid) (old : Pod) → life v log ≡ Live old → same_uid old.uid u ≡ true → life u log ≡ Live old
    its v old is s = ap (λ w. life w log) (sym (sym (life-uid v log old is) ∙ same_uid-eq old.uid u s)) ∙ is

    tracked : (v : Uid) (old : Pod) → life v log ≡ Live old → same_uid old.uid u ≡ true → old.tracked ≡ true
    tracked v old is s = not-false old.tracked (subst Holds (its v old is s) held)

    -- ---- requests that keep it

    create-keeps : (key : Key) (spec : JobSpec) (now : ℕ) → Keeps (create_job_gives log key spec now)
    create-keeps key spec now = by (job_in key log)
      where
        by : (o : Option Job) → Keeps (create_job_at log key spec now o)
        by None = held
        by (Some job) = held

    update-keeps : (key : Key) (version : Option Version) (change : SpecChange) → Keeps (update_spec_gives log key version change)
    update-keeps key version change = by (job_in key log)
      where
        unless : (job : Job) (o : Option Reply) → Keeps (update_unless log job change o)
        unless job None = either (same_limits job.spec (changed_spec job.spec change)) _ _ held held
        unless job (Some r) = held

        by : (o : Option Job) → Keeps (update_spec_at log version change o)
        by None = held
        by (Some job) = either (is_other version job.version) _ _ held (unless job (update_refusal job.spec change))

    delete-keeps : (key : Key) → Keeps (delete_job_gives log key)
    delete-keeps key = by (job_in key log)
      where
        by : (o : Option Job) → Keeps (delete_job_at log o)
        by None = held
        by (Some job) = held

    mark-keeps : (v : Uid) (now : ℕ) → Keeps (mark_pod_gives log v now)
    mark-keeps v now = by (pod_in v log) refl
      where
        by : (o : Option Pod) → pod_in v log ≡ o → Keeps (mark_pod_at log now o)
        by None e = held
        by (Some old) e = either (is_marked old) _ _ held (written (with_mark log old now) (tracked v old (living-live (life v log) old e)))

    report-keeps : (v : Uid) (change : PhaseChange) → Keeps (report_phase_gives log v change)
    report-keeps v change = by (pod_in v log) refl
      where
        unless : (old : Pod) → life v log ≡ Live old → (o : Option ContainerChange) → Keeps (report_unless log old change o)
        unless old is None = either (same_course_of old (with_report log old change)) _ _ held (written (with_report log old change) (tracked v old is))
        unless old is (Some name) = held

        by : (o : Option Pod) → pod_in v log ≡ o → Keeps (report_phase_at log change o)
        by None e = held
        by (Some old) e =
            either (is_final old.phase) _ _ held
            (either (same_phase old.phase phase.Running && same_phase change.phase phase.Pending) _ _ held
            (unless old (living-live (life v log) old e) (find (is_unnamed old) change.containers)))

    finish-keeps : (v : Uid) (o : Option Pod) (change : Pod → PhaseChange) → Keeps (finish_gives log o (λ pod. report_phase_gives log v (change pod)))
    finish-keeps v None change = held
    finish-keeps v (Some pod) change = report-keeps v (change pod)

    node-keeps : (o : Option (Pod × NodeAct)) → Keeps (node_gives log o)
    node-keeps None = held
    node-keeps (Some step) = report-keeps step.0.uid (change_by step.0 step.1)

    make-keeps : (index : Option ℕ) (now : ℕ) (o : Option Job) → Keeps (make_gives log index now o)
    make-keeps index now None = held
    make-keeps index now (Some job) = put (made_pod log job index now) (λ s. refl)

    status-keeps : (flight : Flight) (o : Option JobStatus) → Keeps (written_gives log flight o)
    status-keeps flight None = held
    status-keeps flight (Some status) = by flight.basis.job
      where
        there : (job : Job) (o : Option Job) → Keeps (write_status_at log job.uid flight.sends status o)
        there job None = held
        there job (Some current) =
            either (not (same_uid current.uid job.uid)) _ _ held
            (either (not (current.version.0 == flight.sends.0)) _ _ held (either (same_status current.status status) _ _ held held))

        by : (o : Option Job) → Keeps (status_gives log flight status o)
        by None = held
        by (Some job) = there job (job_in flight.basis.key log)

    -- ---- requests that take it

    -- The pod of the UID is taken, or another one.
    release-of : (asked : Option Request) (taking : Taking) → taking_of asked ≡ Some taking → (v : Uid) → taking.pod ≡ v → (old : Pod) → life v log ≡ Live old → (a : Answered) → a ≡ released log old → Outcome asked a
    release-of asked taking takes v same old is a e = by (same_uid old.uid u) refl
      where
        by : (b : Bool) → same_uid old.uid u ≡ b → Outcome asked a
        by true s =
            Taken taking takes (same ∙ sym (life-uid v log old is) ∙ same_uid-eq old.uid u s) old (its v old is s) (pod_entry (without_finalizer log old)) (ap (λ (x : Answered). x.entry) e)
        by false s = Held (subst Keeps (sym e) (written (without_finalizer log old) (λ t. absurd (true≢false (sym t ∙ s)))))

    released-as : (asked : Option Request) (taking : Taking) → taking_of asked ≡ Some taking → (v : Uid) → taking.pod ≡ v → Outcome asked (release_gives log v)
    released-as asked taking takes v same = by (release_gives log v) (release_cases log v)
      where
        by : (a : Answered) → ReleaseCases log v a → Outcome asked a
        by a (Took old is e) = release-of asked taking takes v same old is a e
        by a (NotThere lost e) = Held (subst Keeps (sym e) held)

    let-go-as : (asked : Option Request) (taking : Taking) → taking_of asked ≡ Some taking → (v : Uid) (version : Version) → taking.pod ≡ v → Outcome asked (let_go_gives log v version)
    let-go-as asked taking takes v version same = by (let_go_gives log v version) (let_go_cases log v version)
      where
        by : (a : Answered) → LetGoCases log v version a → Outcome asked a
        by a (LetGone old is at e) = release-of asked taking takes v same old is a e
        by a (Other old is other e) = Held (subst Keeps (sym e) held)
        by a (Refused r e why) = Held (subst Keeps (sym e) held)

    asked-as : (now : ℕ) (flight : Flight) (ask : Ask) → Outcome (Some (as_request ask)) (answered_to log now flight ask)
    asked-as now flight (MakePod index) = Held (make-keeps index now flight.basis.job)
    asked-as now flight (MarkPod v) = Held (mark-keeps v now)
    asked-as now flight (LetPodGo v version) = let-go-as (Some (as_request (LetPodGo v version))) (record { pod = v; lets_go = true }) refl v version refl
    asked-as now flight WriteFirst = Held (status-keeps flight (planned flight.basis).first)
    asked-as now flight (ReleasePod v) = released-as (Some (as_request (ReleasePod v))) (record { pod = v; lets_go = false }) refl v refl
    asked-as now flight WriteSecond = Held (status-keeps flight (planned flight.basis).second)

    -- The same of another answer with the entry.
    with-entry : (asked : Option Request) (x y : Answered) → y.entry ≡ x.entry → Outcome asked x → Outcome asked y
    with-entry asked x y e (Held h) = Held (subst (λ o. Holds (life u (grown log o))) (sym e) h)
    with-entry asked x y e (Taken taking takes same pod is entry there) = Taken taking takes same pod is entry (e ∙ there)

    step-as : (now : ℕ) (fault : Option Fault) (flight : Flight) (left : List Ask)
        → Outcome (request_of (stepped_at now fault log flight left).reply) (record { reply = (stepped_at now fault log flight left).reply; entry = (stepped_at now fault log flight left).entry })
    step-as now fault flight [] = Held held
    step-as now None flight (ask ∷ left) = with-entry (Some (as_request ask)) (answered_to log now flight ask) _ refl (asked-as now flight ask)
    step-as now (Some Drop) flight (ask ∷ left) = Held held
    step-as now (Some Lose) flight (ask ∷ left) = with-entry (Some (as_request ask)) (answered_to log now flight ask) _ refl (asked-as now flight ask)

    -- ---- acts

    strip-as : (v : Uid) → OfAct (does.Strip v) (release_gives log v)
    strip-as v = by (release_gives log v) (released-as (Some (as_request (ReleasePod v))) (record { pod = v; lets_go = false }) refl v refl)
      where
        by : (a : Answered) → Outcome (Some (as_request (ReleasePod v))) a → OfAct (does.Strip v) a
        by a (Held h) = Otherwise (Held h)
        by a (Taken taking takes same pod is entry there) = Strips (ap (λ o. does.Strip (pod-of o)) takes ∙ ap does.Strip same) pod is entry there
          where
            pod-of : Option Taking → Uid
            pod-of None = taking.pod
            pod-of (Some t) = t.pod

    pub acts : (shape : Shape) (past : List Deed) (act : Act) → OfAct act (gives shape past log act)
    unfolding gives
    acts shape past (does.Create key spec) = Otherwise (Held (create-keeps key spec (moment shape past)))
    acts shape past (does.Update key version change) = Otherwise (Held (update-keeps key version change))
    acts shape past (does.Delete key) = Otherwise (Held (delete-keeps key))
    acts shape past (does.Mark v) = Otherwise (Held (mark-keeps v (moment shape past)))
    acts shape past (does.Strip v) = strip-as v
    acts shape past (does.Finish v exit) = Otherwise (Held (finish-keeps v (pod_in v log) (λ pod. finish_change pod exit)))
    acts shape past (does.Report v change) = Otherwise (Held (report-keeps v change))
    acts shape past (does.Fate key ends) = Otherwise (Held held)
    acts shape past (does.Clock add) = Otherwise (Held (either (nat_lt (moment shape past + add) end_of_moments) _ _ held held))
    acts shape past (does.List controller kind) = Otherwise (Held held)
    acts shape past (does.Deliver controller kind) = Otherwise (Held (by (number kind (notes shape controller past log))))
      where
        by : (o : Option Version) → Keeps (deliver_gives log shape.window o)
        by None = held
        by (Some version) = either (nat_lt version.0 (length log - shape.window)) _ _ held (either (version.0 == length log) _ _ held held)
    acts shape past (does.Begin controller worker) = Otherwise (Held (by (register worker (notes shape controller past log)) (begin_of (notes shape controller past log) log (moment shape past))))
      where
        by : (o : Option Basis) (begin : Begin) → Keeps (begin_gives o begin)
        by None begin = held
        by (Some basis) begin = held
    acts shape past (does.Step controller worker) =
        Otherwise (by (made worker (notes shape controller past log)) (pending worker (notes shape controller past log)) (register worker (notes shape controller past log)))
      where
        by : (some : List _) (fault : Option Fault) (o : Option Basis) → Outcome (request_of (step_gives log (moment shape past) some fault o).reply) (step_gives log (moment shape past) some fault o)
        by some fault None = Held held
        by some fault (Some basis) = step-as (moment shape past) fault (so_far basis some).flight (so_far basis some).left
    acts shape past does.Node = Otherwise (Held (node-keeps (node_step log (fate past))))
    acts shape past (does.Restart controller) = Otherwise (Held held)
    acts shape past (does.PutFault controller worker fault) = Otherwise (Held held)
    acts shape past does.Settle = Otherwise (Held held)
    acts shape past does.Unknown = Otherwise (Held held)
