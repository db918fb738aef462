-- What is so of each entry that an act may append is so of the one that it does.
use Rattle.std.proofs.Common.{◌≡◌, ℕ, ℤ, suc, zero, ◌+◌, ◌-◌, ◌^◌, ◌<◌, ◌≤◌, ◌==◌, nat_lt, max, min, pos, Bool, true, false, cond, not, ◌&&◌, List, [], ◌∷◌, ◌++◌}
use Rattle.std.proofs.Common.{map, drop, length, find, Option, Some, None, is_none, IfSome, refl, sym, ap, ◌∙◌, subst, arith}
use Rattle.std.specs.List.{AllByRecursion as Each, cons_option, filter_map}
use Rattle.std.specs.Option.{option_map, option_map_or, option_or, option_to_list, unwrap_or}
use Rattle.std.proofs.lemmas.Option.{none-some as none_some, same_Some as some_is}
use Rattle.jc_types.specs.Equality.{same_limits, same_phase, same_status}
use Rattle.jc_types.proofs.ListFacts.{Each-append}
use Rattle.jc_types.specs.declared.objects.KeyNames.{KeyNames as Key}
use Rattle.jc_types.specs.Keys.{same_uid}
use Rattle.jc_types.specs.declared.actions.ContainerChange.{ContainerChange}
use Rattle.jc_types.specs.declared.actions.Fault.{Fault}
use Rattle.jc_types.specs.declared.actions.Fault.TheVariants.{Drop, Lose}
use Rattle.jc_types.specs.declared.actions.PhaseChange.{PhaseChange}
use Rattle.jc_types.specs.declared.actions.SpecChange.{SpecChange}
use Rattle.jc_types.specs.declared.actions.End.{End}
use Rattle.jc_types.specs.declared.numbers.Uid.{Uid}
use Rattle.jc_types.specs.declared.numbers.Version.{Version}
use Rattle.jc_types.specs.declared.objects.Container.{Container}
use Rattle.jc_types.specs.declared.objects.Entry.{Entry}
use Rattle.jc_types.specs.declared.objects.Entry.TheVariants.{JobPut, JobGone, PodPut}
use Rattle.jc_types.specs.declared.objects.Job.{Job}
use Rattle.jc_types.specs.declared.objects.Phase.TheVariants.{Pending, Running}
use Rattle.jc_types.specs.declared.objects.Pod.{Pod}
use Rattle.jc_types.specs.declared.replies.Reply.{Reply}
use Rattle.jc_types.specs.declared.replies.Reply.TheVariants as reply
use Rattle.jc_types.specs.declared.runs.Shape.{Shape}
use Rattle.jc_types.specs.declared.specifications.JobSpec.{JobSpec}
use Rattle.jc_types.specs.declared.specifications.Template.{Template}
use Rattle.jc_types.specs.declared.statuses.JobStatus.{JobStatus}
use Rattle.jc_states.specs.declared.bases.Basis.{Basis}
use Rattle.jc_states.specs.Pods.{is_final, is_marked, is_pending}
use Rattle.jc_states.specs.UidLists.{is_in}
use Rattle.jc_log.specs.Acts as does
use Rattle.jc_log.specs.Acts.{Act}
use Rattle.jc_log.specs.Deeds.{Deed}
use Rattle.jc_log.specs.Log.{Live, job_in, life, living, pod_in, pods_in}
use Rattle.jc_log.proofs.PodFacts.{pods_in-live}
use Rattle.jc_log.specs.Range.{end_of_moments}
use Rattle.jc_log.specs.Requests.{changed_by, changed_container, given_exit, named, new_container, new_containers}
use Rattle.jc_log.specs.Requests.{Answered, changed_spec, create_job_at, create_job_gives, delete_job_at, delete_job_gives, gone_job, is_other, is_unnamed, let_go_at, let_go_gives, made_pod, mark_pod_at, mark_pod_gives, pod_entry, refused}
use Rattle.jc_log.specs.Requests.{release_at, release_gives, report_phase_at, report_phase_gives, report_unless, same_course_of, update_refusal, update_spec_at, update_spec_gives, update_unless, with_mark, with_report, with_status, without_finalizer}
use Rattle.jc_log.specs.Requests.{released, write_status_at, write_status_gives, made_job, with_spec}
use Rattle.jc_log.proofs.WriteFacts.{job_in-key}
use Rattle.jc_plan.specs.Plans.{planned}
use Rattle.jc_plan.specs.declared.plans.Planned.{Planned}
use Rattle.jc_history.specs.Diaries.{moment, notes}
use Rattle.jc_history.specs.Fresh.{begin as begin_of}
use Rattle.jc_history.specs.Nodes.{Again, Finish, NodeAct, Start, Stop, act_on, change_by, exits, fate, finish_change, first_container, killed, node_step, once_more, with_exit}
use Rattle.jc_history.specs.Notes.{Note, newest}
use Rattle.jc_history.specs.Numbers.{number}
use Rattle.jc_history.specs.Registers.{made, pending, register}
use Rattle.jc_history.specs.Replies.{begin_gives, clock_gives, deliver_gives, finish_gives, gives, node_gives, step_done, step_gives}
use Rattle.jc_history.specs.SoFar.{so_far}
use Rattle.jc_settle.specs.Left.{first_restarts}
use Rattle.jc_sync.specs.Ask.{Ask}
use Rattle.jc_sync.specs.Ask.TheVariants.{MakePod, MarkPod, LetPodGo, WriteFirst, ReleasePod, WriteSecond}
use Rattle.jc_sync.specs.Asks.{first_asks, last_asks, late_asks, let_go_ask, second_asks}
use Rattle.jc_sync.specs.Flight.{Flight}
use Rattle.jc_sync.specs.Readings.{gone_in, requests, with_marks}
use Rattle.jc_restarts.specs.Restarts.{given_restarts, restarts_after}
use Rattle.jc_sync.specs.Steps.{answered_to, make_gives, status_gives, stepped_at, written_gives}

-- ---- restarts of the first container

-- No act takes restarts back.
pub no-fewer : (act : Act) (n : ℕ) → n ≤ restarts_after act n
no-fewer (does.Report pod change) n = omega arith
no-fewer does.Node n = omega arith
no-fewer other n = omega arith

abbrev restarts_at : Option Container → ℕ
restarts_at o = option_map_or (λ (container : Container). container.restarts) o 0

new-none : (template : Template) → restarts_at (first_container (new_containers template)) ≡ 0
new-none template = by template.containers template.inits
  where
    by : (names inits : List (List ℕ)) → restarts_at (first_container (map (new_container false) names ++ map (new_container true) inits)) ≡ 0
    by [] [] = refl
    by [] (name ∷ inits) = refl
    by (name ∷ names) inits = refl

-- A report counts no more than the restarts that it gives.
changed-few : (changes : List ContainerChange) (c : Container) → (changed_container changes c).restarts ≤ max c.restarts (given_restarts changes)
changed-few [] c = omega arith
changed-few (change ∷ changes) c =
    let rest = changed-few changes (changed_by c change) in let here = one (named change.name c) change.restarts in omega (arith, rest, here)
  where
    one : (b : Bool) (o : Option ℕ) → (cond b (record c { exit = given_exit change.exit c.exit; restarts = unwrap_or o c.restarts }) c).restarts ≤ max c.restarts (unwrap_or o 0)
    one true None = omega arith
    one true (Some n) = omega arith
    one false o = omega arith

first-few : (changes : List ContainerChange) (cs : List Container) → restarts_at (first_container (map (changed_container changes) cs)) ≤ max (restarts_at (first_container cs)) (given_restarts changes)
first-few changes [] = omega arith
first-few changes (c ∷ cs) = changed-few changes c

report-few : (log : List Entry) (pod : Pod) (change : PhaseChange) → first_restarts (with_report log pod change) ≤ max (first_restarts pod) (given_restarts change.containers)
report-few log pod change = first-few change.containers pod.containers

exit-none : (exit : ℤ) (cs : List Container) → given_restarts (map (with_exit exit) cs) ≡ 0
exit-none exit [] = refl
exit-none exit (c ∷ cs) = let rest = exit-none exit cs in omega (arith, rest)

exits-none : (exit : ℤ) (cs : List Container) → given_restarts (exits exit cs) ≡ 0
exits-none exit [] = refl
exits-none exit (c ∷ cs) = by c.init (exits-none exit cs)
  where
    by : (b : Bool) → given_restarts (exits exit cs) ≡ 0 → given_restarts (cond b (with_exit (pos 0) c ∷ exits exit cs) (with_exit exit c ∷ map (with_exit (pos 0)) cs)) ≡ 0
    by true rest = omega (arith, rest)
    by false rest = let others = exit-none (pos 0) cs in omega (arith, others)

killed-none : (cs : List Container) → given_restarts (filter_map killed cs) ≡ 0
killed-none [] = refl
killed-none (c ∷ cs) = by (not c.init && is_none c.exit) (killed-none cs)
  where
    by : (b : Bool) → given_restarts (filter_map killed cs) ≡ 0 → given_restarts (cons_option (cond b (Some (with_exit (pos 143) c)) None) (filter_map killed cs)) ≡ 0
    by true rest = omega (arith, rest)
    by false rest = rest

finish-few : (log : List Entry) (other pod : Pod) (exit : ℤ) → first_restarts (with_report log other (finish_change pod exit)) ≤ first_restarts other
finish-few log other pod exit = let few = report-few log other (finish_change pod exit) in let none = exits-none exit pod.containers in omega (arith, few, none)

-- The node restarts it once, at most.
node-few : (log : List Entry) (pod : Pod) (act : NodeAct) → first_restarts (with_report log pod (change_by pod act)) ≤ first_restarts pod + 1
node-few log pod Stop = let few = report-few log pod (change_by pod Stop) in let none = by (is_pending pod.phase) in omega (arith, few, none)
  where
    by : (b : Bool) → given_restarts (cond b [] (filter_map killed pod.containers)) ≡ 0
    by true = refl
    by false = killed-none pod.containers
node-few log pod Start = let few = report-few log pod (change_by pod Start) in omega (arith, few)
node-few log pod (Finish end) = let few = report-few log pod (change_by pod (Finish end)) in let none = exits-none end.exit pod.containers in omega (arith, few, none)
node-few log pod Again = by pod.containers
  where
    again : (b : Bool) (c : Container) → (cond b (record c { exit = given_exit None c.exit; restarts = min (c.restarts + 1) (2 ^ 32 - 1) }) c).restarts ≤ c.restarts + 1
    again true c = omega arith
    again false c = omega arith

    by : (cs : List Container) → restarts_at (first_container (map (changed_container (option_to_list (option_map once_more (first_container cs)))) cs)) ≤ restarts_at (first_container cs) + 1
    by [] = omega arith
    by (c ∷ cs) = again (named c.name c) c

-- What befalls a pod befalls one that is there.
step-there : (log : List Entry) (fates : Key → Option (List End)) (step : Pod × NodeAct) → node_step log fates ≡ Some step → pod_in step.0.uid log ≡ Some step.0
step-there log fates step h = among (pods_in log) (pods_in-live log) h
  where
    among : (pods : List Pod) → Each (λ (pod : Pod). life pod.uid log ≡ Live pod) pods → newest (λ pod. option_map (λ act. (pod, act)) (act_on fates pod)) pods ≡ Some step → pod_in step.0.uid log ≡ Some step.0
    among [] all g = absurd (none_some step g)
    among (pod ∷ pods) all g = by (act_on fates pod) g (among pods all.1)
      where
        by : (o : Option NodeAct) → option_or (option_map (λ act. (pod, act)) o) (newest (λ pod. option_map (λ act. (pod, act)) (act_on fates pod)) pods) ≡ Some step
            → (newest (λ pod. option_map (λ act. (pod, act)) (act_on fates pod)) pods ≡ Some step → pod_in step.0.uid log ≡ Some step.0) → pod_in step.0.uid log ≡ Some step.0
        by None is more = more is
        by (Some act) is more = subst (λ (s : Pod × NodeAct). pod_in s.0.uid log ≡ Some s.0) (some_is (pod, act) step is) (ap living all.0)

-- ---- requests that make pods

abbrev MakesNone : Ask → Type 0
MakesNone (MakePod index) = ⊥
MakesNone other = Unit {0}

none-marks : (us : List Uid) → Each MakesNone (map MarkPod us)
none-marks [] = tt
none-marks (u ∷ us) = (tt, none-marks us)

none-lets : (rows : List (Uid × Version)) → Each MakesNone (map let_go_ask rows)
none-lets [] = tt
none-lets (row ∷ rows) = (tt, none-lets rows)

none-late : (plan : Planned) → Each MakesNone (late_asks plan)
none-late plan = Each-append MakesNone (first_asks plan.first) (last_asks plan.releases plan.second) (first plan.first) (Each-append MakesNone (map ReleasePod plan.releases) (second_asks plan.second) (releases plan.releases) (second plan.second))
  where
    first : (o : Option JobStatus) → Each MakesNone (first_asks o)
    first None = tt
    first (Some status) = (tt, tt)

    second : (o : Option JobStatus) → Each MakesNone (second_asks o)
    second None = tt
    second (Some status) = (tt, tt)

    releases : (us : List Uid) → Each MakesNone (map ReleasePod us)
    releases [] = tt
    releases (u ∷ us) = (tt, releases us)

none-marked : (gone : List Uid) (asks : List Ask) → Each MakesNone asks → Each MakesNone (with_marks gone asks)
none-marked gone [] h = tt
none-marked gone (MakePod index ∷ asks) h = absurd h.0
none-marked gone (MarkPod u ∷ asks) h = (tt, none-marked gone asks h.1)
none-marked gone (WriteFirst ∷ asks) h = (tt, none-marked gone asks h.1)
none-marked gone (ReleasePod u ∷ asks) h = (tt, none-marked gone asks h.1)
none-marked gone (WriteSecond ∷ asks) h = (tt, none-marked gone asks h.1)
none-marked gone (LetPodGo u v ∷ asks) h = (tt, by (is_in u gone) (none-marked gone asks h.1))
  where
    by : (b : Bool) → Each MakesNone (with_marks gone asks) → Each MakesNone (cond b (MarkPod u ∷ with_marks gone asks) (with_marks gone asks))
    by true rest = (tt, rest)
    by false rest = rest

none-dropped : (n : ℕ) (asks : List Ask) → Each MakesNone asks → Each MakesNone (drop n asks)
none-dropped zero asks h = h
none-dropped (suc n) [] h = tt
none-dropped (suc n) (ask ∷ asks) h = none-dropped n asks h.1

-- Where a request that makes a pod is next, fewer were made than the plan creates pods.
still-creates : (plan : Planned) (gone : List Uid) (n : ℕ) (index : Option ℕ) (left : List Ask) → drop n (requests plan gone) ≡ MakePod index ∷ left → n < length plan.creates
still-creates plan gone n index left is = of plan.creates n is
  where
    others : Each MakesNone ((map MarkPod plan.marks ++ map let_go_ask plan.let_goes) ++ late_asks plan)
    others =
        Each-append MakesNone (map MarkPod plan.marks ++ map let_go_ask plan.let_goes) (late_asks plan)
        (Each-append MakesNone (map MarkPod plan.marks) (map let_go_ask plan.let_goes) (none-marks plan.marks) (none-lets plan.let_goes)) (none-late plan)

    of : (creates : List (Option ℕ)) (n : ℕ) → drop n (with_marks gone ((map MakePod creates ++ (map MarkPod plan.marks ++ map let_go_ask plan.let_goes)) ++ late_asks plan)) ≡ MakePod index ∷ left → n < length creates
    of [] n is = absurd (subst (Each MakesNone) is (none-dropped n _ (none-marked gone _ others))).0
    of (one ∷ creates) zero is = omega arith
    of (one ∷ creates) (suc n) is = let less = of creates n is in omega (arith, less)

-- The pod was made for the Job that the worker's sync saw, which had a pod to make.
pub record IsMade (notes : List Note) (w : ℕ) (pod : Pod) : Type 0 where
  pub basis : Basis
  pub busy : register w notes ≡ Some basis
  pub left : length (made w notes) < length (planned basis).creates
  pub job : Job
  pub saw : basis.job ≡ Some job
  pub owner : pod.owner ≡ job.key
  pub owner_uid : pod.owner_uid ≡ job.uid
  pub restart : pod.restart ≡ job.spec.template.restart

-- ---- entries

module _ (shape : Shape) (past : List Deed) (P : Entry → Type 0) (log : List Entry) (act : Act) where
  -- It is so of what the act may append.
  pub record MayAppend : Type 0 where
    pub job : (job : Job) → P (JobPut job)
    pub gone : (key : Key) (job : Job) → act ≡ does.Delete key → job.key ≡ key → P (JobGone job)
    pub pod : (u : Uid) (pod new : Pod) → pod_in u log ≡ Some pod → new.uid ≡ pod.uid → first_restarts new ≤ restarts_after act (first_restarts pod) → P (pod_entry new)
    pub made : (c w : ℕ) (pod : Pod) → act ≡ does.Step c w → first_restarts pod ≡ 0 → IsMade (notes shape c past log) w pod → P (PodPut pod)

  abbrev pub Gives : Answered → Type 0
  Gives answered = IfSome answered.entry P

  module _ (a : MayAppend) where
    unless-gives : (b : Bool) (r : Reply) (other : Answered) → Gives other → Gives (cond b (refused r) other)
    unless-gives true r other g = tt
    unless-gives false r other g = g

    where-gives : (b : Bool) (one : Answered) (r : Reply) → Gives one → Gives (cond b one (refused r))
    where-gives true one r h = h
    where-gives false one r h = tt

    -- ---- requests and commands

    create-gives : (key : Key) (spec : JobSpec) (now : ℕ) → Gives (create_job_gives log key spec now)
    create-gives key spec now = by (job_in key log)
      where
        by : (o : Option Job) → Gives (create_job_at log key spec now o)
        by None = a.job (made_job log key spec now)
        by (Some job) = tt

    update-gives : (key : Key) (version : Option Version) (change : SpecChange) → Gives (update_spec_gives log key version change)
    update-gives key version change = by (job_in key log)
      where
        given : (job : Job) (o : Option Reply) → Gives (update_unless log job change o)
        given job (Some r) = tt
        given job None = unless-gives (same_limits job.spec (changed_spec job.spec change)) (reply.Unchanged job.version) _ (a.job (with_spec log job (changed_spec job.spec change)))

        by : (o : Option Job) → Gives (update_spec_at log version change o)
        by None = tt
        by (Some job) = unless-gives (is_other version job.version) (reply.Conflict job.version) (update_unless log job change (update_refusal job.spec change)) (given job (update_refusal job.spec change))

    delete-gives : (key : Key) → act ≡ does.Delete key → Gives (delete_job_gives log key)
    delete-gives key is = by (job_in key log) refl
      where
        by : (o : Option Job) → job_in key log ≡ o → Gives (delete_job_at log o)
        by None there = tt
        by (Some job) there = a.gone key (gone_job log job) is (job_in-key key log job there)

    status-gives : (key : Key) (uid : Uid) (version : Version) (status : JobStatus) → Gives (write_status_gives log key uid version status)
    status-gives key uid version status = by (job_in key log)
      where
        by : (o : Option Job) → Gives (write_status_at log uid version status o)
        by None = tt
        by (Some job) =
            unless-gives (not (same_uid job.uid uid)) reply.NotFound _
            (unless-gives (not (job.version.0 == version.0)) (reply.Conflict job.version) _
            (unless-gives (same_status job.status status) (reply.Unchanged job.version) _ (a.job (with_status log job status))))

    mark-gives : (uid : Uid) (now : ℕ) → Gives (mark_pod_gives log uid now)
    mark-gives uid now = by (pod_in uid log) refl
      where
        by : (o : Option Pod) → pod_in uid log ≡ o → Gives (mark_pod_at log now o)
        by None there = tt
        by (Some pod) there = unless-gives (is_marked pod) (reply.Unchanged pod.version) _ (a.pod uid pod (with_mark log pod now) there refl (no-fewer act (first_restarts pod)))

    release-gives : (uid : Uid) → Gives (release_gives log uid)
    release-gives uid = by (pod_in uid log) refl
      where
        by : (o : Option Pod) → pod_in uid log ≡ o → Gives (release_at log o)
        by None there = tt
        by (Some pod) there = where-gives pod.tracked (released log pod) reply.NotTracked (a.pod uid pod (without_finalizer log pod) there refl (no-fewer act (first_restarts pod)))

    let-go-gives : (uid : Uid) (version : Version) → Gives (let_go_gives log uid version)
    let-go-gives uid version = by (pod_in uid log) refl
      where
        by : (o : Option Pod) → pod_in uid log ≡ o → Gives (let_go_at log version o)
        by None there = tt
        by (Some pod) there =
            unless-gives (not (pod.version.0 == version.0)) (reply.Conflict pod.version) (cond pod.tracked (released log pod) (refused reply.NotTracked))
            (where-gives pod.tracked (released log pod) reply.NotTracked (a.pod uid pod (without_finalizer log pod) there refl (no-fewer act (first_restarts pod))))

    report-gives : (uid : Uid) (change : PhaseChange) → ((pod : Pod) → pod_in uid log ≡ Some pod → first_restarts (with_report log pod change) ≤ restarts_after act (first_restarts pod)) → Gives (report_phase_gives log uid change)
    report-gives uid change few = by (pod_in uid log) refl
      where
        unless : (pod : Pod) → pod_in uid log ≡ Some pod → (o : Option ContainerChange) → Gives (report_unless log pod change o)
        unless pod there (Some unnamed) = tt
        unless pod there None = unless-gives (same_course_of pod (with_report log pod change)) (reply.Unchanged pod.version) _ (a.pod uid pod (with_report log pod change) there refl (few pod there))

        by : (o : Option Pod) → pod_in uid log ≡ o → Gives (report_phase_at log change o)
        by None there = tt
        by (Some pod) there =
            unless-gives (is_final pod.phase) (reply.Final pod.phase) _
            (unless-gives (same_phase pod.phase Running && same_phase change.phase Pending) (reply.BadStep Running Pending) _
            (unless pod there (find (is_unnamed pod) change.containers)))

    finish-gives : (uid : Uid) (exit : ℤ) → Gives (finish_gives log (pod_in uid log) (λ pod. report_phase_gives log uid (finish_change pod exit)))
    finish-gives uid exit = by (pod_in uid log)
      where
        by : (o : Option Pod) → Gives (finish_gives log o (λ pod. report_phase_gives log uid (finish_change pod exit)))
        by None = tt
        by (Some pod) = report-gives uid (finish_change pod exit) (λ other there. let few = finish-few log other pod exit in let more = no-fewer act (first_restarts other) in omega (arith, few, more))

    -- The node restarts the first container of the pod that it found, once.
    node-does : act ≡ does.Node → (o : Option (Pod × NodeAct)) → ((step : Pod × NodeAct) → o ≡ Some step → pod_in step.0.uid log ≡ Some step.0) → Gives (node_gives log o)
    node-does is None found = tt
    node-does is (Some step) found = report-gives step.0.uid (change_by step.0 step.1) few
      where
        few : (pod : Pod) → pod_in step.0.uid log ≡ Some pod → first_restarts (with_report log pod (change_by step.0 step.1)) ≤ restarts_after act (first_restarts pod)
        few pod there =
            let same : step.0 ≡ pod = some_is step.0 pod (sym (found step refl) ∙ there) in
            let one : restarts_after act (first_restarts pod) ≡ first_restarts pod + 1 = ap (λ x. restarts_after x (first_restarts pod)) is in
            let less = node-few log step.0 step.1 in
            let now = ap (λ (p : Pod). first_restarts (with_report log p (change_by step.0 step.1))) same in
            let was = ap first_restarts same in
            omega (arith, one, less, now, was)

    -- ---- the steps of a sync

    module _ (c w : ℕ) (is : act ≡ does.Step c w) (now : ℕ) (b : Basis) (busy : register w (notes shape c past log) ≡ Some b) where
      abbrev flight : Flight
      flight = (so_far b (made w (notes shape c past log))).flight

      written : (o : Option JobStatus) → Gives (written_gives log flight o)
      written None = tt
      written (Some status) = by b.job
        where
          by : (o : Option Job) → Gives (status_gives log flight status o)
          by None = tt
          by (Some job) = status-gives b.key job.uid flight.sends status

      makes : (index : Option ℕ) → length (made w (notes shape c past log)) < length (planned b).creates → (o : Option Job) → b.job ≡ o → Gives (make_gives log index now o)
      makes index left None saw = tt
      makes index left (Some job) saw = a.made c w (made_pod log job index now) is (new-none job.spec.template) (record { basis = b; busy = busy; left = left; job = job; saw = saw; owner = refl; owner_uid = refl; restart = refl })

      answers : (ask : Ask) (left : List Ask) → (so_far b (made w (notes shape c past log))).left ≡ ask ∷ left → Gives (answered_to log now flight ask)
      answers (MakePod index) left l = makes index (still-creates (planned b) (gone_in (made w (notes shape c past log))) (length (made w (notes shape c past log))) index left l) b.job refl
      answers (MarkPod u) left l = mark-gives u now
      answers (LetPodGo u v) left l = let-go-gives u v
      answers WriteFirst left l = written (planned b).first
      answers (ReleasePod u) left l = release-gives u
      answers WriteSecond left l = written (planned b).second

      steps : (fault : Option Fault) (left : List Ask) → (so_far b (made w (notes shape c past log))).left ≡ left → Gives (step_done (stepped_at now fault log flight left))
      steps fault [] l = tt
      steps None (ask ∷ left) l = answers ask left l
      steps (Some Drop) (ask ∷ left) l = tt
      steps (Some Lose) (ask ∷ left) l = answers ask left l

    sync-gives : (c w now : ℕ) → act ≡ does.Step c w → (fault : Option Fault) (o : Option Basis) → register w (notes shape c past log) ≡ o → Gives (step_gives log now (made w (notes shape c past log)) fault o)
    sync-gives c w now is fault None busy = tt
    sync-gives c w now is fault (Some b) busy = steps c w is now b busy fault (so_far b (made w (notes shape c past log))).left refl

    tick-gives : (at : ℕ) → Gives (clock_gives at)
    tick-gives at = by (nat_lt at end_of_moments)
      where
        by : (b : Bool) → Gives (cond b (refused (reply.Now at)) (refused reply.ClockEnd))
        by true = tt
        by false = tt

    told-gives : (window : ℕ) (o : Option Version) → Gives (deliver_gives log window o)
    told-gives window None = tt
    told-gives window (Some version) = by (nat_lt version.0 (length log - window)) (version.0 == length log)
      where
        by : (p q : Bool) → Gives (cond p (refused (reply.Expired (record { 0 = length log - window }))) (cond q (refused reply.UpToDate) (refused (reply.Delivered (record { 0 = version.0 + 1 })))))
        by true q = tt
        by false true = tt
        by false false = tt

    -- ---- each act

    of-act : (x : Act) → act ≡ x → Gives (gives shape past log x)
    unfolding gives
    of-act (does.Create key spec) is = create-gives key spec (moment shape past)
    of-act (does.Update key version change) is = update-gives key version change
    of-act (does.Delete key) is = delete-gives key is
    of-act (does.Mark pod) is = mark-gives pod (moment shape past)
    of-act (does.Strip pod) is = release-gives pod
    of-act (does.Finish uid exit) is = finish-gives uid exit
    of-act (does.Report uid change) is =
        report-gives uid change
        (λ pod there.
        let some = report-few log pod change in
        let given : restarts_after act (first_restarts pod) ≡ max (first_restarts pod) (given_restarts change.containers) = ap (λ x. restarts_after x (first_restarts pod)) is in
        omega (arith, some, given))
    of-act (does.Fate key ends) is = tt
    of-act (does.Clock add) is = tick-gives (moment shape past + add)
    of-act (does.List controller kind) is = tt
    of-act (does.Deliver controller kind) is = told-gives shape.window (number kind (notes shape controller past log))
    of-act (does.Begin controller worker) is = by (register worker (notes shape controller past log))
      where
        by : (o : Option Basis) → Gives (begin_gives o (begin_of (notes shape controller past log) log (moment shape past)))
        by None = tt
        by (Some basis) = tt
    of-act (does.Step controller worker) is =
        sync-gives controller worker (moment shape past) is (pending worker (notes shape controller past log)) (register worker (notes shape controller past log)) refl
    of-act does.Node is = node-does is (node_step log (fate past)) (step-there log (fate past))
    of-act (does.Restart controller) is = tt
    of-act (does.PutFault controller worker fault) is = tt
    of-act does.Settle is = tt
    of-act does.Unknown is = tt

    pub act-appends : Gives (gives shape past log act)
    act-appends = of-act act refl
