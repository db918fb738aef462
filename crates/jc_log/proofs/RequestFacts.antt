-- What each request appends is a write of the store, and is allowed where a pod that it makes has its Job.
use Rattle.std.proofs.Common.{◌≡◌, ℕ, Bool, true, false, not, ◌&&◌, ◌==◌, cond, List, [], ◌∷◌, map, Option, Some, None, refl, sym}
use Rattle.std.specs.Prelude.{find, IfSome}
use Rattle.std.specs.List.{AllByRecursion as Each}
use Rattle.jc_moment.specs.declared.moment.Moment.{Moment}
use Rattle.jc_types.specs.declared.actions.ContainerChange.{ContainerChange}
use Rattle.jc_types.specs.declared.actions.PhaseChange.{PhaseChange}
use Rattle.jc_types.specs.declared.actions.SpecChange.{SpecChange}
use Rattle.jc_types.specs.declared.objects.Container.{Container}
use Rattle.jc_types.specs.declared.specifications.Template.{Template}
use Rattle.jc_types.proofs.ListFacts.{Each-append}
use Rattle.jc_types.specs.declared.numbers.Uid.{Uid}
use Rattle.jc_types.specs.declared.numbers.Version.{Version}
use Rattle.jc_types.specs.declared.objects.Entry.{Entry}
use Rattle.jc_types.specs.declared.objects.Entry.TheVariants.{JobPut, PodPut, PodGone}
use Rattle.jc_types.specs.declared.objects.Job.{Job}
use Rattle.jc_types.specs.declared.objects.Phase.TheVariants.{Pending, Running}
use Rattle.jc_types.specs.declared.objects.Pod.{Pod}
use Rattle.jc_types.specs.declared.replies.Reply.{Reply}
use Rattle.jc_types.specs.declared.replies.Reply.TheVariants.{BadStep, Conflict, Final, NotFound, NotTracked, Unchanged, Written}
use Rattle.jc_types.specs.declared.specifications.JobSpec.{JobSpec}
use Rattle.jc_types.specs.declared.statuses.JobStatus.{JobStatus}
use Rattle.jc_log.specs.StoredAnswers.{StaysLegal, StaysStored}
use Rattle.jc_log.specs.Requests.{Answered, accepted, changed_spec, create_job_at, create_job_gives, create_pod_gives, delete_job_at, delete_job_gives, gone_job, grown, is_other, is_unnamed, let_go_at, let_go_gives, made_job, made_pod}
use Rattle.jc_log.specs.Requests.{mark_pod_at, mark_pod_gives, new_container, new_containers, pod_entry, refused, release_at, release_gives, released, report_phase_at, report_phase_gives, report_unless, same_course_of, update_refusal}
use Rattle.jc_log.specs.Requests.{update_spec_at, update_spec_gives, update_unless, with_mark, with_report, with_spec, with_status, without_finalizer, write_status_at, write_status_gives}
use Rattle.jc_types.specs.declared.objects.KeyNames.{KeyNames as Key}
use Rattle.jc_types.specs.Keys.{same_uid}
use Rattle.jc_log.specs.Log.{Life, Never, Live, Gone, has_job, job_in, life, next_version, pod_in}
use Rattle.jc_states.specs.Pods.{goes, is_final, is_marked}
use Rattle.jc_types.specs.Equality.{same_limits, same_phase, same_status}
use Rattle.jc_log.specs.Writes.{Allowed, CanGo, Legal, Stored, Writes}
use Rattle.jc_states.specs.ObjectChanges.{PodStep}
use Rattle.jc_log.proofs.AppendFacts.{end_job-writes, end_pod-writes, made_job-writes, made_pod-writes, put_job-writes, write_pod-writes}
use Rattle.jc_log.proofs.StepFacts.{ends_from_job, goes_from_pod, mark_step, release_step, report_step, spec_step, status_step, steps_from_job, version_step}

-- The containers of a new pod have no exit codes.
pub new_containers-no_exits : (template : Template) → Each (λ container. container.exit ≡ None) (new_containers template)
new_containers-no_exits template =
    Each-append (λ (container : Container). container.exit ≡ None) (map (new_container false) template.containers) (map (new_container true) template.inits)
    (none false template.containers) (none true template.inits)
  where
    none : (init : Bool) (names : List (List ℕ)) → Each (λ container. container.exit ≡ None) (map (new_container init) names)
    none init [] = tt
    none init (name ∷ names) = (refl, none init names)

-- What the answer appends is allowed.
abbrev Adds : List Entry → Answered → Type 0
Adds log answered = IfSome answered.entry (Allowed log)

-- A write of a pod that is there.
pod_allowed : (log : List Entry) (pod : Pod) → pod.version ≡ next_version log → CanGo (life pod.uid log) pod → Allowed log (pod_entry pod)
pod_allowed log pod at step = by (goes pod) refl
  where
    there : (l : Life) → l ≡ Never → CanGo l pod → has_job pod.owner_uid pod.owner log ≡ true
    there Never is step = absurd step
    there (Live old) is step = absurd (cc)
    there Gone is step = absurd step

    by : (b : Bool) → goes pod ≡ b → Allowed log (cond b (PodGone pod) (PodPut pod))
    by true g = record { writes = end_pod-writes log pod at step g; owned = tt }
    by false g = record { writes = write_pod-writes log pod at step g; owned = λ never. there (life pod.uid log) never step }

module _ (log : List Entry) (stored : Stored log) where
  -- ---- Jobs

  pub create_job-allowed : (key : Key) (spec : JobSpec) (now : Moment) → Adds log (create_job_gives log key spec now)
  create_job-allowed key spec now = by (job_in key log) refl
    where
      by : (o : Option Job) → job_in key log ≡ o → Adds log (create_job_at log key spec now o)
      by None is = record { writes = made_job-writes log (made_job log key spec now) refl (record { uid = refl; status = refl }) is; owned = tt }
      by (Some job) is = tt

  pub update_spec-allowed : (key : Key) (version : Option Version) (change : SpecChange) → Adds log (update_spec_gives log key version change)
  update_spec-allowed key version change = by (job_in key log) refl
    where
      changed : (job : Job) → job_in key log ≡ Some job → (b : Bool) → Adds log (cond b (refused (Unchanged job.version)) (accepted (Written (next_version log)) (JobPut (with_spec log job (changed_spec job.spec change)))))
      changed job is true = tt
      changed job is false =
          let new = with_spec log job (changed_spec job.spec change) in
          record { writes = put_job-writes log new refl (steps_from_job key log job new (sym is) (spec_step job (next_version log) change job.spec (changed_spec job.spec change) (changed_spec job.spec change) new refl refl refl refl)); owned = tt }

      unless : (job : Job) → job_in key log ≡ Some job → (o : Option Reply) → Adds log (update_unless log job change o)
      unless job is None = changed job is (same_limits job.spec (changed_spec job.spec change))
      unless job is (Some reply) = tt

      other : (job : Job) → job_in key log ≡ Some job → (b : Bool) → Adds log (cond b (refused (Conflict job.version)) (update_unless log job change (update_refusal job.spec change)))
      other job is true = tt
      other job is false = unless job is (update_refusal job.spec change)

      by : (o : Option Job) → job_in key log ≡ o → Adds log (update_spec_at log version change o)
      by None is = tt
      by (Some job) is = other job is (is_other version job.version)

  pub write_status-allowed : (key : Key) (uid : Uid) (version : Version) (status : JobStatus) → Adds log (write_status_gives log key uid version status)
  write_status-allowed key uid version status = by (job_in key log) refl
    where
      last : (job : Job) → job_in key log ≡ Some job → (a b c : Bool) → Adds log (cond a (refused NotFound)
          (cond b (refused (Conflict job.version)) (cond c (refused (Unchanged job.version)) (accepted (Written (next_version log)) (JobPut (with_status log job status))))))
      last job is true b c = tt
      last job is false true c = tt
      last job is false false true = tt
      last job is false false false =
          record { writes = put_job-writes log (with_status log job status) refl (steps_from_job key log job (with_status log job status) (sym is) (status_step job (next_version log) status (with_status log job status) refl)); owned = tt }

      by : (o : Option Job) → job_in key log ≡ o → Adds log (write_status_at log uid version status o)
      by None is = tt
      by (Some job) is = last job is (not (same_uid job.uid uid)) (not (job.version.0 == version.0)) (same_status job.status status)

  pub delete_job-allowed : (key : Key) → Adds log (delete_job_gives log key)
  delete_job-allowed key = by (job_in key log) refl
    where
      by : (o : Option Job) → job_in key log ≡ o → Adds log (delete_job_at log o)
      by None is = tt
      by (Some job) is =
          record { writes = end_job-writes log (gone_job log job) refl (ends_from_job key log job (gone_job log job) (sym is) (version_step job (next_version log) (gone_job log job) refl) refl refl); owned = tt }

  -- ---- pods

  create_pod-writes : (owner : Job) (index : Option ℕ) (now : Moment) → Writes log (PodPut (made_pod log owner index now))
  create_pod-writes owner index now =
      made_pod-writes log (made_pod log owner index now) stored refl (record {
        uid = refl;
        serial = refl;
        phase = refl;
        exits = new_containers-no_exits owner.spec.template;
        conditions = refl;
        marked = refl;
        tracked = refl;
      })

  pub create_pod-allowed : (owner : Job) (index : Option ℕ) (now : Moment) → has_job owner.uid owner.key log ≡ true → Adds log (create_pod_gives log owner index now)
  create_pod-allowed owner index now put =
      record { writes = create_pod-writes owner index now; owned = λ never. put }

  -- A write of the pod of a UID.
  over : (u : Uid) (old new : Pod) → pod_in u log ≡ Some old → new.version ≡ next_version log → PodStep old new → Allowed log (pod_entry new)
  over u old new is at step = pod_allowed log new at (goes_from_pod u log old new (sym is) step)

  pub mark_pod-allowed : (u : Uid) (now : Moment) → Adds log (mark_pod_gives log u now)
  mark_pod-allowed u now = by (pod_in u log) refl
    where
      marked : (old : Pod) → pod_in u log ≡ Some old → (b : Bool) → is_marked old ≡ b → Adds log (cond b (refused (Unchanged old.version)) (accepted (Written (next_version log)) (pod_entry (with_mark log old now))))
      marked old is true m = tt
      marked old is false m = over u old (with_mark log old now) is refl (mark_step old (next_version log) now (with_mark log old now) m refl)

      by : (o : Option Pod) → pod_in u log ≡ o → Adds log (mark_pod_at log now o)
      by None is = tt
      by (Some old) is = marked old is (is_marked old) refl

  taken : (u : Uid) (old : Pod) → pod_in u log ≡ Some old → (b : Bool) → Adds log (cond b (released log old) (refused NotTracked))
  taken u old is true = over u old (without_finalizer log old) is refl (release_step old (next_version log) (without_finalizer log old) refl)
  taken u old is false = tt

  pub release-allowed : (u : Uid) → Adds log (release_gives log u)
  release-allowed u = by (pod_in u log) refl
    where
      by : (o : Option Pod) → pod_in u log ≡ o → Adds log (release_at log o)
      by None is = tt
      by (Some old) is = taken u old is old.tracked

  pub let_go-allowed : (u : Uid) (version : Version) → Adds log (let_go_gives log u version)
  let_go-allowed u version = by (pod_in u log) refl
    where
      other : (old : Pod) → pod_in u log ≡ Some old → (b : Bool) → Adds log (cond b (refused (Conflict old.version)) (cond old.tracked (released log old) (refused NotTracked)))
      other old is true = tt
      other old is false = taken u old is old.tracked

      by : (o : Option Pod) → pod_in u log ≡ o → Adds log (let_go_at log version o)
      by None is = tt
      by (Some old) is = other old is (not (old.version.0 == version.0))

  pub report_phase-allowed : (u : Uid) (change : PhaseChange) → Adds log (report_phase_gives log u change)
  report_phase-allowed u change = by (pod_in u log) refl
    where
      course : (old : Pod) → pod_in u log ≡ Some old → is_final old.phase ≡ false → (same_phase old.phase Running && same_phase change.phase Pending) ≡ false → (b : Bool)
          → Adds log (cond b (refused (Unchanged old.version)) (accepted (Written (next_version log)) (pod_entry (with_report log old change))))
      course old is going forth true = tt
      course old is going forth false = over u old (with_report log old change) is refl (report_step old (next_version log) change (with_report log old change) going forth refl)

      unless : (old : Pod) → pod_in u log ≡ Some old → is_final old.phase ≡ false → (same_phase old.phase Running && same_phase change.phase Pending) ≡ false → (o : Option ContainerChange)
          → Adds log (report_unless log old change o)
      unless old is going forth None = course old is going forth (same_course_of old (with_report log old change))
      unless old is going forth (Some unnamed) = tt

      tests : (old : Pod) → pod_in u log ≡ Some old → (a : Bool) → is_final old.phase ≡ a → (b : Bool) → (same_phase old.phase Running && same_phase change.phase Pending) ≡ b
          → Adds log (cond a (refused (Final old.phase)) (cond b (refused (BadStep Running Pending)) (report_unless log old change (find (is_unnamed old) change.containers))))
      tests old is true f b s = tt
      tests old is false f true s = tt
      tests old is false f false s = unless old is f s (find (is_unnamed old) change.containers)

      by : (o : Option Pod) → pod_in u log ≡ o → Adds log (report_phase_at log change o)
      by None is = tt
      by (Some old) is = tests old is (is_final old.phase) refl (same_phase old.phase Running && same_phase change.phase Pending) refl

  -- ---- the log with what was appended

  -- It is one of writes of the store.
  stays : (answered : Answered) → Adds log answered → StaysStored log answered
  stays answered = by answered.entry
    where
      by : (o : Option Entry) → IfSome o (Allowed log) → Stored (grown log o)
      by None h = stored
      by (Some entry) h = (h.writes, stored)

  pub create_job-stored : (key : Key) (spec : JobSpec) (now : Moment) → StaysStored log (create_job_gives log key spec now)
  create_job-stored key spec now = stays (create_job_gives log key spec now) (create_job-allowed key spec now)

  pub update_spec-stored : (key : Key) (version : Option Version) (change : SpecChange) → StaysStored log (update_spec_gives log key version change)
  update_spec-stored key version change =
      stays (update_spec_gives log key version change) (update_spec-allowed key version change)

  pub write_status-stored : (key : Key) (uid : Uid) (version : Version) (status : JobStatus) → StaysStored log (write_status_gives log key uid version status)
  write_status-stored key uid version status =
      stays (write_status_gives log key uid version status) (write_status-allowed key uid version status)

  pub delete_job-stored : (key : Key) → StaysStored log (delete_job_gives log key)
  delete_job-stored key = stays (delete_job_gives log key) (delete_job-allowed key)

  pub create_pod-stored : (owner : Job) (index : Option ℕ) (now : Moment) → StaysStored log (create_pod_gives log owner index now)
  create_pod-stored owner index now = (create_pod-writes owner index now, stored)

  pub mark_pod-stored : (u : Uid) (now : Moment) → StaysStored log (mark_pod_gives log u now)
  mark_pod-stored u now = stays (mark_pod_gives log u now) (mark_pod-allowed u now)

  pub release-stored : (u : Uid) → StaysStored log (release_gives log u)
  release-stored u = stays (release_gives log u) (release-allowed u)

  pub let_go-stored : (u : Uid) (version : Version) → StaysStored log (let_go_gives log u version)
  let_go-stored u version = stays (let_go_gives log u version) (let_go-allowed u version)

  pub report_phase-stored : (u : Uid) (change : PhaseChange) → StaysStored log (report_phase_gives log u change)
  report_phase-stored u change = stays (report_phase_gives log u change) (report_phase-allowed u change)

-- It is legal.
pub stays_legal : (log : List Entry) → Legal log → (answered : Answered) → IfSome answered.entry (Allowed log) → StaysLegal log answered
stays_legal log legal answered = by answered.entry
  where
    by : (o : Option Entry) → IfSome o (Allowed log) → Legal (grown log o)
    by None h = legal
    by (Some entry) h = (h, legal)
