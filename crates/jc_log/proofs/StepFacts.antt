-- What each request writes is a step from the object that is there.
use Rattle.std.proofs.Common.{◌≡◌, ℕ, ℤ, Bool, true, false, ◌&&◌, cond, List, [], ◌∷◌, map, Option, Some, refl, ap, sym, ◌∙◌, subst, true≢false}
use Rattle.std.specs.Prelude.{fold, unwrap_or}
use Rattle.jc_moment.specs.declared.moment.Moment.{Moment}
use Rattle.jc_types.specs.declared.actions.ContainerChange.{ContainerChange}
use Rattle.jc_types.specs.declared.actions.PhaseChange.{PhaseChange}
use Rattle.jc_types.specs.declared.actions.SpecChange.{SpecChange}
use Rattle.jc_types.specs.declared.numbers.Uid.{Uid}
use Rattle.jc_types.specs.declared.numbers.Version.{Version}
use Rattle.jc_types.specs.declared.objects.Container.{Container}
use Rattle.jc_types.specs.declared.objects.Entry.{Entry}
use Rattle.jc_types.specs.declared.objects.Job.{Job}
use Rattle.jc_types.specs.declared.objects.KeyNames.{KeyNames as Key}
use Rattle.jc_types.specs.declared.objects.Phase.{Phase}
use Rattle.jc_types.specs.declared.objects.Phase.TheVariants.{Pending, Running, Succeeded, Failed}
use Rattle.jc_types.specs.declared.objects.Pod.{Pod}
use Rattle.jc_types.specs.declared.specifications.JobSpec.{JobSpec}
use Rattle.jc_types.specs.declared.statuses.JobStatus.{JobStatus}
use Rattle.jc_log.specs.Requests.{changed_by, changed_container, changed_spec, given_exit, named, put_pattern}
use Rattle.jc_types.specs.Equality.{same_phase}
use Rattle.jc_log.specs.Log.{job_in, life, pod_in}
use Rattle.jc_states.specs.Pods.{is_final, is_marked, is_pending}
use Rattle.jc_log.specs.Writes.{CanEnd, CanGo, StepsFrom}
use Rattle.jc_states.specs.ObjectChanges.{JobStep, PodStep}
use Rattle.jc_log.proofs.PodFacts.{living-live}
use Rattle.jc_log.proofs.WriteFacts.{job_in-key, life-uid}

-- ---- Jobs

-- A step from the Job of a key, at the key that it has.
pub steps_from_job : (key : Key) (log : List Entry) (old new : Job) → Some old ≡ job_in key log → JobStep old new → StepsFrom (job_in new.key log) new
steps_from_job key log old new there step =
    subst (λ o. StepsFrom o new) (there ∙ ap (λ k. job_in k log) (sym (job_in-key key log old (sym there)) ∙ sym step.key)) step

pub ends_from_job : (key : Key) (log : List Entry) (old new : Job) → Some old ≡ job_in key log → JobStep old new → new.spec ≡ old.spec → new.status ≡ old.status → CanEnd (job_in new.key log) new
ends_from_job key log old new there step spec status =
    subst (λ o. CanEnd o new) (there ∙ ap (λ k. job_in k log) (sym (job_in-key key log old (sym there)) ∙ sym step.key)) (step, spec, status)

-- A Job keeps the rest where its version, its specification and its status are written.
pub status_step : (old : Job) (version : Version) (status : JobStatus) (new : Job) → new ≡ record old { version = version; status = status } → JobStep old new
status_step old version status new e = record {
  key = ap (λ j. j.key) e;
  uid = ap (λ j. j.uid) e;
  created = ap (λ j. j.created) e;
  mode = ap (λ j. j.spec.mode) e;
  replacement = ap (λ j. j.spec.replacement) e;
  failure = ap (λ j. j.spec.failure) e;
  success = ap (λ j. j.spec.success) e;
  per_index = ap (λ j. j.spec.per_index) e;
  template = ap (λ j. j.spec.template) e;
}

pub version_step : (old : Job) (version : Version) (new : Job) → new ≡ record old { version = version } → JobStep old new
version_step old version new e = status_step old version old.status new e

-- A changed specification keeps what no change names.
pub spec_step : (old : Job) (version : Version) (change : SpecChange) (base changed shared : JobSpec) (new : Job) → base ≡ old.spec → changed ≡ changed_spec base change → shared ≡ changed → new
    ≡ record old { version = version; spec = shared } → JobStep old new
spec_step old version change base changed shared new from by same e =
    let is : shared ≡ changed_spec old.spec change = same ∙ by ∙ ap (λ b. changed_spec b change) from in
    record {
      key = ap (λ j. j.key) e;
      uid = ap (λ j. j.uid) e;
      created = ap (λ j. j.created) e;
      mode = ap (λ j. j.spec.mode) e ∙ ap (λ s. s.mode) is;
      replacement = ap (λ j. j.spec.replacement) e ∙ ap (λ s. s.replacement) is;
      failure = ap (λ j. j.spec.failure) e ∙ ap (λ s. s.failure) is;
      success = ap (λ j. j.spec.success) e ∙ ap (λ s. s.success) is;
      per_index = ap (λ j. j.spec.per_index) e ∙ ap (λ s. s.per_index) is;
      template = ap (λ j. j.spec.template) e ∙ ap (λ s. s.template) is;
    }

-- ---- pods

-- A step from the pod of a UID, at the UID that it has.
pub goes_from_pod : (u : Uid) (log : List Entry) (old new : Pod) → Some old ≡ pod_in u log → PodStep old new → CanGo (life new.uid log) new
goes_from_pod u log old new there step =
    let live = living-live (life u log) old (sym there) in
    subst (λ l. CanGo l new) (sym live ∙ ap (λ v. life v log) (sym (life-uid u log old live) ∙ sym step.uid)) step

pub mark_step : (old : Pod) (version : Version) (now : Moment) (new : Pod) → is_marked old ≡ false → new ≡ record old { version = version; marked = Some now } → PodStep old new
mark_step old version now new unmarked e = record {
  uid = ap (λ p. p.uid) e;
  owner = ap (λ p. p.owner) e;
  owner_uid = ap (λ p. p.owner_uid) e;
  serial = ap (λ p. p.serial) e;
  index = ap (λ p. p.index) e;
  restart = ap (λ p. p.restart) e;
  created = ap (λ p. p.created) e;
  names = ap (λ p. map (λ container. container.name) p.containers) e;
  inits = ap (λ p. map (λ container. container.init) p.containers) e;
  untracked = λ h. ap (λ p. p.tracked) e ∙ h;
  marked = λ h. absurd (true≢false (sym h ∙ unmarked));
  begun = λ h. ap (λ p. is_pending p.phase) (sym e) ∙ h;
  phase = λ h. ap (λ p. p.phase) e;
  containers = λ h. ap (λ p. p.containers) e;
  conditions = λ h. ap (λ p. p.conditions) e;
}

pub release_step : (old : Pod) (version : Version) (new : Pod) → new ≡ record old { version = version; tracked = false } → PodStep old new
release_step old version new e = record {
  uid = ap (λ p. p.uid) e;
  owner = ap (λ p. p.owner) e;
  owner_uid = ap (λ p. p.owner_uid) e;
  serial = ap (λ p. p.serial) e;
  index = ap (λ p. p.index) e;
  restart = ap (λ p. p.restart) e;
  created = ap (λ p. p.created) e;
  names = ap (λ p. map (λ container. container.name) p.containers) e;
  inits = ap (λ p. map (λ container. container.init) p.containers) e;
  untracked = λ h. ap (λ p. p.tracked) e;
  marked = λ h. ap (λ p. p.marked) e;
  begun = λ h. ap (λ p. is_pending p.phase) (sym e) ∙ h;
  phase = λ h. ap (λ p. p.phase) e;
  containers = λ h. ap (λ p. p.containers) e;
  conditions = λ h. ap (λ p. p.conditions) e;
}

-- A report keeps the names of containers and which are init containers.
module _ {B : Type 0} (part : Container → B) (same : (container : Container) (exit : Option ℤ) (restarts : ℕ) → part (record container { exit = exit; restarts = restarts }) ≡ part container) where
  kept_by : (container : Container) (change : ContainerChange) → part (changed_by container change) ≡ part container
  kept_by container change =
      by (named change.name container) (record container {
        exit = given_exit change.exit container.exit;
        restarts = unwrap_or change.restarts container.restarts;
      }) (same container (given_exit change.exit container.exit) (unwrap_or change.restarts container.restarts))
    where
      by : (b : Bool) (changed : Container) → part changed ≡ part container → part (cond b changed container) ≡ part container
      by true changed e = e
      by false changed e = refl

  kept_by_all : (changes : List ContainerChange) (container : Container) → part (changed_container changes container) ≡ part container
  kept_by_all [] container = refl
  kept_by_all (change ∷ changes) container =
      kept_by_all changes (changed_by container change) ∙ kept_by container change

  kept_in_all : (changes : List ContainerChange) (containers : List Container) → map part (map (changed_container changes) containers) ≡ map part containers
  kept_in_all changes [] = refl
  kept_in_all changes (container ∷ containers) =
      ap (λ p. p ∷ map part (map (changed_container changes) containers)) (kept_by_all changes container)
      ∙ ap (λ ps. part container ∷ ps) (kept_in_all changes containers)

-- A pod that is neither final nor taken back from Running was pending where the report says so.
was_pending : (from to : Phase) → is_final from ≡ false → (same_phase from Running && same_phase to Pending) ≡ false → is_pending to ≡ true → is_pending from ≡ true
was_pending Pending to f b p = refl
was_pending Running Pending f b p = absurd (true≢false b)
was_pending Running Running f b p = absurd (true≢false (sym p))
was_pending Running Succeeded f b p = absurd (true≢false (sym p))
was_pending Running Failed f b p = absurd (true≢false (sym p))
was_pending Succeeded to f b p = absurd (true≢false f)
was_pending Failed to f b p = absurd (true≢false f)

pub report_step : (old : Pod) (version : Version) (change : PhaseChange) (new : Pod) → is_final old.phase ≡ false → (same_phase old.phase Running && same_phase change.phase Pending) ≡ false → new
    ≡ record old { version = version; phase = change.phase; containers = map (changed_container change.containers) old.containers; conditions = fold put_pattern old.conditions change.conditions } →
    PodStep old new
report_step old version change new going forth e = record {
  uid = ap (λ p. p.uid) e;
  owner = ap (λ p. p.owner) e;
  owner_uid = ap (λ p. p.owner_uid) e;
  serial = ap (λ p. p.serial) e;
  index = ap (λ p. p.index) e;
  restart = ap (λ p. p.restart) e;
  created = ap (λ p. p.created) e;
  names =
      ap (λ p. map (λ container. container.name) p.containers) e
      ∙ kept_in_all (λ container. container.name) (λ c x r. refl) change.containers old.containers;
  inits =
      ap (λ p. map (λ container. container.init) p.containers) e
      ∙ kept_in_all (λ container. container.init) (λ c x r. refl) change.containers old.containers;
  untracked = λ h. ap (λ p. p.tracked) e ∙ h;
  marked = λ h. ap (λ p. p.marked) e;
  begun = λ h. was_pending old.phase change.phase going forth (ap (λ p. is_pending p.phase) (sym e) ∙ h);
  phase = λ h. absurd (true≢false (sym h ∙ going));
  containers = λ h. absurd (true≢false (sym h ∙ going));
  conditions = λ h. absurd (true≢false (sym h ∙ going));
}
