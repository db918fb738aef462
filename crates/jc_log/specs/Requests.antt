-- What the store answers to each request, and the entry that it appends, from the log alone
-- (Kubernetes' API conventions). Refusals come in the order in which the cases stand and append
-- nothing. A write that would leave its object equal appends nothing.
--     Answered                     a reply, and the entry that was appended, where one was
--     grown log entry              the log with that entry
--     GivesOrKeeps                 what a call of the store does to the log
--     create_job_gives log ..      the answer to a request at a log; so for each request
use Rattle.std.specs.Prelude.{◌≡◌, ℕ, ℤ, Bool, true, false, not, ◌&&◌, ◌==◌, nat_eq, nat_lt, List, [], ◌∷◌, ◌++◌, map, find, fold, Option, Some, None, unwrap_or, Result, Ok, Err, if◌then◌else◌}
use Rattle.std.specs.List.{list_any}
use Rattle.std.specs.Cmp.Lexicographic.{pointwise}
use Rattle.std.specs.declared.alloc.AllocError.{AllocError}
use Rattle.jc_moment.specs.declared.moment.Moment.{Moment}
use Rattle.jc_types.specs.declared.actions.ContainerChange.{ContainerChange}
use Rattle.jc_types.specs.declared.actions.PhaseChange.{PhaseChange}
use Rattle.jc_types.specs.declared.actions.SpecChange.{SpecChange}
use Rattle.jc_types.specs.declared.limits.TheConstants.{GREATEST_LIMIT, GREATEST_PARALLELISM}
use Rattle.jc_types.specs.declared.numbers.Uid.{Uid}
use Rattle.jc_types.specs.declared.numbers.Version.{Version}
use Rattle.jc_types.specs.declared.objects.Container.{Container}
use Rattle.jc_types.specs.declared.objects.Entry.{Entry}
use Rattle.jc_types.specs.declared.objects.Entry.TheVariants.{JobPut, JobGone, PodPut, PodGone}
use Rattle.jc_types.specs.declared.objects.Job.{Job}
use Rattle.jc_types.specs.declared.objects.Phase.TheVariants.{Pending, Running}
use Rattle.jc_types.specs.declared.objects.Pod.{Pod}
use Rattle.jc_types.specs.declared.policies.Pattern.{Pattern}
use Rattle.jc_types.specs.declared.replies.Field.TheVariants.{Completions, Parallelism, BackoffLimit, Deadline}
use Rattle.jc_types.specs.declared.replies.Reply.{Reply}
use Rattle.jc_types.specs.declared.replies.Reply.TheVariants.{Created, Written, Unchanged, Released, Removed, Conflict, NotFound, AlreadyExists, Immutable, Invalid, Final, BadStep, NoContainer, NotTracked}
use Rattle.jc_types.specs.declared.specifications.JobSpec.{JobSpec}
use Rattle.jc_types.specs.declared.specifications.Mode.{Mode}
use Rattle.jc_types.specs.declared.specifications.Mode.TheVariants.{NonIndexed, Indexed}
use Rattle.jc_types.specs.declared.specifications.Template.{Template}
use Rattle.jc_types.specs.declared.statuses.JobStatus.{JobStatus}
use Rattle.jc_types.specs.declared.objects.KeyNames.{KeyNames as Key}
use Rattle.jc_types.specs.Keys.{same_uid}
use Rattle.jc_log.specs.Log.{job_in, pod_in, next_uid, next_version, made_for}
use Rattle.jc_states.specs.Pods.{goes, is_final, is_marked}
use Rattle.jc_types.specs.Equality.{same_option, same_limits, same_status, same_text, same_phase, same_container, same_pattern}

-- A reply, and the entry that was appended, where one was.
pub record Answered : Type 0 where
  pub reply : Reply
  pub entry : Option Entry

-- The log with that entry.
abbrev pub grown : List Entry → Option Entry → List Entry
grown log None = log
grown log (Some entry) = entry ∷ log

-- A reply with no entry.
abbrev pub refused : Reply → Answered
refused reply = record { reply = reply; entry = None }

-- A reply with an entry.
abbrev pub accepted : Reply → Entry → Answered
accepted reply entry = record { reply = reply; entry = Some entry }

-- What a call of the store does to the log: with a reply it is the answer's, and want of memory
-- leaves the log as it was.
abbrev pub GivesOrKeeps : List Entry → List Entry → Answered → Result Reply AllocError → Type 0
GivesOrKeeps old new answered (Ok reply) =
    (reply ≡ answered.reply) × (new ≡ grown old answered.entry)
GivesOrKeeps old new answered (Err want) = new ≡ old

-- ---- Jobs

-- The status of a new Job.
abbrev pub empty_status : JobStatus
empty_status = record {
  active = 0;
  ready = 0;
  terminating = 0;
  succeeded = 0;
  failed = 0;
  completed = [];
  failed_indexes = [];
  index_failures = [];
  uncounted_succeeded = [];
  uncounted_failed = [];
  start = None;
  completion = None;
  conditions = [];
}

-- Create a Job. It is refused where a Job has the key.
abbrev pub made_job : List Entry → Key → JobSpec → Moment → Job
made_job log key spec now = record {
  key = key;
  uid = next_uid log;
  version = next_version log;
  created = now;
  spec = spec;
  status = empty_status;
}

-- The answer, where the key has this Job or none.
abbrev pub create_job_at : List Entry → Key → JobSpec → Moment → Option Job → Answered
create_job_at log key spec now (Some job) = refused AlreadyExists
create_job_at log key spec now None =
    accepted (Created (next_uid log) (next_version log)) (JobPut (made_job log key spec now))

-- The answer to the creation of a Job.
abbrev pub create_job_gives : List Entry → Key → JobSpec → Moment → Answered
create_job_gives log key spec now = create_job_at log key spec now (job_in key log)

-- Update a Job's specification: the members that are given take the place of the old ones.
-- `completions` can be changed of an Indexed Job alone, and only together with `parallelism`. The
-- limits of the numbers are those of a valid specification.

-- A number is given, and it is not the old one.
abbrev pub is_given_else : Option ℕ → Option ℕ → Bool
is_given_else None old = false
is_given_else (Some given) old = not (same_option nat_eq (Some given) old)

-- A number is given, and it is above the limit.
abbrev pub is_above : ℕ → Option ℕ → Bool
is_above limit None = false
is_above limit (Some given) = nat_lt limit given

-- The Job has the mode Indexed.
abbrev pub is_indexed : Mode → Bool
is_indexed NonIndexed = false
is_indexed Indexed = true

-- The given completions may take the place of others: the Job is Indexed, and after the change as many
-- pods may run at once.
abbrev pub is_elastic : JobSpec → SpecChange → Bool
is_elastic spec change =
    is_indexed spec.mode
    && same_option nat_eq change.completions (Some (unwrap_or change.parallelism spec.parallelism))

-- The completions are given, differ and may not change.
abbrev pub is_immutable : JobSpec → SpecChange → Bool
is_immutable spec change =
    is_given_else change.completions spec.completions && not (is_elastic spec change)

-- The reply by which the change is refused, if it is.
abbrev pub update_refusal : JobSpec → SpecChange → Option Reply
update_refusal spec change =
    if is_immutable spec change then Some (Immutable Completions)
    else if is_above GREATEST_PARALLELISM change.parallelism then Some (Invalid Parallelism)
    else if is_above GREATEST_LIMIT change.backoff_limit then Some (Invalid BackoffLimit)
    else if is_above GREATEST_LIMIT change.deadline then Some (Invalid Deadline)
    else None

-- The given number, or else the old one.
abbrev pub given_or : Option ℕ → Option ℕ → Option ℕ
given_or None old = old
given_or (Some given) old = Some given

-- The specification with the members that are given.
abbrev pub changed_spec : JobSpec → SpecChange → JobSpec
changed_spec spec change = record spec {
  parallelism = unwrap_or change.parallelism spec.parallelism;
  completions = given_or change.completions spec.completions;
  suspend = unwrap_or change.suspend spec.suspend;
  deadline = given_or change.deadline spec.deadline;
  backoff_limit = unwrap_or change.backoff_limit spec.backoff_limit;
}

-- The Job with the specification, at the next version.
abbrev pub with_spec : List Entry → Job → JobSpec → Job
with_spec log job spec = record job { version = next_version log; spec = spec }

-- A given version differs from the object's.
abbrev pub is_other : Option Version → Version → Bool
is_other None current = false
is_other (Some given) current = not (given.0 == current.0)

-- The answer, where the change is refused by this reply or by none.
abbrev pub update_unless : List Entry → Job → SpecChange → Option Reply → Answered
update_unless log job change (Some reply) = refused reply
update_unless log job change None =
    if same_limits job.spec (changed_spec job.spec change) then refused (Unchanged job.version)
    else
    accepted (Written (next_version log))
    (JobPut (with_spec log job (changed_spec job.spec change)))

-- The answer, where the key has this Job or none.
abbrev pub update_spec_at : List Entry → Option Version → SpecChange → Option Job → Answered
update_spec_at log version change None = refused NotFound
update_spec_at log version change (Some job) =
    if is_other version job.version then refused (Conflict job.version)
    else update_unless log job change (update_refusal job.spec change)

-- The answer to an update of a specification.
abbrev pub update_spec_gives : List Entry → Key → Option Version → SpecChange → Answered
update_spec_gives log key version change = update_spec_at log version change (job_in key log)

-- Write a Job's status. It is refused where no Job has the key and the UID, or where the Job has
-- another version.

-- The Job with the status, at the next version.
abbrev pub with_status : List Entry → Job → JobStatus → Job
with_status log job status = record job { version = next_version log; status = status }

-- The answer, where the key has this Job or none.
abbrev pub write_status_at : List Entry → Uid → Version → JobStatus → Option Job → Answered
write_status_at log uid version status None = refused NotFound
write_status_at log uid version status (Some job) =
    if not (same_uid job.uid uid) then refused NotFound
    else if not (job.version.0 == version.0) then refused (Conflict job.version)
    else if same_status job.status status then refused (Unchanged job.version)
    else accepted (Written (next_version log)) (JobPut (with_status log job status))

-- The answer to a write of a status.
abbrev pub write_status_gives : List Entry → Key → Uid → Version → JobStatus → Answered
write_status_gives log key uid version status =
    write_status_at log uid version status (job_in key log)

-- Delete a Job; its pods stay. It is refused where no Job has the key.

-- The Job as it last stood, at the next version.
abbrev pub gone_job : List Entry → Job → Job
gone_job log job = record job { version = next_version log }

-- The answer, where the key has this Job or none.
abbrev pub delete_job_at : List Entry → Option Job → Answered
delete_job_at log None = refused NotFound
delete_job_at log (Some job) = accepted (Removed (next_version log)) (JobGone (gone_job log job))

-- The answer to the deletion of a Job.
abbrev pub delete_job_gives : List Entry → Key → Answered
delete_job_gives log key = delete_job_at log (job_in key log)

-- ---- pods

-- A write of a pod. One that leaves it marked, ended and without its finalizer takes it away.
abbrev pub pod_entry : Pod → Entry
pod_entry pod = if goes pod then PodGone pod else PodPut pod

-- A container of a new pod, without an exit code and restarts.
abbrev pub new_container : Bool → List ℕ → Container
new_container init name = record { name = name; init = init; exit = None; restarts = 0 }

-- The containers of a new pod: those of the template, and after them its init containers.
abbrev pub new_containers : Template → List Container
new_containers template =
    map (new_container false) template.containers ++ map (new_container true) template.inits

-- Create a pod of a Job: Pending, tracked and unmarked. It is never refused, also where the Job is
-- gone. Its serial is the number of pods that were made before it for the Job's UID.

-- The pod that is made.
abbrev pub made_pod : List Entry → Job → Option ℕ → Moment → Pod
made_pod log owner index now = record {
  uid = next_uid log;
  version = next_version log;
  owner = owner.key;
  owner_uid = owner.uid;
  serial = made_for owner.uid log;
  index = index;
  restart = owner.spec.template.restart;
  phase = Pending;
  containers = new_containers owner.spec.template;
  conditions = [];
  marked = None;
  tracked = true;
  created = now;
}

-- The answer to the creation of a pod.
abbrev pub create_pod_gives : List Entry → Job → Option ℕ → Moment → Answered
create_pod_gives log owner index now =
    accepted (Created (next_uid log) (next_version log)) (PodPut (made_pod log owner index now))

-- Mark a pod for deletion. It is refused where there is no such pod, and changes nothing where the
-- pod is marked.

-- The pod with the mark, at the next version.
abbrev pub with_mark : List Entry → Pod → Moment → Pod
with_mark log pod now = record pod { version = next_version log; marked = Some now }

-- The answer, where the UID has this pod or none.
abbrev pub mark_pod_at : List Entry → Moment → Option Pod → Answered
mark_pod_at log now None = refused NotFound
mark_pod_at log now (Some pod) =
    if is_marked pod then refused (Unchanged pod.version)
    else accepted (Written (next_version log)) (pod_entry (with_mark log pod now))

-- The answer to the mark of a pod.
abbrev pub mark_pod_gives : List Entry → Uid → Moment → Answered
mark_pod_gives log uid now = mark_pod_at log now (pod_in uid log)

-- Take a pod's finalizer. It is refused where no tracked pod has the UID.

-- The pod without the finalizer, at the next version.
abbrev pub without_finalizer : List Entry → Pod → Pod
without_finalizer log pod = record pod { version = next_version log; tracked = false }

-- The answer by which a pod loses its finalizer.
abbrev pub released : List Entry → Pod → Answered
released log pod = accepted (Released (next_version log)) (pod_entry (without_finalizer log pod))

-- The answer, where the UID has this pod or none.
abbrev pub release_at : List Entry → Option Pod → Answered
release_at log None = refused NotTracked
release_at log (Some pod) = if pod.tracked then released log pod else refused NotTracked

-- The answer to the release of a pod.
abbrev pub release_gives : List Entry → Uid → Answered
release_gives log uid = release_at log (pod_in uid log)

-- Let a pod go: take its finalizer where it has the version that is given.

-- The answer, where this is the pod.
abbrev pub let_go_at : List Entry → Version → Option Pod → Answered
let_go_at log version None = refused NotFound
let_go_at log version (Some pod) =
    if not (pod.version.0 == version.0) then refused (Conflict pod.version)
    else if pod.tracked then released log pod
    else refused NotTracked

-- The answer to the letting go of a pod.
abbrev pub let_go_gives : List Entry → Uid → Version → Answered
let_go_gives log uid version = let_go_at log version (pod_in uid log)

-- Report a pod's phase, with exit codes, restart counts and conditions. A given exit code or count
-- takes the place of the old one, and a given condition that of its kind, or it comes last.

-- The container has the name.
abbrev pub named : List ℕ → Container → Bool
named name container = same_text container.name name

-- The given exit code, or else the old one.
abbrev pub given_exit : Option ℤ → Option ℤ → Option ℤ
given_exit None old = old
given_exit (Some given) old = Some given

-- The container with what the change gives, if the change is about it.
abbrev pub changed_by : Container → ContainerChange → Container
changed_by container change =
    if named change.name container
    then record container {
      exit = given_exit change.exit container.exit;
      restarts = unwrap_or change.restarts container.restarts;
    }
    else container

-- The container with each change that is about it.
abbrev pub changed_container : List ContainerChange → Container → Container
changed_container changes container = fold changed_by container changes

-- The conditions with one more: in the place of that of its kind, or at the end.
abbrev pub put_pattern : List Pattern → Pattern → List Pattern
put_pattern [] given = given ∷ []
put_pattern (pattern ∷ patterns) given =
    if same_text pattern.kind given.kind then given ∷ patterns
    else pattern ∷ put_pattern patterns given

-- The pod as the report says, at the next version.
abbrev pub with_report : List Entry → Pod → PhaseChange → Pod
with_report log pod change = record pod {
  version = next_version log;
  phase = change.phase;
  containers = map (changed_container change.containers) pod.containers;
  conditions = fold put_pattern pod.conditions change.conditions;
}

-- What a report may change agrees.
abbrev pub same_course_of : Pod → Pod → Bool
same_course_of a b =
    same_phase a.phase b.phase
    && (pointwise same_container a.containers b.containers
    && pointwise same_pattern a.conditions b.conditions)

-- The change names no container of the pod.
abbrev pub is_unnamed : Pod → ContainerChange → Bool
is_unnamed pod change = not (list_any (named change.name) pod.containers)

-- The answer, where the first change that names no container is this or none.
abbrev pub report_unless : List Entry → Pod → PhaseChange → Option ContainerChange → Answered
report_unless log pod change (Some unnamed) = refused (NoContainer unnamed.name)
report_unless log pod change None =
    if same_course_of pod (with_report log pod change) then refused (Unchanged pod.version)
    else accepted (Written (next_version log)) (pod_entry (with_report log pod change))

-- It is refused where there is no such pod, where its phase is final, where it would go from
-- Running back to Pending, and where a container is named that it does not have.
abbrev pub report_phase_at : List Entry → PhaseChange → Option Pod → Answered
report_phase_at log change None = refused NotFound
report_phase_at log change (Some pod) =
    if is_final pod.phase then refused (Final pod.phase)
    else if same_phase pod.phase Running && same_phase change.phase Pending
    then refused (BadStep Running Pending)
    else report_unless log pod change (find (is_unnamed pod) change.containers)

-- The answer to the report of a phase.
abbrev pub report_phase_gives : List Entry → Uid → PhaseChange → Answered
report_phase_gives log uid change = report_phase_at log change (pod_in uid log)
