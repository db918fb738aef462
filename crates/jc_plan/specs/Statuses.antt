-- The two statuses of a sync as values, whether they are written or not (batch/v1, KEP-2307, KEP-3998). `own` are
-- the Job's own pods, `counted` what the sync counts in, `target` the target that it decides, `settled` says that how
-- the Job ends is decided, and `wants` is what the sync wants of the pods.
--     is_end_decided job target     how the Job ends is decided, before the sync or by it
--     wants_at ..                   what the sync wants
--     completed_at ..               when the Job completed
--     status_with ..                the status of what is counted, of numbers of pods and of the Job's course
--     filled .. due                 the status with all these; `due` says that its end is due
--     lists_none status             no UID is uncounted in it
--     leaves_none counted           no pod is left over
--     is_over settled own counted   how the Job ends is decided, no pod is open and none is left over
--     is_first_due .., is_second_due ..  nothing is in the way of its end at the first write, at the second
--     accounted job basis           what the sync counts in, with what is said of failed indexes
--     first_status_of .., first_value      counted in; it may end where no finalizer of an own pod is to go
--     second_status_of .., second_value    counted out, once these finalizers are gone
use Rattle.std.specs.Prelude.{ℕ, ◌+◌, ◌==◌, Bool, true, false, not, ◌&&◌, ◌||◌, List, [], ◌∷◌, Option, Some, is_some, if◌then◌else◌}
use Rattle.std.specs.List.{list_any}
use Rattle.jc_types.specs.declared.numbers.Uid.{Uid}
use Rattle.jc_types.specs.declared.objects.Job.{Job}
use Rattle.jc_types.specs.declared.objects.Pod.{Pod}
use Rattle.jc_types.specs.declared.statuses.CondKind.{CondKind}
use Rattle.jc_types.specs.declared.statuses.CondKind.TheVariants.{Complete}
use Rattle.jc_types.specs.declared.statuses.Condition.{Condition}
use Rattle.jc_types.specs.declared.statuses.JobStatus.{JobStatus}
use Rattle.jc_types.specs.declared.statuses.Reason.{Reason}
use Rattle.jc_types.specs.declared.syncs.Backoff.{Backoff}
use Rattle.jc_states.specs.declared.bases.Basis.{Basis}
use Rattle.jc_types.specs.declared.syncs.CountIn.{CountIn}
use Rattle.jc_states.specs.Bases.{own_pods}
use Rattle.jc_states.specs.Conditions.{has_end, has_target, stands}
use Rattle.jc_states.specs.Pods.{is_open}
use Rattle.jc_account.specs.Accounts.{counted_in, counted_out}
use Rattle.jc_finish.specs.Decisions.{decided}
use Rattle.jc_finish.specs.Settled.{settled}
use Rattle.jc_finish.specs.Starts.{start_of}
use Rattle.jc_manage.specs.declared.results.Wants.{Wants}
use Rattle.jc_manage.specs.Backoffs.{backoff_after, opening}
use Rattle.jc_manage.specs.Creations.{creatable, creates, next}
use Rattle.jc_manage.specs.LetGoes.{let_goes, marks}
use Rattle.jc_perindex.specs.Failures.{filled_counts}
use Rattle.jc_plan.specs.declared.numbers.Numbers.{Numbers}
use Rattle.jc_plan.specs.declared.statuses.Course.{Course}
use Rattle.jc_plan.specs.PodNumbers.{active_after, ending_after, ready_after}

-- How the Job ends is decided: a target stands, or is decided now.
abbrev pub is_end_decided : Job → Option (CondKind × Reason) → Bool
is_end_decided job target = has_target job.status.conditions || is_some target

-- What the sync wants of the pods.
abbrev pub wants_at : ℕ → Backoff → Bool → Job → List Pod → CountIn → Wants
wants_at now backoff settled job own counted = record {
  creates = creates (opening (backoff_after backoff counted now)) now (creatable settled job own counted);
  marks = marks settled own;
  let_goes = let_goes settled job own counted;
  next = next (opening (backoff_after backoff counted now)) now (creatable settled job own counted);
  backoff = backoff_after backoff counted now;
}

-- The moment at which the Job completed: now, where Complete is new among its conditions.
abbrev pub completed_at : ℕ → JobStatus → List Condition → Option ℕ
completed_at now status conditions =
    if stands Complete conditions && not (has_end status.conditions) then Some now else status.completion

-- The conditions of the Job after the sync, with its end where that is due.
abbrev pub conditions_at : ℕ → Job → Option (CondKind × Reason) → Bool → List Condition
conditions_at now job target due = settled now job.spec.suspend target due job.status.conditions

-- The status of what is counted, of these numbers of pods, and of this course of the Job.
abbrev pub status_with : CountIn → Numbers → Course → JobStatus
status_with counted numbers course = record {
  active = numbers.active;
  ready = numbers.ready;
  terminating = numbers.terminating;
  succeeded = counted.succeeded;
  failed = counted.failed;
  completed = counted.completed;
  failed_indexes = counted.failed_indexes;
  index_failures = counted.index_failures;
  uncounted_succeeded = counted.uncounted_succeeded;
  uncounted_failed = counted.uncounted_failed;
  start = course.start;
  completion = course.completion;
  conditions = course.conditions;
}

-- The status with what is counted, the numbers of pods, the start time and the conditions.
abbrev pub filled : ℕ → Job → List Pod → CountIn → Option (CondKind × Reason) → Wants → Bool → JobStatus
filled now job own counted target wants due = record {
  active = active_after wants own;
  ready = ready_after wants own;
  terminating = ending_after wants own;
  succeeded = counted.succeeded;
  failed = counted.failed;
  completed = counted.completed;
  failed_indexes = counted.failed_indexes;
  index_failures = counted.index_failures;
  uncounted_succeeded = counted.uncounted_succeeded;
  uncounted_failed = counted.uncounted_failed;
  start = start_of now job.spec job.status;
  completion = completed_at now job.status (conditions_at now job target due);
  conditions = conditions_at now job target due;
}

-- There is none.
abbrev pub is_none : List Uid → Bool
is_none [] = true
is_none (u ∷ uids) = false

-- No UID is listed as uncounted.
abbrev pub lists_none : List Uid → List Uid → Bool
lists_none succeeded failed = is_none succeeded && is_none failed

-- No pod is left over for a later sync.
abbrev pub leaves_none : CountIn → Bool
leaves_none counted = counted.left_succeeded + counted.left_failed == 0

-- How the Job ends is decided, and none of its pods is open or left over.
abbrev pub is_over : Bool → List Pod → CountIn → Bool
is_over settled own counted = settled && (not (list_any is_open own) && leaves_none counted)

-- The end of the first status is due: the Job is over, and no UID is listed and no finalizer is to go.
abbrev pub is_first_due : Bool → List Pod → CountIn → Bool
is_first_due settled own counted =
    is_over settled own counted && (is_none counted.releases && lists_none counted.uncounted_succeeded counted.uncounted_failed)

-- The first status: what is counted in, and the end where it is due.
abbrev pub first_status_of : ℕ → Job → List Pod → CountIn → Option (CondKind × Reason) → Wants → JobStatus
first_status_of now job own counted target wants =
    filled now job own counted target wants (is_first_due (is_end_decided job target) own counted)

-- The status with its end where that is due.
abbrev pub with_due_end : ℕ → Job → Option (CondKind × Reason) → Bool → JobStatus → JobStatus
with_due_end now job target due status = record status {
  completion = completed_at now job.status (conditions_at now job target due);
  conditions = conditions_at now job target due;
}

-- The end of the second status is due: the Job is over, and no UID is listed.
abbrev pub is_second_due : Bool → List Pod → CountIn → JobStatus → Bool
is_second_due settled own counted status =
    is_over settled own counted && lists_none status.uncounted_succeeded status.uncounted_failed

-- The status with its end where that is due.
abbrev pub second_after : ℕ → Job → List Pod → CountIn → Option (CondKind × Reason) → JobStatus → JobStatus
second_after now job own counted target status =
    with_due_end now job target (is_second_due (is_end_decided job target) own counted status) status

-- The second status: the first with the released UIDs counted out, and the end where it is due.
abbrev pub second_status_of : ℕ → Job → List Pod → CountIn → Option (CondKind × Reason) → Wants → JobStatus
second_status_of now job own counted target wants =
    second_after now job own counted target (counted_out (first_status_of now job own counted target wants) counted.releases)

-- ---- over the basis of a sync

-- What the sync counts in, with the failures of each index and the indexes that have failed.
abbrev pub accounted : Job → Basis → CountIn
accounted job basis = filled_counts job (own_pods job basis.pods) (counted_in job basis.pods)

-- What the sync decides of its Job.
abbrev pub decided_in : Job → Basis → Option (CondKind × Reason)
decided_in job basis = decided (accounted job basis) basis.now job (own_pods job basis.pods)

-- What the sync wants of the Job's pods.
abbrev pub wants_in : Job → Basis → Wants
wants_in job basis =
    wants_at basis.now basis.backoff (is_end_decided job (decided_in job basis)) job (own_pods job basis.pods)
    (accounted job basis)

-- The first status of the Job.
unfoldable pub first_value : Job → Basis → JobStatus
first_value job basis =
    first_status_of basis.now job (own_pods job basis.pods) (accounted job basis) (decided_in job basis)
    (wants_in job basis)

-- The second status of the Job.
unfoldable pub second_value : Job → Basis → JobStatus
second_value job basis =
    second_status_of basis.now job (own_pods job basis.pods) (accounted job basis) (decided_in job basis)
    (wants_in job basis)

-- The first status with the Job's own pods counted out that are to be released.
abbrev pub first_released : Job → Basis → JobStatus
first_released job basis = counted_out (first_value job basis) (counted_in job basis.pods).releases
