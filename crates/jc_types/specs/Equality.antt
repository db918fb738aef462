-- Whether two values are equal, as tests that compute. Each is tied to equality by a law.
--     IsExact same         the test is true just of equal values
--     same_option same     both are none, or both are there and the same
--     same_text            two texts have the same bytes
--     same_phase           two phases are the same
--     same_condition       kind, status, reason and moment agree
--     same_index_count     index, failures and mark agree
--     same_status          all members of two statuses agree
--     same_container       all members of two containers agree
--     same_pattern         kind and truth agree
--     same_spec            all members of two specifications agree
--     same_job, same_pod   all members of two Jobs, or pods, agree
use Rattle.std.specs.Prelude.{◌≡◌, ℕ, Bool, true, false, not, ◌&&◌, ◌==◌, nat_eq, List, Option, Some, None}
use Rattle.std.specs.Ordering.{int_eq}
use Rattle.std.specs.Cmp.Lexicographic.{pointwise}
use Rattle.jc_types.specs.declared.objects.Container.{Container}
use Rattle.jc_types.specs.declared.objects.Job.{Job}
use Rattle.jc_types.specs.declared.objects.Phase.{Phase}
use Rattle.jc_types.specs.declared.objects.Phase.TheVariants.{Pending, Running}
use Rattle.jc_types.specs.declared.objects.Phase.TheVariants as phase
use Rattle.jc_types.specs.declared.objects.Pod.{Pod}
use Rattle.jc_types.specs.declared.policies.Action.{Action}
use Rattle.jc_types.specs.declared.policies.Action.TheVariants.{FailJob, Ignore, Count, FailIndex}
use Rattle.jc_types.specs.declared.policies.FailurePolicy.{FailurePolicy}
use Rattle.jc_types.specs.declared.policies.FailureRule.{FailureRule}
use Rattle.jc_types.specs.declared.policies.Operator.{Operator}
use Rattle.jc_types.specs.declared.policies.Operator.TheVariants.{Within, NotWithin}
use Rattle.jc_types.specs.declared.policies.Pattern.{Pattern}
use Rattle.jc_types.specs.declared.policies.Requirement.{Requirement}
use Rattle.jc_types.specs.declared.policies.Requirement.TheVariants.{ExitCodes, Conditions}
use Rattle.jc_types.specs.declared.policies.SuccessPolicy.{SuccessPolicy}
use Rattle.jc_types.specs.declared.policies.SuccessRule.{SuccessRule}
use Rattle.jc_types.specs.declared.policies.Truth.{Truth}
use Rattle.jc_types.specs.declared.specifications.JobSpec.{JobSpec}
use Rattle.jc_types.specs.declared.specifications.Mode.{Mode}
use Rattle.jc_types.specs.declared.specifications.Mode.TheVariants.{NonIndexed, Indexed}
use Rattle.jc_types.specs.declared.specifications.Replacement.{Replacement}
use Rattle.jc_types.specs.declared.specifications.Replacement.TheVariants.{TerminatingOrFailed, FailedOnly}
use Rattle.jc_types.specs.declared.specifications.Restart.{Restart}
use Rattle.jc_types.specs.declared.specifications.Restart.TheVariants.{Never, OnFailure}
use Rattle.jc_types.specs.declared.specifications.Template.{Template}
use Rattle.jc_types.specs.declared.syncs.Backoff.{Backoff}
use Rattle.jc_types.specs.declared.policies.Truth.TheVariants as truth
use Rattle.jc_types.specs.declared.statuses.CondKind.{CondKind}
use Rattle.jc_types.specs.declared.statuses.CondKind.TheVariants.{Suspended, FailureTarget, SuccessCriteriaMet, Failed, Complete}
use Rattle.jc_types.specs.declared.statuses.Condition.{Condition}
use Rattle.jc_types.specs.declared.statuses.IndexCount.{IndexCount}
use Rattle.jc_types.specs.declared.statuses.JobStatus.{JobStatus}
use Rattle.jc_types.specs.declared.statuses.Reason.{Reason}
use Rattle.jc_types.specs.declared.statuses.Reason.TheVariants as reason
use Rattle.jc_types.specs.Keys.{same_key, same_uid}

-- The test is true just of equal values.
abbrev pub IsExact : {A : Type 0} → (A → A → Bool) → Type 0
IsExact {A} same = (a b : A) → (same a b ≡ true → a ≡ b) × (a ≡ b → same a b ≡ true)

-- Both are true, or both false.
abbrev pub same_bool : Bool → Bool → Bool
same_bool true b = b
same_bool false b = not b

-- Both are none, or both are there and the same.
abbrev pub same_option : {A : Type 0} → (A → A → Bool) → Option A → Option A → Bool
same_option same None None = true
same_option same None (Some b) = false
same_option same (Some a) None = false
same_option same (Some a) (Some b) = same a b

-- The place of a kind among the kinds.
abbrev pub kind_place : CondKind → ℕ
kind_place Suspended = 0
kind_place FailureTarget = 1
kind_place SuccessCriteriaMet = 2
kind_place Failed = 3
kind_place Complete = 4

-- The kinds agree.
abbrev pub same_kind : CondKind → CondKind → Bool
same_kind a b = kind_place a == kind_place b

-- The place of a reason among the reasons.
abbrev pub reason_place : Reason → ℕ
reason_place reason.BackoffLimitExceeded = 0
reason_place reason.DeadlineExceeded = 1
reason_place reason.PodFailurePolicy = 2
reason_place reason.SuccessPolicy = 3
reason_place reason.CompletionsReached = 4
reason_place reason.JobSuspended = 5
reason_place reason.JobResumed = 6
reason_place reason.MaxFailedIndexesExceeded = 7
reason_place reason.FailedIndexes = 8

-- Kind, status, reason and moment agree.
abbrev pub same_condition : Condition → Condition → Bool
same_condition a b =
    same_kind a.kind b.kind
    && (same_bool a.status b.status
    && ((reason_place a.reason == reason_place b.reason) && (a.since == b.since)))

-- The counts agree.
abbrev pub same_counts : JobStatus → JobStatus → Bool
same_counts a b =
    (a.active == b.active) && ((a.ready == b.ready) && ((a.terminating == b.terminating)
    && ((a.succeeded == b.succeeded) && (a.failed == b.failed))))

-- Index, failures and mark agree.
abbrev pub same_index_count : IndexCount → IndexCount → Bool
same_index_count a b = (a.index == b.index) && ((a.failures == b.failures) && same_bool a.fail b.fail)

-- What is said of indexes agrees.
abbrev pub same_indexes : JobStatus → JobStatus → Bool
same_indexes a b =
    pointwise nat_eq a.completed b.completed
    && (pointwise nat_eq a.failed_indexes b.failed_indexes
    && pointwise same_index_count a.index_failures b.index_failures)

-- What is said of indexes and the uncounted UIDs agree.
abbrev pub same_lists : JobStatus → JobStatus → Bool
same_lists a b =
    same_indexes a b
    && (pointwise same_uid a.uncounted_succeeded b.uncounted_succeeded
    && pointwise same_uid a.uncounted_failed b.uncounted_failed)

-- The moments and the conditions agree.
abbrev pub same_course : JobStatus → JobStatus → Bool
same_course a b =
    same_option nat_eq a.start b.start
    && (same_option nat_eq a.completion b.completion
    && pointwise same_condition a.conditions b.conditions)

-- All members of two statuses agree.
abbrev pub same_status : JobStatus → JobStatus → Bool
same_status a b = same_counts a b && (same_lists a b && same_course a b)

-- Both have the same bytes.
abbrev pub same_text : List ℕ → List ℕ → Bool
same_text a b = pointwise nat_eq a b

-- All members of two containers agree.
abbrev pub same_container : Container → Container → Bool
same_container a b =
    same_text a.name b.name
    && (same_bool a.init b.init && (same_option int_eq a.exit b.exit && (a.restarts == b.restarts)))

-- The place of a truth among the three.
abbrev pub truth_place : Truth → ℕ
truth_place truth.True = 0
truth_place truth.False = 1
truth_place truth.Unknown = 2

-- Kind and truth agree.
abbrev pub same_pattern : Pattern → Pattern → Bool
same_pattern a b = same_text a.kind b.kind && (truth_place a.truth == truth_place b.truth)

-- ---- specifications

-- The place of an operator among the operators.
abbrev pub operator_place : Operator → ℕ
operator_place Within = 0
operator_place NotWithin = 1

-- The place of an action among the actions.
abbrev pub action_place : Action → ℕ
action_place FailJob = 0
action_place Ignore = 1
action_place Count = 2
action_place FailIndex = 3

-- The place of a mode among the modes.
abbrev pub mode_place : Mode → ℕ
mode_place NonIndexed = 0
mode_place Indexed = 1

-- The place of a replacement among the replacements.
abbrev pub replacement_place : Replacement → ℕ
replacement_place TerminatingOrFailed = 0
replacement_place FailedOnly = 1

-- The place of a restart policy among the two.
abbrev pub restart_place : Restart → ℕ
restart_place Never = 0
restart_place OnFailure = 1

-- Both ask for the same codes, or for the same conditions.
abbrev pub same_requirement : Requirement → Requirement → Bool
same_requirement (ExitCodes container operator values) (ExitCodes container' operator' values') =
    same_option same_text container container'
    && ((operator_place operator == operator_place operator') && pointwise int_eq values values')
same_requirement (Conditions patterns) (Conditions patterns') =
    pointwise same_pattern patterns patterns'
same_requirement (ExitCodes container operator values) (Conditions patterns) = false
same_requirement (Conditions patterns) (ExitCodes container operator values) = false

-- Action and requirement agree.
abbrev pub same_failure_rule : FailureRule → FailureRule → Bool
same_failure_rule a b =
    (action_place a.action == action_place b.action) && same_requirement a.requirement b.requirement

-- Rule by rule both policies are the same.
abbrev pub same_failure : FailurePolicy → FailurePolicy → Bool
same_failure a b = pointwise same_failure_rule a.rules b.rules

-- The indexes and the count agree.
abbrev pub same_success_rule : SuccessRule → SuccessRule → Bool
same_success_rule a b =
    same_option (pointwise nat_eq) a.indexes b.indexes && same_option nat_eq a.count b.count

-- Rule by rule both policies are the same.
abbrev pub same_success : SuccessPolicy → SuccessPolicy → Bool
same_success a b = pointwise same_success_rule a.rules b.rules

-- The restart policy and the names of the containers agree.
abbrev pub same_template : Template → Template → Bool
same_template a b =
    (restart_place a.restart == restart_place b.restart)
    && (pointwise same_text a.containers b.containers && pointwise same_text a.inits b.inits)

-- The members that an update may change agree.
abbrev pub same_limits : JobSpec → JobSpec → Bool
same_limits a b =
    (a.parallelism == b.parallelism) && (same_option nat_eq a.completions b.completions
    && (same_bool a.suspend b.suspend && (same_option nat_eq a.deadline b.deadline
    && (a.backoff_limit == b.backoff_limit))))

-- The limits of each index, and of the indexes that fail, agree.
abbrev pub same_index_limits : JobSpec → JobSpec → Bool
same_index_limits a b =
    same_option nat_eq a.per_index b.per_index && same_option nat_eq a.max_failed b.max_failed

-- The members that no update changes agree.
abbrev pub same_kinds : JobSpec → JobSpec → Bool
same_kinds a b =
    (mode_place a.mode == mode_place b.mode)
    && ((replacement_place a.replacement == replacement_place b.replacement)
    && (same_index_limits a b && (same_option same_failure a.failure b.failure
    && (same_option same_success a.success b.success && same_template a.template b.template))))

-- All members of two specifications agree.
abbrev pub same_spec : JobSpec → JobSpec → Bool
same_spec a b = same_limits a b && same_kinds a b

-- ---- objects and bases

-- All members of two Jobs agree.
abbrev pub same_job : Job → Job → Bool
same_job a b =
    same_key a.key b.key && (same_uid a.uid b.uid && ((a.version.0 == b.version.0)
    && ((a.created == b.created) && (same_spec a.spec b.spec && same_status a.status b.status))))

-- The place of a phase among the phases.
abbrev pub phase_place : Phase → ℕ
phase_place Pending = 0
phase_place Running = 1
phase_place phase.Succeeded = 2
phase_place phase.Failed = 3

-- The phases are the same.
abbrev pub same_phase : Phase → Phase → Bool
same_phase a b = phase_place a == phase_place b

-- What a pod keeps from its making on agrees.
abbrev pub same_origin : Pod → Pod → Bool
same_origin a b =
    same_uid a.uid b.uid && (same_key a.owner b.owner && (same_uid a.owner_uid b.owner_uid
    && ((a.serial == b.serial) && (same_option nat_eq a.index b.index
    && ((restart_place a.restart == restart_place b.restart) && (a.created == b.created))))))

-- What writes of a pod change agrees.
abbrev pub same_state : Pod → Pod → Bool
same_state a b =
    (a.version.0 == b.version.0) && (same_phase a.phase b.phase
    && (pointwise same_container a.containers b.containers
    && (pointwise same_pattern a.conditions b.conditions
    && (same_option nat_eq a.marked b.marked && same_bool a.tracked b.tracked))))

-- All members of two pods agree.
abbrev pub same_pod : Pod → Pod → Bool
same_pod a b = same_origin a b && same_state a b

-- The number of failures and the last moment agree.
abbrev pub same_backoff : Backoff → Backoff → Bool
same_backoff a b = (a.failures == b.failures) && same_option nat_eq a.last b.last
