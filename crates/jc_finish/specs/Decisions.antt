-- What decides how a Job will end (batch/v1, KEP-3329, KEP-3850, KEP-3998). `counted` is what the sync has counted, `now` its
-- moment, and `own` are the Job's own pods.
--     restarts_too_often limit restarts  so many restarts are too many under the limit
--     is_failed_by_pod, is_past_limit, is_overdue, is_past_most, is_failed_by_indexes, is_policy_met, is_complete
--                                        the seven reasons, in their order
--     first_reason counted now job own   the first of them that holds, as a condition with its reason
--     decided counted now job own        the same, unless how the Job will end is decided
--     decision_of basis counted          what is decided of the Job of a basis
use Rattle.std.specs.Prelude.{ℕ, ◌+◌, ◌==◌, nat_lt, nat_le, length, unwrap_or, Bool, true, false, not, ◌&&◌, ◌||◌, List, if◌then◌else◌, Option, Some, None, is_some, option_and_then}
use Rattle.std.specs.List.{list_any}
use Rattle.jc_types.specs.declared.objects.Job.{Job}
use Rattle.jc_types.specs.declared.objects.Pod.{Pod}
use Rattle.jc_types.specs.declared.policies.SuccessPolicy.{SuccessPolicy}
use Rattle.jc_types.specs.declared.specifications.JobSpec.{JobSpec}
use Rattle.jc_types.specs.declared.specifications.Restart.{Restart}
use Rattle.jc_types.specs.declared.specifications.Restart.TheVariants.{Never, OnFailure}
use Rattle.jc_types.specs.declared.statuses.CondKind.{CondKind}
use Rattle.jc_types.specs.declared.statuses.CondKind.TheVariants.{FailureTarget, SuccessCriteriaMet}
use Rattle.jc_types.specs.declared.statuses.JobStatus.{JobStatus}
use Rattle.jc_types.specs.declared.statuses.Reason.{Reason}
use Rattle.jc_types.specs.declared.statuses.Reason.TheVariants as reason
use Rattle.jc_states.specs.declared.bases.Basis.{Basis}
use Rattle.jc_types.specs.declared.syncs.CountIn.{CountIn}
use Rattle.jc_states.specs.Bases.{own_pods}
use Rattle.jc_states.specs.Conditions.{has_target}
use Rattle.jc_types.specs.Counts.{counts}
use Rattle.jc_states.specs.Pods.{is_active, is_tracked}
use Rattle.jc_states.specs.Tallies.{restarts_of}
use Rattle.jc_failpol.specs.FailJob.{fails_job}
use Rattle.jc_succpol.specs.SuccessRules.{met_place}
use Rattle.jc_finish.specs.Starts.{end_after, start_of}

-- ---- too many restarts

-- As many restarts as the limit are too many, but under the limit 0 the first is.
abbrev pub restarts_too_often : ℕ → ℕ → Bool
restarts_too_often limit restarts = if limit == 0 then nat_lt 0 restarts else nat_le limit restarts

-- The containers of the pods start anew after a failure.
abbrev pub restarts_on_failure : Restart → Bool
restarts_on_failure Never = false
restarts_on_failure OnFailure = true

-- ---- the seven reasons, in their order

-- 1. A tracked pod has failed, and the failure policy then fails the Job.
abbrev pub is_failed_by_pod : JobSpec → List Pod → Bool
is_failed_by_pod spec own = list_any (λ pod. is_tracked pod && fails_job spec pod) own

-- 2. More pods have failed than the backoff limit, or containers that start anew have done so too often.
abbrev pub is_past_limit : ℕ → JobSpec → List Pod → Bool
is_past_limit failed spec own =
    nat_lt spec.backoff_limit failed
    || (restarts_on_failure spec.template.restart && restarts_too_often spec.backoff_limit (restarts_of own))

-- The second, where there is one, has come.
abbrev pub has_come : Option ℕ → ℕ → Bool
has_come None now = false
has_come (Some second) now = nat_le second now

-- 3. The Job is not suspended, and its deadline has come.
abbrev pub is_overdue : ℕ → JobSpec → JobStatus → Bool
is_overdue now spec status = not spec.suspend && has_come (end_after spec.deadline (start_of now spec status)) now

-- 4. More indexes have failed than may fail.
abbrev pub is_past_most : Option ℕ → List ℕ → Bool
is_past_most None failed_indexes = false
is_past_most (Some most) failed_indexes = nat_lt most (length failed_indexes)

-- 5. An index has failed, no pod is active, and no index is left: completed and failed ones are together as many as
-- completions are wanted.
abbrev pub is_failed_by_indexes : Option ℕ → List ℕ → List ℕ → List Pod → Bool
is_failed_by_indexes completions completed failed_indexes own =
    nat_lt 0 (length failed_indexes)
    && (not (list_any is_active own)
    && nat_le (unwrap_or completions 0) (length completed + length failed_indexes))

-- 6. The completed indexes meet a rule of the success policy.
abbrev pub is_policy_met : Option SuccessPolicy → List ℕ → Bool
is_policy_met None completed = false
is_policy_met (Some policy) completed = is_some (met_place policy completed)

-- As many successes as completions are wanted; where none are, one is enough.
abbrev pub is_enough : Option ℕ → ℕ → Bool
is_enough None succeeded = nat_lt 0 succeeded
is_enough (Some completions) succeeded = nat_le completions succeeded

-- 7. No pod is active, and enough have succeeded.
abbrev pub is_complete : ℕ → JobSpec → List Pod → Bool
is_complete succeeded spec own = not (list_any is_active own) && is_enough spec.completions succeeded

-- ---- the decision

-- The first of the reasons that holds.
abbrev pub first_reason : CountIn → ℕ → Job → List Pod → Option (CondKind × Reason)
first_reason counted now job own =
    if is_failed_by_pod job.spec own then Some (FailureTarget, reason.PodFailurePolicy)
    else if is_past_limit (counts counted).0 job.spec own then Some (FailureTarget, reason.BackoffLimitExceeded)
    else if is_overdue now job.spec job.status then Some (FailureTarget, reason.DeadlineExceeded)
    else if is_past_most job.spec.max_failed counted.failed_indexes
    then Some (FailureTarget, reason.MaxFailedIndexesExceeded)
    else if is_failed_by_indexes job.spec.completions counted.completed counted.failed_indexes own
    then Some (FailureTarget, reason.FailedIndexes)
    else if is_policy_met job.spec.success counted.completed then Some (SuccessCriteriaMet, reason.SuccessPolicy)
    else if is_complete (counts counted).1 job.spec own then Some (SuccessCriteriaMet, reason.CompletionsReached)
    else None

-- Nothing is decided anew where how the Job will end is decided.
abbrev pub decided : CountIn → ℕ → Job → List Pod → Option (CondKind × Reason)
decided counted now job own = if has_target job.status.conditions then None else first_reason counted now job own

-- What a sync decides of its basis's Job.
abbrev pub decision_of : Basis → CountIn → Option (CondKind × Reason)
decision_of basis counted =
    option_and_then (λ job. decided counted basis.now job (own_pods job basis.pods)) basis.job
