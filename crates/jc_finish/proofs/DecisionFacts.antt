-- What a decision says of the Job and of its pods.
use Rattle.std.proofs.Common.{◌≡◌, ◌⊎◌, inl, inr, ℕ, zero, suc, Bool, true, false, cond, ◌&&◌, List, [], ◌∷◌, Option, Some, None, refl, ap, ◌∙◌}
use Rattle.std.specs.List.{Contains, list_any}
use Rattle.std.proofs.lemmas.Bool.{and_from, and_right, or_from, or_parts}
use Rattle.std.proofs.lemmas.List.Folds.{list_any-from_Any}
use Rattle.jc_types.specs.declared.objects.Job.{Job}
use Rattle.jc_types.specs.declared.objects.Pod.{Pod}
use Rattle.jc_types.specs.declared.policies.Action.TheVariants.{FailJob}
use Rattle.jc_types.specs.declared.policies.FailurePolicy.{FailurePolicy}
use Rattle.jc_types.specs.declared.policies.FailureRule.{FailureRule}
use Rattle.jc_types.specs.declared.specifications.JobSpec.{JobSpec}
use Rattle.jc_types.specs.declared.statuses.CondKind.{CondKind}
use Rattle.jc_types.specs.declared.statuses.CondKind.TheVariants.{FailureTarget, SuccessCriteriaMet}
use Rattle.jc_types.specs.declared.statuses.Reason.{Reason}
use Rattle.jc_types.specs.declared.statuses.Reason.TheVariants as reason
use Rattle.jc_types.specs.declared.syncs.CountIn.{CountIn}
use Rattle.jc_types.specs.Counts.{counts}
use Rattle.jc_states.specs.Conditions.{has_target}
use Rattle.jc_states.specs.Pods.{is_tracked}
use Rattle.jc_failpol.specs.declared.outcomes.Outcome.TheVariants as outcome
use Rattle.jc_failpol.specs.Outcomes.{outcome_of}
use Rattle.jc_failpol.specs.Rules.{action_at, action_of, matching_place}
use Rattle.jc_failpol.specs.FailJob.{is_failure, is_fail_job, policy_fails_job, fails_job}
use Rattle.jc_finish.specs.Decisions.{is_failed_by_indexes, is_failed_by_pod, is_past_limit, is_past_most, is_overdue, is_policy_met, is_complete, first_reason, decided}
use Rattle.jc_finish.specs.Settled.{is_target_kind}

-- Where the failure policy fails the Job for no pod, none fails it.
none-failing : (spec : JobSpec) (own : List Pod) → ((pod : Pod) → policy_fails_job spec.failure pod ≡ false) → is_failed_by_pod spec own ≡ false
none-failing spec own h =
    by own
  where
    by : (some : List Pod) → is_failed_by_pod spec some ≡ false
    by [] = refl
    by (pod ∷ rest) =
        or_from (is_tracked pod && fails_job spec pod) (is_failed_by_pod spec rest)
        (and_right (is_tracked pod) (fails_job spec pod) (and_right (is_failure (outcome_of spec pod)) (policy_fails_job spec.failure pod) (h pod)))
        (by rest)

-- Without a failure policy no pod fails the Job.
pub failing-without : (spec : JobSpec) (own : List Pod) → spec.failure ≡ None → is_failed_by_pod spec own ≡ false
failing-without spec own h = none-failing spec own (λ pod. ap (λ policy. policy_fails_job policy pod) h)

-- Where no rule has the action FailJob, no rule that matches has it.
fatal-at : (rules : List FailureRule) (place : ℕ) → list_any (λ rule. is_fail_job rule.action) rules ≡ false → is_fail_job (action_at rules (Some place)) ≡ false
fatal-at [] place h = refl
fatal-at (rule ∷ rules) zero h = (or_parts (is_fail_job rule.action) (list_any (λ rule. is_fail_job rule.action) rules) h).0
fatal-at (rule ∷ rules) (suc place) h = fatal-at rules place (or_parts (is_fail_job rule.action) (list_any (λ rule. is_fail_job rule.action) rules) h).1

fatal-nowhere : (rules : List FailureRule) (place : Option ℕ) → list_any (λ rule. is_fail_job rule.action) rules ≡ false → is_fail_job (action_at rules place) ≡ false
fatal-nowhere rules None h = refl
fatal-nowhere rules (Some place) h = fatal-at rules place h

-- So it fails the Job for no pod.
pub failing-mildly : (spec : JobSpec) (policy : FailurePolicy) (own : List Pod) → spec.failure ≡ Some policy → list_any (λ rule. is_fail_job rule.action) policy.rules ≡ false
    → is_failed_by_pod spec own ≡ false
failing-mildly spec policy own has_policy h =
    none-failing spec own (λ pod. ap (λ p. policy_fails_job p pod) has_policy ∙ fatal-nowhere policy.rules (matching_place policy pod) h)

-- The first of seven reasons that holds.
abbrev chosen : Bool → Bool → Bool → Bool → Bool → Bool → Bool → Option (CondKind × Reason)
chosen a b c d e f g =
    cond a (Some (FailureTarget, reason.PodFailurePolicy)) (cond b (Some (FailureTarget, reason.BackoffLimitExceeded))
    (cond c (Some (FailureTarget, reason.DeadlineExceeded)) (cond d (Some (FailureTarget, reason.MaxFailedIndexesExceeded))
    (cond e (Some (FailureTarget, reason.FailedIndexes)) (cond f (Some (SuccessCriteriaMet, reason.SuccessPolicy))
    (cond g (Some (SuccessCriteriaMet, reason.CompletionsReached)) None))))))

-- It is a target.
chosen-kind : (a b c d e f g : Bool) (target : CondKind × Reason) → chosen a b c d e f g ≡ Some target → is_target_kind target.0 ≡ true
chosen-kind true b c d e f g target h = cc
chosen-kind false true c d e f g target h = cc
chosen-kind false false true d e f g target h = cc
chosen-kind false false false true e f g target h = cc
chosen-kind false false false false true f g target h = cc
chosen-kind false false false false false true g target h = cc
chosen-kind false false false false false false true target h = cc
chosen-kind false false false false false false false target h = cc

module _ (counted : CountIn) (now : ℕ) (job : Job) (own : List Pod) where
  -- Nothing is decided where a target stands.
  pub decided_once : has_target job.status.conditions ≡ true → decided counted now job own ≡ None
  decided_once h = ap (λ b. cond b None (first_reason counted now job own)) h

  -- What is decided is a target, and none stood.
  pub decided_target : (target : CondKind × Reason) → decided counted now job own ≡ Some target → (is_target_kind target.0 ≡ true) × (has_target job.status.conditions ≡ false)
  decided_target target h = by (has_target job.status.conditions) refl h
    where
      by : (b : Bool) → has_target job.status.conditions ≡ b → cond b None (first_reason counted now job own) ≡ Some target → (is_target_kind target.0 ≡ true) × (has_target job.status.conditions ≡ false)
      by true t g = cc
      by false t g = (
        chosen-kind (is_failed_by_pod job.spec own) (is_past_limit (counts counted).0 job.spec own)
            (is_overdue now job.spec job.status) (is_past_most job.spec.max_failed counted.failed_indexes)
            (is_failed_by_indexes job.spec.completions counted.completed counted.failed_indexes own)
            (is_policy_met job.spec.success counted.completed) (is_complete (counts counted).1 job.spec own) target g,
        t,
      )

  -- A pod for which the failure policy fails the Job: a target stands, or this is decided.
  pub failure_decides : is_failed_by_pod job.spec own ≡ true → (has_target job.status.conditions ≡ true) ⊎ (decided counted now job own ≡ Some (FailureTarget, reason.PodFailurePolicy))
  failure_decides h = by (has_target job.status.conditions)
    where
      by : (b : Bool) → (b ≡ true) ⊎ (cond b None (first_reason counted now job own) ≡ Some (FailureTarget, reason.PodFailurePolicy))
      by true = inl refl
      by false = inr (ap (λ b. chosen b (is_past_limit (counts counted).0 job.spec own)
          (is_overdue now job.spec job.status) (is_past_most job.spec.max_failed counted.failed_indexes)
          (is_failed_by_indexes job.spec.completions counted.completed counted.failed_indexes own)
          (is_policy_met job.spec.success counted.completed) (is_complete (counts counted).1 job.spec own)) h)

-- The first reason that holds, by what it reads of the counts alone.
abbrev decided_by : ℕ → ℕ → List ℕ → List ℕ → ℕ → Job → List Pod → Option (CondKind × Reason)
decided_by failed succeeded completed failed_indexes now job own =
    cond (has_target job.status.conditions) None
    (chosen (is_failed_by_pod job.spec own) (is_past_limit failed job.spec own) (is_overdue now job.spec job.status)
    (is_past_most job.spec.max_failed failed_indexes) (is_failed_by_indexes job.spec.completions completed failed_indexes own)
    (is_policy_met job.spec.success completed) (is_complete succeeded job.spec own))

-- Where two counts, the completed and the failed indexes agree, the same is decided.
pub decided_same : (old new : CountIn) (now : ℕ) (job : Job) (own : List Pod) → (counts old).0 ≡ (counts new).0
    → (counts old).1 ≡ (counts new).1 → old.completed ≡ new.completed → old.failed_indexes ≡ new.failed_indexes
    → decided old now job own ≡ decided new now job own
decided_same old new now job own failed succeeded completed failing = λ i. decided_by (failed i) (succeeded i) (completed i) (failing i) now job own

-- A tracked pod for which the failure policy fails the Job.
pub found_by_pod : (spec : JobSpec) (own : List Pod) (pod : Pod) → Contains own pod → is_tracked pod ≡ true → fails_job spec pod ≡ true → is_failed_by_pod spec own ≡ true
found_by_pod spec own pod there tracked fails =
    list_any-from_Any (λ p. is_tracked p && fails_job spec p) own
    (there.0, pod, there.1, there.2, and_from (is_tracked pod) (fails_job spec pod) tracked fails)

-- It has failed, and the failure policy's action for it is FailJob.
pub failing_pod : (spec : JobSpec) (policy : FailurePolicy) (pod : Pod) → outcome_of spec pod ≡ outcome.Failed → spec.failure ≡ Some policy → action_of policy pod ≡ FailJob → fails_job spec pod ≡ true
failing_pod spec policy pod failed has_policy action =
    and_from (is_failure (outcome_of spec pod)) (policy_fails_job spec.failure pod) (ap is_failure failed)
    (ap (λ f. policy_fails_job f pod) has_policy ∙ ap is_fail_job action)
