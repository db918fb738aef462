-- How many of a Job's pods have failed, before a plan and after it; and that a Job whose pods have failed more often than
-- the limit allows is decided.
use Rattle.std.proofs.Common.{◌≡◌, ℕ, ◌+◌, ◌≤◌, Bool, true, false, cond, ◌&&◌, ◌||◌, List, filter, length, Option, Some, None, is_some, not, refl, sym, ap, ◌∙◌, arith, true≢false}
use Rattle.std.proofs.lemmas.Bool.{and_parts, lt-ltb, ltb-true}
use Rattle.jc_types.specs.declared.objects.Job.{Job}
use Rattle.jc_types.specs.declared.objects.Phase.{Phase}
use Rattle.jc_types.specs.declared.objects.Phase.TheVariants as phase
use Rattle.jc_types.specs.declared.objects.Pod.{Pod}
use Rattle.jc_types.specs.declared.statuses.JobStatus.{JobStatus}
use Rattle.jc_types.specs.Counts.{counts}
use Rattle.jc_states.specs.declared.bases.Basis.{Basis}
use Rattle.jc_states.specs.Bases.{own_pods}
use Rattle.jc_states.specs.Conditions.{has_target}
use Rattle.jc_states.specs.PodLists.{IsRising}
use Rattle.jc_states.specs.Pods.{is_final, is_marked}
use Rattle.jc_states.specs.Tallies.{restarts_of}
use Rattle.jc_failpol.specs.declared.outcomes.Outcome.TheVariants.{Failed}
use Rattle.jc_failpol.specs.Outcomes.{is_failed, outcome_of, same_outcome}
use Rattle.jc_account.specs.Judged.{judged_now, left_over, left_with, newly}
use Rattle.jc_account.proofs.AccountFacts.{failed-all-out, failed-sum, left-failed}
use Rattle.jc_account.proofs.ListedFacts.{each}
use Rattle.jc_finish.specs.Decisions.{is_failed_by_pod, is_past_limit, restarts_on_failure, restarts_too_often}
use Rattle.jc_plan.specs.Plans.{planned}
use Rattle.jc_plan.specs.Statuses.{accounted, decided_in, first_value, is_end_decided}
use Rattle.jc_plan.proofs.ValueFacts.{first-failed, first-failed_list, second-failed}
use Rattle.jc_making.specs.Grants.{AllGranted, job_left}
use Rattle.jc_making.proofs.Lists.{fewer}
use Rattle.jc_making.proofs.PlanFacts.{Ended}
use Rattle.jc_making.proofs.StatusFacts.{anew-then, judged-and-left, left-is, lists-failure}
use Rattle.jc_retries.specs.Retries.{has_failed_for_good, is_spent, new_failures, pods_failed}

-- An open pod has not failed.
pub open-unfailed : (p : Phase) → is_final p ≡ false → is_failed p ≡ false
open-unfailed phase.Pending e = refl
open-unfailed phase.Running e = refl
open-unfailed phase.Succeeded e = refl
open-unfailed phase.Failed e = absurd (true≢false e)

failure-ended : (job : Job) → Ended (has_failed_for_good job)
failure-ended job p q same active = ap (λ f. is_failed f && same_outcome (outcome_of job.spec q) Failed) same ∙ ap (λ b. b && same_outcome (outcome_of job.spec q) Failed) (open-unfailed p.phase (by (is_final p.phase) (is_marked p) active))
  where
    by : (f m : Bool) → (not f && not m) ≡ true → f ≡ false
    by true m e = absurd (true≢false (sym e))
    by false m e = refl

-- The second reason decides.
decides : {X : Type 0} (target first second : Bool) (x y : X) (others : Option X) → second ≡ true → (target || is_some (cond target None (cond first (Some x) (cond second (Some y) others)))) ≡ true
decides true first second x y others e = refl
decides false true second x y others e = refl
decides false false second x y others e = ap (λ b. is_some (cond b (Some y) others)) e

module _ (job : Job) (basis : Basis) (this : basis.job ≡ Some job) (rises : IsRising basis.pods) where
  abbrev own : List Pod
  own = own_pods job basis.pods

  abbrev good : Pod → Bool
  good = has_failed_for_good job

  -- Those that have failed for good are among those that have failed.
  counted-few : (pods : List Pod) → length (filter good pods) ≤ length (filter (λ pod. same_outcome (outcome_of job.spec pod) Failed) pods)
  counted-few pods =
      fewer good (λ pod. same_outcome (outcome_of job.spec pod) Failed) pods
      (each (λ pod. good pod ≡ true → same_outcome (outcome_of job.spec pod) Failed ≡ true) (λ pod h. (and_parts (is_failed pod.phase) (same_outcome (outcome_of job.spec pod) Failed) h).1) pods)

  -- The plan counts as many, or more.
  failed-counted : pods_failed job own ≤ (counts (accounted job basis)).0
  failed-counted =
      let judged : length (filter good (judged_now job own)) ≤ length (newly job own Failed) = counted-few (judged_now job own) in
      let others : length (filter good (left_over job own)) ≤ length (left_with job own Failed) = counted-few (left_over job own) in
      let parts : length (filter good (judged_now job own)) + length (filter good (left_over job own)) ≡ length (new_failures job own) = judged-and-left job basis this rises good (failure-ended job) in
      omega (arith, judged, others, parts, failed-sum job basis.pods rises, left-failed job basis.pods)

  -- No fewer have failed then.
  pub failures-stay : (made : ℕ) (now : List Pod) → AllGranted (planned basis) made own now → pods_failed job own ≤ pods_failed (job_left (planned basis) job) now
  failures-stay made now is =
      let judged : length (filter good (judged_now job own)) ≤ length (newly job own Failed) = counted-few (judged_now job own) in
      let parts : length (filter good (judged_now job own)) + length (filter good (left_over job own)) ≡ length (new_failures job own) = judged-and-left job basis this rises good (failure-ended job) in
      let anew : length (new_failures (job_left (planned basis) job) now) ≡ length (filter good (left_over job own)) = ap length (anew-then job basis this rises good (failure-ended job) made now is) in
      omega (
        arith,
        judged,
        parts,
        anew,
        ap length (lists-failure job basis this rises),
        ap (λ (s : JobStatus). s.failed) (left-is job basis this rises),
        second-failed job basis,
        failed-all-out job basis.pods (first_value job basis) (first-failed_list job basis),
        first-failed job basis,
        ap length (first-failed_list job basis),
        failed-sum job basis.pods rises,
      )

  -- Where more have failed than the limit allows, it is decided how the Job ends.
  pub spent-decided : is_spent job own ≡ true → is_end_decided job (decided_in job basis) ≡ true
  spent-decided h = decides (has_target job.status.conditions) (is_failed_by_pod job.spec own) (is_past_limit (counts (accounted job basis)).0 job.spec own) _ _ _ over
    where
      over : is_past_limit (counts (accounted job basis)).0 job.spec own ≡ true
      over =
          ap (λ b. b || (restarts_on_failure job.spec.template.restart && restarts_too_often job.spec.backoff_limit (restarts_of own)))
          (lt-ltb job.spec.backoff_limit (counts (accounted job basis)).0 (let more = ltb-true job.spec.backoff_limit (pods_failed job own) h in let all = failed-counted in omega (arith, more, all)))
