-- The backoff that a plan leaves.
use Rattle.std.proofs.Common.{◌≡◌, ℕ, ◌+◌, ◌≤◌, ◌==◌, true, false, not, ◌&&◌, List, [], ◌∷◌, length, Option, Some, None, refl, sym, ap, ◌∙◌, subst, true≢false, arith}
use Rattle.std.specs.List.{AllByRecursion as Each, list_any}
use Rattle.std.proofs.lemmas.Bool.{and_parts, eq-eqb, or_left, or_right}
use Rattle.std.proofs.lemmas.List.Sums.{length-filter}
use Rattle.jc_ranges.specs.Sets.{has}
use Rattle.jc_types.specs.declared.numbers.Uid.{Uid}
use Rattle.jc_types.specs.declared.objects.Job.{Job}
use Rattle.jc_types.specs.declared.objects.Pod.{Pod}
use Rattle.jc_types.specs.declared.specifications.Mode.{Mode}
use Rattle.jc_types.specs.declared.specifications.Mode.TheVariants.{NonIndexed, Indexed}
use Rattle.jc_types.specs.declared.statuses.JobStatus.{JobStatus}
use Rattle.jc_types.specs.declared.syncs.Backoff.{Backoff}
use Rattle.jc_states.specs.declared.bases.Basis.{Basis}
use Rattle.jc_types.specs.Keys.{same_uid}
use Rattle.jc_types.proofs.KeyFacts.{same_uid-itself}
use Rattle.jc_types.proofs.ListFacts.{Each-weaker, filter_none}
use Rattle.jc_states.specs.Bases.{own_pods}
use Rattle.jc_states.specs.Listed.{is_listed}
use Rattle.jc_states.specs.UidLists.{is_in, uids_of}
use Rattle.jc_account.specs.Accounts.{counted_in}
use Rattle.jc_account.specs.Judged.{fits, has_come_to, newly}
use Rattle.jc_account.specs.Modes.{gained}
use Rattle.jc_account.proofs.AccountFacts.{failed-in, few-failed, new-failed, new-indexes, new-succeeded, newly-member, succeeded-in}
use Rattle.jc_failpol.specs.declared.outcomes.Outcome.{Outcome}
use Rattle.jc_failpol.specs.declared.outcomes.Outcome.TheVariants as outcome
use Rattle.jc_failpol.specs.Outcomes.{is_verdict}
use Rattle.jc_manage.proofs.Failures.{backoff-left, failures-few, failures-last}
use Rattle.jc_plan.specs.Plans.{IsDated, planned}
use Rattle.jc_plan.specs.Statuses.{first_value}
use Rattle.jc_plan.proofs.NextFacts.{changed-same}
use Rattle.jc_plan.proofs.PartFacts.{planned-here}
use Rattle.jc_plan.proofs.PlanFacts.{plan-backoff, plan-first}
use Rattle.jc_plan.proofs.ValueFacts.{first-completed, first-failed_list, first-succeeded_list}

-- ---- where the lists stay, nothing new is counted

-- None is judged where each that is judged would be in a list of the status already.
none-judged : (job : Job) (own : List Pod) (o : Outcome) (uids : List Uid) → is_verdict o ≡ true → ((u : Uid) → is_in u uids ≡ true → is_listed job.status u ≡ true)
    → ((u : Uid) → is_in u (uids_of (newly job own o)) ≡ true → is_in u uids ≡ true) → length (newly job own o) ≡ 0
none-judged job own o uids verdict listed within = by (newly job own o) refl
  where
    by : (new : List Pod) → newly job own o ≡ new → length (newly job own o) ≡ 0
    by [] e = ap length e
    by (p ∷ new) e = absurd (true≢false (sym unlisted ∙ ap not (listed p.uid (within p.uid there))))
      where
        there : is_in p.uid (uids_of (newly job own o)) ≡ true
        there = ap (λ (pods : List Pod). is_in p.uid (uids_of pods)) e ∙ or_left (same_uid p.uid p.uid) (is_in p.uid (uids_of new)) (same_uid-itself p.uid)

        unlisted : not (is_listed job.status p.uid) ≡ true
        unlisted =
            (and_parts (not (is_listed job.status p.uid)) (list_any (λ pod. (has_come_to job o pod && fits job own pod) && same_uid pod.uid p.uid) own)
            (sym (newly-member p.uid job own o verdict) ∙ there)).0

-- Each number of the first list is in the second, where all its members are.
each-has : (xs ys : List ℕ) → ((n : ℕ) → has n xs ≡ true → has n ys ≡ true) → Each (λ n. has n ys ≡ true) xs
each-has [] ys h = tt
each-has (x ∷ xs) ys h =
    (h x (or_left (x == x) (has x xs) (eq-eqb x x refl)), each-has xs ys (λ n e. h n (or_right (x == n) (has n xs) e)))

-- A set has gained nothing over itself.
gained-none : (old new : List ℕ) → new ≡ old → gained old new ≡ 0
gained-none old new e =
    ap (gained old) e ∙ sym (length-filter (λ n. not (has n old)) old)
    ∙ ap length (filter_none (λ n. not (has n old)) old
    (Each-weaker (λ n. has n old ≡ true) (λ n. not (has n old) ≡ false) (λ n h. ap not h) old (each-has old old (λ n h. h))))

module _ (job : Job) (basis : Basis) (stays : first_value job basis ≡ job.status) where
  none-failed : (counted_in job basis.pods).new_failed ≡ 0
  none-failed =
      new-failed job basis.pods
      ∙ none-judged job (own_pods job basis.pods) outcome.Failed job.status.uncounted_failed refl
      (λ u h. or_right (is_in u job.status.uncounted_succeeded) (is_in u job.status.uncounted_failed) h)
      (λ u h. ap (is_in u) (sym (sym (first-failed_list job basis) ∙ ap (λ (s : JobStatus). s.uncounted_failed) stays)) ∙ failed-in u job basis.pods ∙ or_right _ (is_in u (uids_of (newly job (own_pods job basis.pods) outcome.Failed))) h)

  none-succeeded : (counted_in job basis.pods).new_succeeded ≡ 0
  none-succeeded = by job.spec.mode refl
    where
      by : (mode : Mode) → job.spec.mode ≡ mode → (counted_in job basis.pods).new_succeeded ≡ 0
      by Indexed at =
          new-indexes job basis.pods at
          ∙ gained-none job.status.completed (counted_in job basis.pods).completed (sym (first-completed job basis) ∙ ap (λ (s : JobStatus). s.completed) stays)
      by NonIndexed at =
          new-succeeded job basis.pods at
          ∙ none-judged job (own_pods job basis.pods) outcome.Succeeded job.status.uncounted_succeeded refl
          (λ u h. or_left (is_in u job.status.uncounted_succeeded) (is_in u job.status.uncounted_failed) h)
          (λ u h. ap (is_in u) (sym (sym (first-succeeded_list job basis)
          ∙ ap (λ (s : JobStatus). s.uncounted_succeeded) stays)) ∙ succeeded-in u job basis.pods at
          ∙ or_right _ (is_in u (uids_of (newly job (own_pods job basis.pods) outcome.Succeeded))) h)

-- ---- the plan

module _ (basis : Basis) where
  pub plan-failures : (planned basis).backoff.failures ≤ basis.backoff.failures + length basis.pods
  plan-failures = by basis.job refl
    where
      by : (o : Option Job) → basis.job ≡ o → (planned basis).backoff.failures ≤ basis.backoff.failures + length basis.pods
      by None this = subst (λ p. p.backoff.failures ≤ basis.backoff.failures + length basis.pods) (planned-here basis None this) (omega arith)
      by (Some job) this =
          subst (λ (b : Backoff). b.failures ≤ basis.backoff.failures + length basis.pods) (sym (plan-backoff basis job this))
          (omega (
            arith,
            failures-few basis.backoff (counted_in job basis.pods) basis.now,
            few-failed job basis.pods,
          ))

  pub plan-dated : IsDated basis.backoff → IsDated (planned basis).backoff
  plan-dated dated = by basis.job refl
    where
      by : (o : Option Job) → basis.job ≡ o → IsDated (planned basis).backoff
      by None this = subst (λ p. IsDated p.backoff) (planned-here basis None this) dated
      by (Some job) this =
          subst (λ (b : Backoff). IsDated b) (sym (plan-backoff basis job this))
          (failures-last basis.backoff (counted_in job basis.pods) basis.now dated)

-- Where no first status is needed, the first value is the status of the Job, and the backoff stays.
module _ (job : Job) (basis : Basis) (this : basis.job ≡ Some job) (unneeded : (planned basis).first ≡ None) where
  pub first-unneeded : first_value job basis ≡ job.status
  first-unneeded = sym (changed-same job.status (first_value job basis) (sym (plan-first basis job this) ∙ unneeded))

  pub backoff-unneeded : (planned basis).backoff ≡ basis.backoff
  backoff-unneeded =
      plan-backoff basis job this
      ∙ backoff-left basis.backoff (counted_in job basis.pods) basis.now (none-failed job basis first-unneeded) (none-succeeded job basis first-unneeded)
