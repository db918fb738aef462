-- What the two statuses of a sync hold.
use Rattle.std.proofs.Common.{◌≡◌, ◌≢◌, ◌⊎◌, inl, inr, ℕ, ◌+◌, Bool, true, false, not, ◌&&◌, ◌||◌, List, [], ◌∷◌, Option, Some, None, is_some, refl, sym, ap, ◌∙◌, true≢false, arith}
use Rattle.std.specs.List.{Contains, list_any}
use Rattle.std.proofs.lemmas.Bool.{or_left, or_right}
use Rattle.jc_types.specs.declared.numbers.Uid.{Uid}
use Rattle.jc_types.specs.declared.objects.Job.{Job}
use Rattle.jc_types.specs.declared.objects.Pod.{Pod}
use Rattle.jc_types.specs.declared.policies.Action.TheVariants.{FailJob}
use Rattle.jc_types.specs.declared.policies.FailurePolicy.{FailurePolicy}
use Rattle.jc_types.specs.declared.statuses.CondKind.{CondKind}
use Rattle.jc_types.specs.declared.statuses.CondKind.TheVariants.{Suspended, FailureTarget, SuccessCriteriaMet, Failed, Complete}
use Rattle.jc_types.specs.declared.statuses.Condition.{Condition}
use Rattle.jc_types.specs.declared.statuses.Reason.{Reason}
use Rattle.jc_types.specs.declared.statuses.Reason.TheVariants.{PodFailurePolicy}
use Rattle.jc_states.specs.declared.bases.Basis.{Basis}
use Rattle.jc_types.specs.declared.syncs.CountIn.{CountIn}
use Rattle.jc_states.specs.Bases.{own_pods}
use Rattle.jc_states.specs.Conditions.{has_end, has_target, stands}
use Rattle.jc_types.specs.Keys.{same_uid}
use Rattle.jc_states.specs.Pods.{is_open, is_tracked}
use Rattle.jc_states.specs.UidLists.{is_in}
use Rattle.jc_account.specs.Accounts.{counted_in, counted_out, released_of, unreleased}
use Rattle.jc_account.proofs.AccountFacts.{failed-list-empty, succeeded-list-empty}
use Rattle.jc_account.proofs.ListedFacts.{among_passing}
use Rattle.jc_failpol.specs.declared.outcomes.Outcome.TheVariants as outcome
use Rattle.jc_failpol.specs.FailJob.{fails_job}
use Rattle.jc_failpol.specs.Outcomes.{outcome_of}
use Rattle.jc_failpol.specs.Rules.{action_of}
use Rattle.jc_finish.specs.Settled.{is_target_kind}
use Rattle.jc_finish.proofs.DecisionFacts.{failing_pod, failure_decides, found_by_pod}
use Rattle.jc_finish.proofs.SettledFacts.{settled-decided, settled-keeps, settled-not_due}
use Rattle.jc_manage.specs.declared.results.Wants.{Wants}
use Rattle.jc_plan.specs.Releases.{is_released, releases_of}
use Rattle.jc_plan.specs.Statuses.{accounted, completed_at, conditions_at, first_status_of, first_value, decided_in, is_first_due, is_none, is_over, is_second_due, is_end_decided, leaves_none, lists_none, second_status_of, second_value, wants_in}
use Rattle.jc_plan.proofs.Targets.{IsTarget, target-kind}

-- ---- what is counted

module _ (job : Job) (basis : Basis) where
  pub first-failed_list : (first_value job basis).uncounted_failed ≡ (counted_in job basis.pods).uncounted_failed
  unfolding first_value
  first-failed_list = refl

  pub first-succeeded_list : (first_value job basis).uncounted_succeeded ≡ (counted_in job basis.pods).uncounted_succeeded
  unfolding first_value
  first-succeeded_list = refl

  pub first-failed : (first_value job basis).failed ≡ (counted_in job basis.pods).failed
  unfolding first_value
  first-failed = refl

  pub first-succeeded : (first_value job basis).succeeded ≡ (counted_in job basis.pods).succeeded
  unfolding first_value
  first-succeeded = refl

  pub first-completed : (first_value job basis).completed ≡ (counted_in job basis.pods).completed
  unfolding first_value
  first-completed = refl

  pub first-failed_indexes : (first_value job basis).failed_indexes ≡ (accounted job basis).failed_indexes
  unfolding first_value
  first-failed_indexes = refl

  pub first-index_failures : (first_value job basis).index_failures ≡ (accounted job basis).index_failures
  unfolding first_value
  first-index_failures = refl

  pub second-failed_list : (second_value job basis).uncounted_failed ≡ (counted_out (first_value job basis) (counted_in job basis.pods).releases).uncounted_failed
  unfolding first_value second_value
  second-failed_list = refl

  pub second-succeeded_list : (second_value job basis).uncounted_succeeded ≡ (counted_out (first_value job basis) (counted_in job basis.pods).releases).uncounted_succeeded
  unfolding first_value second_value
  second-succeeded_list = refl

  pub second-failed : (second_value job basis).failed ≡ (counted_out (first_value job basis) (counted_in job basis.pods).releases).failed
  unfolding first_value second_value
  second-failed = refl

  pub second-succeeded : (second_value job basis).succeeded ≡ (counted_out (first_value job basis) (counted_in job basis.pods).releases).succeeded
  unfolding first_value second_value
  second-succeeded = refl

  pub second-completed : (second_value job basis).completed ≡ (counted_in job basis.pods).completed
  unfolding second_value counted_out
  second-completed = refl

  pub second-failed_indexes : (second_value job basis).failed_indexes ≡ (accounted job basis).failed_indexes
  unfolding second_value counted_out
  second-failed_indexes = refl

  pub second-index_failures : (second_value job basis).index_failures ≡ (accounted job basis).index_failures
  unfolding second_value counted_out
  second-index_failures = refl

  pub second-lists_none : ((second_value job basis).uncounted_failed ≡ []) × ((second_value job basis).uncounted_succeeded ≡ [])
  second-lists_none = (
    second-failed_list ∙ failed-list-empty job basis.pods (first_value job basis) first-failed_list,
    second-succeeded_list ∙ succeeded-list-empty job basis.pods (first_value job basis) first-succeeded_list,
  )

-- ---- nothing to release

unreleased-none : (uids : List Uid) → unreleased [] uids ≡ uids
unreleased-none [] = refl
unreleased-none (u ∷ uids) = ap (λ (us : List Uid). u ∷ us) (unreleased-none uids)

released-none : (n : ℕ) (uids : List Uid) → n + released_of [] uids ≡ n
released-none n uids = omega (arith, count-none uids)
  where
    count-none : (us : List Uid) → released_of [] us ≡ 0
    count-none [] = refl
    count-none (u ∷ us) = count-none us

-- With nothing to count out, the second status is as the first.
second-same : (now : ℕ) (job : Job) (own : List Pod) (counted : CountIn) (target : Option (CondKind × Reason))
    (wants : Wants) → counted.releases ≡ [] → second_status_of now job own counted target wants
    ≡ first_status_of now job own counted target wants
unfolding counted_out
second-same now job own counted target wants none =
    let us = counted.uncounted_succeeded in
    let uf = counted.uncounted_failed in
    let e_us : unreleased counted.releases us ≡ us = ap (λ (r : List Uid). unreleased r us) none ∙ unreleased-none us in
    let e_uf : unreleased counted.releases uf ≡ uf = ap (λ (r : List Uid). unreleased r uf) none ∙ unreleased-none uf in
    let e_s : counted.succeeded + released_of counted.releases us ≡ counted.succeeded =
    ap (λ (r : List Uid). counted.succeeded + released_of r us) none ∙ released-none counted.succeeded us in
    let e_f : counted.failed + released_of counted.releases uf ≡ counted.failed =
    ap (λ (r : List Uid). counted.failed + released_of r uf) none ∙ released-none counted.failed uf in
    let over = is_over (is_end_decided job target) own counted in
    let e_due : (over && lists_none (unreleased counted.releases us) (unreleased counted.releases uf)) ≡ (over && (is_none counted.releases && lists_none us uf)) =
    ap (λ (vs : List Uid). over && lists_none vs (unreleased counted.releases uf)) e_us
    ∙ ap (λ (vs : List Uid). over && lists_none us vs) e_uf
    ∙ ap (λ (r : List Uid). over && (is_none r && lists_none us uf)) (sym none) in
    λ i. record (first_status_of now job own counted target wants) {
      succeeded = e_s i;
      failed = e_f i;
      uncounted_succeeded = e_us i;
      uncounted_failed = e_uf i;
      completion = completed_at now job.status (conditions_at now job target (e_due i));
      conditions = conditions_at now job target (e_due i);
    }

pub values-same : (job : Job) (basis : Basis) → (counted_in job basis.pods).releases ≡ [] → second_value job basis ≡ first_value job basis
unfolding first_value second_value
values-same job basis none =
    second-same basis.now job (own_pods job basis.pods) (accounted job basis) (decided_in job basis) (wants_in job basis) none

-- ---- releases

pub released-member : (u : Uid) (basis : Basis) → is_in u (releases_of basis) ≡ list_any (λ pod. is_released basis pod && same_uid pod.uid u) basis.pods
released-member u basis = among_passing u (is_released basis) basis.pods

-- ---- targets and ends

module _ (job : Job) (basis : Basis) (kind : CondKind) (proper : kind ≢ Suspended) (stood : stands kind job.status.conditions ≡ true) where
  pub first-keeps : stands kind (first_value job basis).conditions ≡ true
  unfolding first_value
  first-keeps =
      settled-keeps basis.now job.spec.suspend (decided_in job basis) (is_first_due (is_end_decided job (decided_in job basis)) (own_pods job basis.pods) (accounted job basis)) job.status.conditions kind proper stood

  pub second-keeps : stands kind (second_value job basis).conditions ≡ true
  unfolding second_value
  second-keeps =
      settled-keeps basis.now job.spec.suspend (decided_in job basis)
      (is_second_due (is_end_decided job (decided_in job basis)) (own_pods job basis.pods) (accounted job basis)
      (counted_out (first_status_of basis.now job (own_pods job basis.pods) (accounted job basis) (decided_in job basis)
      (wants_in job basis)) (accounted job basis).releases))
      job.status.conditions kind proper stood

-- The end is new only where it is due.
pub new-due : (now : ℕ) (job : Job) (target : Option (CondKind × Reason)) (due : Bool) → IsTarget target → has_end job.status.conditions ≡ false → has_end (conditions_at now job target due) ≡ true → due ≡ true
new-due now job target true is_kind none new = refl
new-due now job target false is_kind none new =
    absurd (true≢false (sym new ∙ settled-not_due now job.spec.suspend target job.status.conditions is_kind ∙ none))

-- What is over has no open pod.
over-closed : (target has none rest : Bool) → ((target && (not has && none)) && rest) ≡ true → has ≡ false
over-closed true false none rest h = refl
over-closed true true none rest h = absurd (true≢false (sym h))
over-closed false has none rest h = absurd (true≢false (sym h))

module _ (job : Job) (basis : Basis) (none : has_end job.status.conditions ≡ false) where
  pub first-closed : has_end (first_value job basis).conditions ≡ true → list_any is_open (own_pods job basis.pods) ≡ false
  unfolding first_value
  first-closed new =
      let own = own_pods job basis.pods in
      let counted = accounted job basis in
      over-closed (is_end_decided job (decided_in job basis)) (list_any is_open own) (leaves_none counted) (is_none counted.releases && lists_none counted.uncounted_succeeded counted.uncounted_failed)
      (new-due basis.now job (decided_in job basis) (is_first_due (is_end_decided job (decided_in job basis)) own counted) (target-kind counted basis.now job own) none new)

  pub second-closed : has_end (second_value job basis).conditions ≡ true → list_any is_open (own_pods job basis.pods) ≡ false
  unfolding second_value
  second-closed new =
      let own = own_pods job basis.pods in
      let counted = accounted job basis in
      let out = counted_out (first_status_of basis.now job own counted (decided_in job basis) (wants_in job basis)) counted.releases in
      over-closed (is_end_decided job (decided_in job basis)) (list_any is_open own) (leaves_none counted) (lists_none out.uncounted_succeeded out.uncounted_failed)
      (new-due basis.now job (decided_in job basis) (is_second_due (is_end_decided job (decided_in job basis)) own counted out) (target-kind counted basis.now job own) none new)

-- ---- the failure policy

no-target : (kind : CondKind) → is_target_kind kind ≡ true → kind ≢ Suspended
no-target kind t e = true≢false (sym t ∙ ap is_target_kind e)

-- A target of the kind stands.
kind-target : (kind : CondKind) (conditions : List Condition) → is_target_kind kind ≡ true → stands kind conditions ≡ true → has_target conditions ≡ true
kind-target FailureTarget conditions t h = or_left (stands FailureTarget conditions) (stands SuccessCriteriaMet conditions) h
kind-target SuccessCriteriaMet conditions t h = or_right (stands FailureTarget conditions) (stands SuccessCriteriaMet conditions) h
kind-target Suspended conditions t h = absurd (true≢false (sym t))
kind-target Failed conditions t h = absurd (true≢false (sym t))
kind-target Complete conditions t h = absurd (true≢false (sym t))

-- A target that stood stands.
target-kept : (now : ℕ) (job : Job) (target : Option (CondKind × Reason)) (due : Bool) → has_target job.status.conditions ≡ true → has_target (conditions_at now job target due) ≡ true
target-kept now job target due h = by (stands FailureTarget job.status.conditions) refl (stands SuccessCriteriaMet job.status.conditions) refl h
  where
    by : (f : Bool) → stands FailureTarget job.status.conditions ≡ f → (s : Bool) → stands SuccessCriteriaMet job.status.conditions ≡ s → (f || s) ≡ true → has_target (conditions_at now job target due) ≡ true
    by true e s i g = kind-target FailureTarget (conditions_at now job target due) refl (settled-keeps now job.spec.suspend target due job.status.conditions FailureTarget (no-target FailureTarget refl) e)
    by false e true i g = kind-target SuccessCriteriaMet (conditions_at now job target due) refl (settled-keeps now job.spec.suspend target due job.status.conditions SuccessCriteriaMet (no-target SuccessCriteriaMet refl) i)
    by false e false i g = absurd (true≢false (sym g))

-- Where how the Job ends is decided, a target stands.
pub settled-target : (now : ℕ) (job : Job) (target : Option (CondKind × Reason)) (due : Bool) → IsTarget target → is_end_decided job target ≡ true → has_target (conditions_at now job target due) ≡ true
settled-target now job (Some target) due t h =
    kind-target target.0 (conditions_at now job (Some target) due) t (settled-decided now job.spec.suspend target due job.status.conditions)
settled-target now job None due t h = by (has_target job.status.conditions) refl h
  where
    by : (b : Bool) → has_target job.status.conditions ≡ b → (b || false) ≡ true → has_target (conditions_at now job None due) ≡ true
    by true e g = target-kept now job None due e
    by false e g = absurd (true≢false (sym g))

pub first-fails : (job : Job) (basis : Basis) (pod : Pod) → Contains (own_pods job basis.pods) pod → is_tracked pod ≡ true → fails_job job.spec pod ≡ true → has_target (first_value job basis).conditions ≡ true
unfolding first_value
first-fails job basis pod there tracked fails =
    let own = own_pods job basis.pods in
    let counted = accounted job basis in
    settled-target basis.now job (decided_in job basis) (is_first_due (is_end_decided job (decided_in job basis)) own counted)
    (target-kind counted basis.now job own) (settles (failure_decides counted basis.now job own (found_by_pod job.spec own pod there tracked fails)))
  where
    settles : (has_target job.status.conditions ≡ true) ⊎ (decided_in job basis ≡ Some (FailureTarget, PodFailurePolicy)) → is_end_decided job (decided_in job basis) ≡ true
    settles (inl e) = or_left (has_target job.status.conditions) (is_some (decided_in job basis)) e
    settles (inr e) = or_right (has_target job.status.conditions) (is_some (decided_in job basis)) (ap (λ (o : Option (CondKind × Reason)). is_some o) e)

pub policy-fails : (job : Job) (basis : Basis) (policy : FailurePolicy) (pod : Pod)
    → Contains (own_pods job basis.pods) pod → is_tracked pod ≡ true → outcome_of job.spec pod ≡ outcome.Failed
    → job.spec.failure ≡ Some policy → action_of policy pod ≡ FailJob → has_target (first_value job basis).conditions
    ≡ true
policy-fails job basis policy pod there tracked failed has_policy action =
    first-fails job basis pod there tracked (failing_pod job.spec policy pod failed has_policy action)
