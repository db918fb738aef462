-- What a plan makes at most, and what it does at and after the end of its Job.
use Rattle.std.proofs.Common.{ℕ, ◌≡◌, ◌+◌, ◌<◌, ◌≤◌, Bool, true, false, cond, not, ◌&&◌, ◌||◌, List, [], ◌∷◌, length, filter, map, Option, Some, None, unwrap_or, is_some, is_none as is_none_of, refl, sym, ap, ◌∙◌, subst, true≢false, arith}
use Rattle.std.specs.List.{All, list_any}
use Rattle.std.proofs.lemmas.Bool.{and_parts, or_left}
use Rattle.std.proofs.lemmas.List.{nil_from_length}
use Rattle.jc_types.specs.declared.numbers.Uid.{Uid}
use Rattle.jc_types.specs.declared.objects.Job.{Job}
use Rattle.jc_types.specs.declared.objects.Pod.{Pod}
use Rattle.jc_types.specs.declared.specifications.Mode.{Mode}
use Rattle.jc_types.specs.declared.specifications.Mode.TheVariants.{NonIndexed, Indexed}
use Rattle.jc_types.specs.declared.specifications.Replacement.TheVariants.{FailedOnly}
use Rattle.jc_types.specs.declared.statuses.CondKind.{CondKind}
use Rattle.jc_types.specs.declared.statuses.CondKind.TheVariants.{Suspended, Complete}
use Rattle.jc_types.specs.declared.statuses.Condition.{Condition}
use Rattle.jc_types.specs.declared.statuses.IndexCount.{IndexCount}
use Rattle.jc_types.specs.declared.statuses.JobStatus.{JobStatus}
use Rattle.jc_types.specs.declared.statuses.Reason.{Reason}
use Rattle.jc_states.specs.declared.bases.Basis.{Basis}
use Rattle.jc_types.specs.declared.syncs.CountIn.{CountIn}
use Rattle.jc_states.specs.Bases.{own_pods}
use Rattle.jc_states.specs.Conditions.{has_end, has_target, stands}
use Rattle.jc_states.specs.Pods.{is_active, is_marked, is_open, is_tracked, is_ready, active_pods, ending_pods, tracked_active_pods}
use Rattle.jc_types.specs.Equality.{same_bool}
use Rattle.jc_states.specs.UidLists.{merge, uids_of}
use Rattle.jc_account.specs.Accounts.{counted_in, counted_out, completed_in, left}
use Rattle.jc_account.specs.Judged.{fits, is_candidate, is_to_release, newly, stayed, to_release}
use Rattle.jc_account.specs.Modes.{completed_after, listing, succeeded_after}
use Rattle.jc_failpol.specs.declared.outcomes.Outcome.{Outcome}
use Rattle.jc_failpol.specs.declared.outcomes.Outcome.TheVariants as outcome
use Rattle.jc_failpol.specs.Outcomes.{outcome_of, same_outcome}
use Rattle.jc_finish.proofs.DecisionFacts.{decided_once}
use Rattle.jc_finish.specs.Starts.{start_of}
use Rattle.jc_finish.specs.Settled.{end_of, settled_suspended, suspension, with_end, with_last, with_suspension}
use Rattle.jc_manage.specs.declared.results.Wants.{Wants}
use Rattle.jc_manage.specs.Backoffs.{backoff_after, is_delayed_until, opening}
use Rattle.jc_manage.specs.Creations.{IsIndexFor, creatable}
use Rattle.jc_manage.proofs.Bounds.{creatable-fit, creatable-fit_ending, creates-few}
use Rattle.jc_manage.proofs.Numbered.{creatable-numbered, creates-numbered}
use Rattle.jc_perindex.specs.Failures.{failing_by, failing_in, failures_by, failures_in, has_failed, newly_failed, raised}
use Rattle.jc_perindex.proofs.Raised.{none-raised}
use Rattle.jc_plan.specs.PodNumbers.{active_after, ending_after, keeps_on, ready_after}
use Rattle.jc_plan.specs.Plans.{planned, planned_for}
use Rattle.jc_plan.specs.declared.plans.Planned.{Planned}
use Rattle.jc_plan.specs.Statuses.{accounted, completed_at, conditions_at, first_value, decided_in, is_first_due, is_none, is_over, is_second_due, is_end_decided, leaves_none, lists_none, second_value, wants_in, first_status_of}
use Rattle.jc_plan.proofs.Targets.{target-kind}
use Rattle.jc_plan.proofs.Going.{going-active}
use Rattle.jc_plan.proofs.NextFacts.{changed-none}
use Rattle.jc_plan.proofs.ValueFacts.{first-closed, new-due, second-closed, second-lists_none, settled-target, values-same}
use Rattle.jc_plan.specs.Finishes.{HasFinished, Idles, IsFinalStatus, IsIdle, HasIndexTotals, LeavesNoPod}

-- ---- creations fit

module _ (job : Job) (basis : Basis) where
  few : length (wants_in job basis).creates ≤ length (creatable (is_end_decided job (decided_in job basis)) job (own_pods job basis.pods) (accounted job basis))
  few =
      creates-few (opening (backoff_after basis.backoff (accounted job basis) basis.now)) basis.now
      (creatable (is_end_decided job (decided_in job basis)) job (own_pods job basis.pods) (accounted job basis))

  pub creates-fit : 0 < length (wants_in job basis).creates → length (wants_in job basis).creates + length (tracked_active_pods (own_pods job basis.pods)) ≤ job.spec.parallelism
  creates-fit some =
      omega (
        arith,
        few,
        creatable-fit (is_end_decided job (decided_in job basis)) job (own_pods job basis.pods) (accounted job basis) (omega (arith, some, few)),
      )

  pub creates-fit_ending : 0 < length (wants_in job basis).creates → job.spec.replacement ≡ FailedOnly
      → length (wants_in job basis).creates + length (tracked_active_pods (own_pods job basis.pods)) + length
      (ending_pods (own_pods job basis.pods)) ≤ job.spec.parallelism
  creates-fit_ending some only =
      omega (
        arith,
        few,
        creatable-fit_ending (is_end_decided job (decided_in job basis)) job (own_pods job basis.pods) (accounted job basis) only (omega (arith, some, few)),
      )

  pub plan-numbered : All (IsIndexFor job) (wants_in job basis).creates
  plan-numbered =
      creates-numbered job (opening (backoff_after basis.backoff (accounted job basis) basis.now)) basis.now
      (creatable (is_end_decided job (decided_in job basis)) job (own_pods job basis.pods) (accounted job basis))
      (creatable-numbered (is_end_decided job (decided_in job basis)) job (own_pods job basis.pods) (accounted job basis))

-- ---- no pod is open

-- What passes one test passes the other, and none passes that.
pub none-passes : {A : Type 0} (f g : A → Bool) → ((x : A) → f x ≡ true → g x ≡ true) → (xs : List A) → list_any g xs ≡ false → filter f xs ≡ []
none-passes f g imp [] h = refl
none-passes f g imp (x ∷ xs) h = by (none-passes f g imp xs) (f x) refl (g x) refl h
  where
    by : (list_any g xs ≡ false → filter f xs ≡ []) → (a : Bool) → f x ≡ a → (b : Bool) → g x ≡ b → (b || list_any g xs) ≡ false → cond a (x ∷ filter f xs) (filter f xs) ≡ []
    by ih a e true i h = absurd (true≢false h)
    by ih true e false i h = absurd (true≢false (sym (imp x e) ∙ i))
    by ih false e false i h = ih h

-- A filter whose test none passes leaves nothing.
pub none-length : {A : Type 0} (test : A → Bool) (xs : List A) → list_any test xs ≡ false → length (filter test xs) ≡ 0
none-length test xs h = ap length (none-passes test test (λ x e. e) xs h)

module _ (own : List Pod) (closed : list_any is_open own ≡ false) where
  active-none : active_pods own ≡ []
  active-none = none-passes is_active is_open (λ p h. (and_parts (is_open p) (not (is_marked p)) h).0) own closed

  ending-none : ending_pods own ≡ []
  ending-none = none-passes (λ p. is_open p && is_marked p) is_open (λ p h. (and_parts (is_open p) (is_marked p) h).0) own closed

  ready-none : (wants : Wants) → ready_after wants own ≡ 0
  ready-none wants =
      ap length (none-passes (λ p. is_ready p && keeps_on wants p) is_open
      (λ p h. (and_parts (is_open p) (not (is_marked p)) (and_parts (is_active p) _ (and_parts (is_ready p) (keeps_on wants p) h).0).0).0) own closed)

module _ (job : Job) (basis : Basis) (closed : list_any is_open (own_pods job basis.pods) ≡ false) where
  going : length (wants_in job basis).marks + length (wants_in job basis).let_goes ≤ length (active_pods (own_pods job basis.pods))
  going = going-active (is_end_decided job (decided_in job basis)) job (own_pods job basis.pods) (accounted job basis)

  no-active : length (active_pods (own_pods job basis.pods)) ≡ 0
  no-active = ap length (active-none (own_pods job basis.pods) closed)

  pub marks-none : (wants_in job basis).marks ≡ []
  marks-none = nil_from_length _ (omega (arith, going, no-active))

  pub let_goes-none : (wants_in job basis).let_goes ≡ []
  let_goes-none = nil_from_length _ (omega (arith, going, no-active))

  module _ (made : (wants_in job basis).creates ≡ []) where
    no-made : length (wants_in job basis).creates ≡ 0
    no-made = ap length made

    pub active-zero : active_after (wants_in job basis) (own_pods job basis.pods) ≡ 0
    active-zero = omega (arith, no-active, no-made)

  pub ending-zero : ending_after (wants_in job basis) (own_pods job basis.pods) ≡ 0
  ending-zero =
      let e : length (ending_pods (own_pods job basis.pods)) ≡ 0 = ap length (ending-none (own_pods job basis.pods) closed) in
      omega (arith, e, going, no-active)

-- ---- a Job whose end is decided makes no pod

settled-creates : (job : Job) (basis : Basis) → is_end_decided job (decided_in job basis) ≡ true → (wants_in job basis).creates ≡ []
settled-creates job basis target = by (is_delayed_until (opening (backoff_after basis.backoff (accounted job basis) basis.now)) basis.now) (is_end_decided job (decided_in job basis)) target
  where
    by : (b t : Bool) → t ≡ true → cond b [] (creatable t job (own_pods job basis.pods) (accounted job basis)) ≡ []
    by true t h = refl
    by false true h = refl
    by false false h = absurd (true≢false (sym h))

-- ---- a new end

is-none : (uids : List Uid) → is_none uids ≡ true → uids ≡ []
is-none [] h = refl
is-none (u ∷ uids) h = absurd (true≢false (sym h))

over-left : (settled : Bool) (own : List Pod) (counted : CountIn) → is_over settled own counted ≡ true → leaves_none counted ≡ true
over-left settled own counted over = (and_parts (not (list_any is_open own)) (leaves_none counted) (and_parts settled (not (list_any is_open own) && leaves_none counted) over).1).1

module _ (job : Job) (basis : Basis) (none : has_end job.status.conditions ≡ false) where
  module _ (new : has_end (first_value job basis).conditions ≡ true) where
    first-due : is_first_due (is_end_decided job (decided_in job basis)) (own_pods job basis.pods) (accounted job basis) ≡ true
    unfolding first_value
    first-due = new-due basis.now job (decided_in job basis) _ (target-kind (accounted job basis) basis.now job (own_pods job basis.pods)) none new

    first-over : is_over (is_end_decided job (decided_in job basis)) (own_pods job basis.pods) (accounted job basis) ≡ true
    first-over = (and_parts (is_over (is_end_decided job (decided_in job basis)) (own_pods job basis.pods) (accounted job basis)) _ first-due).0

    first-settled : is_end_decided job (decided_in job basis) ≡ true
    first-settled = (and_parts _ _ first-over).0

    first-clear : (is_none (accounted job basis).releases && lists_none (accounted job basis).uncounted_succeeded (accounted job basis).uncounted_failed) ≡ true
    first-clear = (and_parts (is_over (is_end_decided job (decided_in job basis)) (own_pods job basis.pods) (accounted job basis)) _ first-due).1

    pub first-released : (accounted job basis).releases ≡ []
    first-released = is-none _ (and_parts _ _ first-clear).0

    pub first-wound : LeavesNoPod job basis
    first-wound = record {
      closed = first-closed job basis none new;
      left = over-left (is_end_decided job (decided_in job basis)) (own_pods job basis.pods) (accounted job basis) first-over;
      creates = settled-creates job basis first-settled;
    }

    pub first-rests : IsFinalStatus (first_value job basis)
    unfolding first_value
    first-rests = record {
      target = settled-target basis.now job (decided_in job basis) _ (target-kind (accounted job basis) basis.now job (own_pods job basis.pods)) first-settled;
      failed_list = is-none _ (and_parts (is_none (accounted job basis).uncounted_succeeded) _ (and_parts (is_none (accounted job basis).releases) _ first-clear).1).1;
      succeeded_list = is-none _ (and_parts _ _ (and_parts (is_none (accounted job basis).releases) _ first-clear).1).0;
      active = active-zero job basis first-wound.closed first-wound.creates;
      ready = ready-none (own_pods job basis.pods) first-wound.closed (wants_in job basis);
      terminating = ending-zero job basis first-wound.closed;
    }

    pub first-same : second_value job basis ≡ first_value job basis
    first-same = values-same job basis first-released

  module _ (new : has_end (second_value job basis).conditions ≡ true) where
    out : JobStatus
    out = counted_out (first_status_of basis.now job (own_pods job basis.pods) (accounted job basis) (decided_in job basis) (wants_in job basis)) (accounted job basis).releases

    second-due : is_second_due (is_end_decided job (decided_in job basis)) (own_pods job basis.pods) (accounted job basis)
        (counted_out (first_status_of basis.now job (own_pods job basis.pods) (accounted job basis)
        (decided_in job basis) (wants_in job basis)) (accounted job basis).releases) ≡ true
    unfolding second_value
    second-due = new-due basis.now job (decided_in job basis) _ (target-kind (accounted job basis) basis.now job (own_pods job basis.pods)) none new

    second-over : is_over (is_end_decided job (decided_in job basis)) (own_pods job basis.pods) (accounted job basis) ≡ true
    second-over = (and_parts (is_over (is_end_decided job (decided_in job basis)) (own_pods job basis.pods) (accounted job basis)) _ second-due).0

    second-settled : is_end_decided job (decided_in job basis) ≡ true
    second-settled = (and_parts _ _ second-over).0

    pub second-wound : LeavesNoPod job basis
    second-wound = record {
      closed = second-closed job basis none new;
      left = over-left (is_end_decided job (decided_in job basis)) (own_pods job basis.pods) (accounted job basis) second-over;
      creates = settled-creates job basis second-settled;
    }

    second-target : has_target (second_value job basis).conditions ≡ true
    unfolding second_value
    second-target = settled-target basis.now job (decided_in job basis) _ (target-kind (accounted job basis) basis.now job (own_pods job basis.pods)) second-settled

    second-numbers : ((second_value job basis).active ≡ 0) × ((second_value job basis).ready ≡ 0) × ((second_value job basis).terminating ≡ 0)
    unfolding second_value counted_out
    second-numbers = (active-zero job basis second-wound.closed second-wound.creates, ready-none (own_pods job basis.pods) second-wound.closed (wants_in job basis), ending-zero job basis second-wound.closed)

    pub second-rests : IsFinalStatus (second_value job basis)
    second-rests = record {
      target = second-target;
      failed_list = (second-lists_none job basis).0;
      succeeded_list = (second-lists_none job basis).1;
      active = second-numbers.0;
      ready = second-numbers.1;
      terminating = second-numbers.2;
    }

-- ---- after an end

none-tracked : (job : Job) (own : List Pod) (outcome : Outcome) → list_any is_tracked own ≡ false → newly job own outcome ≡ []
none-tracked job own outcome none =
    ap (λ pods. filter (λ (pod : Pod). same_outcome (outcome_of job.spec pod) outcome) (filter (fits job own) pods))
    (none-passes (is_candidate job) is_tracked (λ p h. (and_parts (is_tracked p) _ h).0) own none)

release-none : (job : Job) (own : List Pod) → list_any is_tracked own ≡ false → to_release job own ≡ []
release-none job own = none-passes (is_to_release job own) is_tracked (λ p h. (and_parts (is_tracked p) _ h).0) own

stays-empty : (own : List Pod) (uids : List Uid) → uids ≡ [] → stayed own uids ≡ []
stays-empty own uids h = ap (stayed own) h

leaves-none : (own : List Pod) (uids : List Uid) → uids ≡ [] → left own uids ≡ 0
leaves-none own uids h = ap (left own) h

module _ (job : Job) (basis : Basis) (rests : IsFinalStatus job.status) (neat : HasIndexTotals job) (closed : list_any is_open (own_pods job basis.pods) ≡ false) (untracked : list_any is_tracked (own_pods job basis.pods) ≡ false)
    (end : has_end job.status.conditions ≡ true) where
  idle-completed : completed_in job (own_pods job basis.pods) ≡ job.status.completed
  idle-completed =
      ap (λ e. completed_after job.spec.mode e (unwrap_or job.spec.completions 0) job.status.completed (newly job (own_pods job basis.pods) outcome.Succeeded)) end
      ∙ by job.spec.mode (newly job (own_pods job basis.pods) outcome.Succeeded) (none-tracked job (own_pods job basis.pods) outcome.Succeeded untracked)
    where
      by : (mode : Mode) (new : List Pod) → new ≡ [] → completed_after mode true (unwrap_or job.spec.completions 0) job.status.completed new ≡ job.status.completed
      by NonIndexed new e = refl
      by Indexed new e = ap (completed_after Indexed true (unwrap_or job.spec.completions 0) job.status.completed) e

  idle-counted : counted_in job basis.pods ≡ record {
    uncounted_succeeded = [];
    uncounted_failed = [];
    succeeded = job.status.succeeded;
    failed = job.status.failed;
    completed = job.status.completed;
    failed_indexes = [];
    index_failures = [];
    releases = [];
    new_succeeded = (counted_in job basis.pods).new_succeeded;
    new_failed = (counted_in job basis.pods).new_failed;
    judged_failed = [];
    left_succeeded = (counted_in job basis.pods).left_succeeded;
    left_failed = (counted_in job basis.pods).left_failed;
  }
  unfolding counted_in
  idle-counted = λ i. record {
    uncounted_succeeded = us i;
    uncounted_failed = uf i;
    succeeded = total i;
    failed = fails i;
    completed = idle-completed i;
    failed_indexes = [];
    index_failures = [];
    releases = ap (map (λ (p : Pod). p.uid)) (release-none job (own_pods job basis.pods) untracked) i;
    new_succeeded = (counted_in job basis.pods).new_succeeded;
    new_failed = (counted_in job basis.pods).new_failed;
    judged_failed = ap uids_of (none-tracked job (own_pods job basis.pods) outcome.Failed untracked) i;
    left_succeeded = (counted_in job basis.pods).left_succeeded;
    left_failed = (counted_in job basis.pods).left_failed;
  }
    where
      own : List Pod
      own = own_pods job basis.pods

      us : merge (stayed (own_pods job basis.pods) job.status.uncounted_succeeded) (listing job.spec.mode (newly job (own_pods job basis.pods) outcome.Succeeded)) ≡ []
      us = by job.spec.mode (stayed (own_pods job basis.pods) job.status.uncounted_succeeded)
          (stays-empty (own_pods job basis.pods) job.status.uncounted_succeeded rests.succeeded_list)
          (newly job (own_pods job basis.pods) outcome.Succeeded)
          (none-tracked job (own_pods job basis.pods) outcome.Succeeded untracked)
        where
          by : (mode : Mode) (old : List Uid) → old ≡ [] → (new : List Pod) → new ≡ [] → merge old (listing mode new) ≡ []
          by NonIndexed old e new f = ap (λ (us : List Uid). merge us (listing NonIndexed new)) e ∙ ap (λ (ps : List Pod). merge [] (listing NonIndexed ps)) f
          by Indexed old e new f = e

      uf : merge (stayed (own_pods job basis.pods) job.status.uncounted_failed) (uids_of (newly job (own_pods job basis.pods) outcome.Failed)) ≡ []
      uf =
          ap (λ (us : List Uid). merge us (uids_of (newly job (own_pods job basis.pods) outcome.Failed))) (stays-empty (own_pods job basis.pods) job.status.uncounted_failed rests.failed_list)
          ∙ ap (λ (ps : List Pod). merge [] (uids_of ps)) (none-tracked job (own_pods job basis.pods) outcome.Failed untracked)

      fails : job.status.failed + left (own_pods job basis.pods) job.status.uncounted_failed ≡ job.status.failed
      fails = omega (arith, leaves-none (own_pods job basis.pods) job.status.uncounted_failed rests.failed_list)

      total : succeeded_after job.spec.mode (job.status.succeeded + left (own_pods job basis.pods) job.status.uncounted_succeeded) (completed_in job (own_pods job basis.pods)) ≡ job.status.succeeded
      total = by job.spec.mode refl
        where
          by : (mode : Mode) → job.spec.mode ≡ mode → succeeded_after mode (job.status.succeeded + left (own_pods job basis.pods) job.status.uncounted_succeeded) (completed_in job (own_pods job basis.pods)) ≡ job.status.succeeded
          by NonIndexed e = omega (arith, leaves-none (own_pods job basis.pods) job.status.uncounted_succeeded rests.succeeded_list)
          by Indexed e = ap length idle-completed ∙ sym (neat.size e)

  settled : is_end_decided job (decided_in job basis) ≡ true
  settled = or_left (has_target job.status.conditions) (is_some (decided_in job basis)) rests.target

  idle-judged : (counted_in job basis.pods).judged_failed ≡ []
  idle-judged = ap (λ (c : CountIn). c.judged_failed) idle-counted

  -- The failed indexes of a Job that has ended stay.
  idle-failing : (accounted job basis).failed_indexes ≡ job.status.failed_indexes
  unfolding failing_in
  idle-failing = by job.spec.per_index refl
    where
      by : (o : Option ℕ) → job.spec.per_index ≡ o → failing_by o job (counted_in job basis.pods).completed (newly_failed (own_pods job basis.pods) (counted_in job basis.pods).judged_failed) ≡ job.status.failed_indexes
      by None at = sym (neat.failing at).0
      by (Some limit) at =
          ap (λ e. cond e job.status.failed_indexes
          (map (λ (count : IndexCount). count.index)
          (filter (has_failed limit (unwrap_or job.spec.completions 0) (counted_in job basis.pods).completed)
          (raised job.spec.failure job.status.index_failures
          (newly_failed (own_pods job basis.pods) (counted_in job basis.pods).judged_failed))))) end

  -- No index has one failure more.
  idle-failures : (accounted job basis).index_failures ≡ job.status.index_failures
  unfolding failures_in
  idle-failures = by job.spec.per_index refl
    where
      none : (own : List Pod) → newly_failed own [] ≡ []
      none [] = refl
      none (pod ∷ own) = none own

      by : (o : Option ℕ) → job.spec.per_index ≡ o → failures_by o job (newly_failed (own_pods job basis.pods) (counted_in job basis.pods).judged_failed) ≡ job.status.index_failures
      by None at = sym (neat.failing at).1
      by (Some limit) at =
          ap (λ us. raised job.spec.failure job.status.index_failures (newly_failed (own_pods job basis.pods) us)) idle-judged
          ∙ ap (raised job.spec.failure job.status.index_failures) (none (own_pods job basis.pods))
          ∙ none-raised job.spec.failure job.status.index_failures neat.ascending

  pub idle-creates : (wants_in job basis).creates ≡ []
  idle-creates = settled-creates job basis settled

  pub idle-releases : (counted_in job basis.pods).releases ≡ []
  idle-releases = ap (λ (c : CountIn). c.releases) idle-counted

  decided-none : decided_in job basis ≡ None
  decided-none = decided_once (accounted job basis) basis.now job (own_pods job basis.pods) rests.target

  same-start : start_of basis.now job.spec job.status ≡ job.status.start
  same-start = by job.spec.suspend (has_target job.status.conditions) rests.target
    where
      by : (s t : Bool) → t ≡ true → cond (not s && (not (t || has_end job.status.conditions) && (is_none_of job.status.start || stands Suspended job.status.conditions))) (Some basis.now) job.status.start ≡ job.status.start
      by true t e = refl
      by false true e = refl
      by false false e = absurd (true≢false (sym e))

  same-conditions : (due : Bool) → conditions_at basis.now job (decided_in job basis) due ≡ job.status.conditions
  same-conditions due =
      ap (λ (g : Option (CondKind × Reason)). conditions_at basis.now job g due) decided-none
      ∙ ap (λ (cs : List Condition). with_end basis.now due cs) suspended ∙ ended due (has_end job.status.conditions) end
    where
      suspended : settled_suspended basis.now job.spec.suspend false job.status.conditions ≡ job.status.conditions
      suspended = by (has_target job.status.conditions) (same_bool job.spec.suspend (stands Suspended job.status.conditions)) rests.target
        where
          by : (t s : Bool) → t ≡ true → cond (t || s) job.status.conditions (with_suspension (suspension basis.now job.spec.suspend) job.status.conditions) ≡ job.status.conditions
          by true s e = refl
          by false s e = absurd (true≢false (sym e))

      ended : (due e : Bool) → e ≡ true → cond (due && not e) (with_last (end_of basis.now job.status.conditions) job.status.conditions) job.status.conditions ≡ job.status.conditions
      ended true true h = refl
      ended false e h = refl
      ended true false h = absurd (true≢false (sym h))

  same-completion : (cs : List Condition) → completed_at basis.now job.status cs ≡ job.status.completion
  same-completion cs = by (stands Complete cs) (has_end job.status.conditions) end
    where
      by : (s e : Bool) → e ≡ true → cond (s && not e) (Some basis.now) job.status.completion ≡ job.status.completion
      by true true h = refl
      by false e h = refl
      by true false h = absurd (true≢false (sym h))

  pub idle-first : first_value job basis ≡ job.status
  unfolding first_value
  idle-first = λ i. record {
    active = (active-zero job basis closed idle-creates ∙ sym rests.active) i;
    ready = (ready-none (own_pods job basis.pods) closed (wants_in job basis) ∙ sym rests.ready) i;
    terminating = (ending-zero job basis closed ∙ sym rests.terminating) i;
    succeeded = (idle-counted i).succeeded;
    failed = (idle-counted i).failed;
    completed = (idle-counted i).completed;
    failed_indexes = idle-failing i;
    index_failures = idle-failures i;
    uncounted_succeeded = (ap (λ (c : CountIn). c.uncounted_succeeded) idle-counted ∙ sym rests.succeeded_list) i;
    uncounted_failed = (ap (λ (c : CountIn). c.uncounted_failed) idle-counted ∙ sym rests.failed_list) i;
    start = same-start i;
    completion = same-completion (conditions_at basis.now job (decided_in job basis) (is_first_due (is_end_decided job (decided_in job basis)) (own_pods job basis.pods) (accounted job basis))) i;
    conditions = same-conditions (is_first_due (is_end_decided job (decided_in job basis)) (own_pods job basis.pods) (accounted job basis)) i;
  }

  pub idle-second : second_value job basis ≡ first_value job basis
  idle-second = values-same job basis idle-releases

pub idle-plan : (job : Job) (basis : Basis) → basis.job ≡ Some job → HasFinished job basis → IsIdle basis
unfolding planned
idle-plan job basis this done = subst (λ (p : Planned). Idles p) (ap (planned_for basis) (sym this)) record {
  creates = idle-creates job basis done.final done.totals done.closed done.untracked done.ended;
  marks = marks-none job basis done.closed;
  let_goes = let_goes-none job basis done.closed;
  first = changed-none job.status (first_value job basis) (sym (idle-first job basis done.final done.totals done.closed done.untracked done.ended));
  second = changed-none (first_value job basis) (second_value job basis) (sym (idle-second job basis done.final done.totals done.closed done.untracked done.ended));
}
