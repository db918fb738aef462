-- A plan that asks for nothing waits for something.
use Rattle.std.proofs.Common.{◌≡◌, ◌⊎◌, inl, inr, ℕ, zero, suc, ◌+◌, ◌<◌, ◌≤◌, ◌==◌, nat_lt, nat_le, Bool, true, false, cond, not, ◌&&◌, ◌||◌, List, [], ◌∷◌, filter, length, Option, Some, None, IsSome, is_some, unwrap_or, refl, sym, ap}
use Rattle.std.proofs.Common.{◌∙◌, subst, arith, true≢false}
use Rattle.std.specs.List.{list_any}
use Rattle.std.proofs.lemmas.Bool.{eqb-false, leb-false, ltb-false}
use Rattle.jc_moment.specs.Range.{as_moment, end_of_moments}
use Rattle.jc_types.specs.declared.objects.Job.{Job}
use Rattle.jc_types.specs.declared.objects.Pod.{Pod}
use Rattle.jc_types.specs.declared.specifications.Mode.{Mode}
use Rattle.jc_types.specs.declared.specifications.Mode.TheVariants.{NonIndexed, Indexed}
use Rattle.jc_types.specs.declared.specifications.Replacement.{Replacement}
use Rattle.jc_types.specs.declared.specifications.Replacement.TheVariants.{TerminatingOrFailed, FailedOnly}
use Rattle.jc_types.specs.declared.statuses.CondKind.{CondKind}
use Rattle.jc_types.specs.declared.statuses.CondKind.TheVariants.{FailureTarget, SuccessCriteriaMet}
use Rattle.jc_types.specs.declared.statuses.JobStatus.{JobStatus}
use Rattle.jc_types.specs.declared.statuses.Reason.{Reason}
use Rattle.jc_types.specs.declared.statuses.Reason.TheVariants as reason
use Rattle.jc_types.specs.Counts.{counts}
use Rattle.jc_states.specs.declared.bases.Basis.{Basis}
use Rattle.jc_states.specs.Bases.{own_pods}
use Rattle.jc_states.specs.Conditions.{has_end, has_target}
use Rattle.jc_states.specs.Pods.{is_active, is_ending, is_marked, is_open, is_tracked, is_tracked_active, tracked_active_pods}
use Rattle.jc_states.specs.PodLists.{IsRising}
use Rattle.jc_types.specs.ValidSpecs.{IsValidSpec}
use Rattle.jc_account.specs.Accounts.{counted_in, counted_out}
use Rattle.jc_account.specs.Judged.{left_over}
use Rattle.jc_account.proofs.AccountFacts.{empty-in, indexed-total, left-failed, left-succeeded}
use Rattle.jc_failpol.specs.declared.outcomes.Outcome.{Outcome}
use Rattle.jc_failpol.specs.declared.outcomes.Outcome.TheVariants as outcome
use Rattle.jc_failpol.specs.Outcomes.{outcome_of, same_outcome}
use Rattle.jc_finish.specs.Decisions.{first_reason, is_complete, is_enough, is_failed_by_indexes, is_failed_by_pod, is_overdue, is_past_limit, is_past_most, is_policy_met}
use Rattle.jc_finish.proofs.SettledFacts.{settled-ends}
use Rattle.jc_manage.specs.Backoffs.{opening}
use Rattle.jc_manage.specs.Creations.{creatable, creates, free, is_none_of, job_lacks, job_wants, keepers, keeps, lacking, new_pods, next, wanted}
use Rattle.jc_manage.specs.LetGoes.{is_to_mark}
use Rattle.jc_perindex.specs.Failures.{failing_by, failing_in, newly_failed}
use Rattle.jc_plan.specs.Plans.{earlier_of, planned}
use Rattle.jc_plan.specs.Statuses.{accounted, conditions_at, decided_in, first_status_of, first_value, is_second_due, is_end_decided, leaves_none, second_value, wants_in}
use Rattle.jc_plan.specs.Statuses.{is_none as is_none_listed}
use Rattle.jc_plan.proofs.BackoffFacts.{backoff-unneeded, first-unneeded}
use Rattle.jc_plan.proofs.LeftFacts.{none-left}
use Rattle.jc_plan.proofs.NextFacts.{changed-same}
use Rattle.jc_plan.proofs.PartFacts.{planned-here}
use Rattle.jc_plan.proofs.PlanFacts.{plan-backoff, plan-creates, plan-marks, plan-second}
use Rattle.jc_plan.proofs.Targets.{target-kind}
use Rattle.jc_plan.proofs.ValueFacts.{second-lists_none}
use Rattle.jc_idle.specs.Waits.{AsksNothing, HasEnough, Waits, ForActive, ForEnding, ForEver, ForResume, ForRoom}
use Rattle.jc_idle.proofs.Lists.{no-more, none-either, none-mapped, some-replicated, some-taken}
use Rattle.jc_plan.proofs.PlanBounds.{none-length}
use Rattle.jc_idle.proofs.Numbers.{none-free}

-- ---- what is wanted

-- Where the successes and the failed indexes are not as many as completions, some pod is wanted.
wants-some : (parallelism : ℕ) (completions : Option ℕ) (succeeded failed a : ℕ) → 0 < parallelism → is_enough completions succeeded ≡ false
    → ((c : ℕ) → completions ≡ Some c → succeeded + failed < c)
    → 0 < wanted parallelism completions succeeded failed a
wants-some parallelism None succeeded failed a wide few under = by (succeeded == 0) refl
  where
    by : (b : Bool) → (succeeded == 0) ≡ b → 0 < cond b parallelism a
    by true e = wide
    by false e = let zero-it = ltb-false 0 succeeded few in let other = eqb-false succeeded 0 e in absurd (omega (arith, zero-it, other))
wants-some parallelism (Some c) succeeded failed a wide few under = let lt = under c refl in omega (arith, lt, wide)

-- Where none is lacking and none is ending, as many are active as are wanted.
none-lacking : (replacement : Replacement) (w a m : ℕ) → m ≡ 0 → lacking replacement w a m ≡ 0 → w ≤ a
none-lacking TerminatingOrFailed w a m m0 e = omega (arith, e)
none-lacking FailedOnly w a m m0 e = omega (arith, e, m0)

none-wanted : (w a : ℕ) → 0 < w → w ≤ a → a ≡ 0 → ⊥
none-wanted w a some enough none = omega (arith, some, enough, none)

-- No more are wanted than completions are left.
wants-few : (parallelism c succeeded failed a kept : ℕ) → c ≤ succeeded + failed + kept → kept ≤ a → wanted parallelism (Some c) succeeded failed a ≤ a
wants-few parallelism c succeeded failed a kept all le = omega (arith, all, le)

-- Where none of seven lines holds, the fifth and the last do not.
last-lines : {A : Type 0} (a b c d e f g : Bool) (t u v w x y z : A) → cond a (Some t) (cond b (Some u) (cond c (Some v) (cond d (Some w) (cond e (Some x) (cond f (Some y) (cond g (Some z) None)))))) ≡ None → (e ≡ false) × (g ≡ false)
last-lines true b c d e f g t u v w x y z h = absurd (true≢false (ap is_some h))
last-lines false true c d e f g t u v w x y z h = absurd (true≢false (ap is_some h))
last-lines false false true d e f g t u v w x y z h = absurd (true≢false (ap is_some h))
last-lines false false false true e f g t u v w x y z h = absurd (true≢false (ap is_some h))
last-lines false false false false true f g t u v w x y z h = absurd (true≢false (ap is_some h))
last-lines false false false false false true g t u v w x y z h = absurd (true≢false (ap is_some h))
last-lines false false false false false false true t u v w x y z h = absurd (true≢false (ap is_some h))
last-lines false false false false false false false t u v w x y z h = (refl, refl)

-- ---- a Job without end, that may run pods

no-earlier : (a b : Option ℕ) → earlier_of a b ≡ None → a ≡ None
no-earlier None b e = refl
no-earlier (Some m) None e = e
no-earlier (Some m) (Some n) e = by (nat_le m n) e
  where
    by : (t : Bool) → cond t (Some m) (Some n) ≡ None → Some m ≡ None
    by true e = e
    by false e = absurd (true≢false (ap is_some e))

-- What nothing makes is nothing at all, or is delayed for ever.
held : (o : Option ℕ) (now : ℕ) (made : List (Option ℕ)) → creates o now made ≡ [] → next o now made ≡ None → (made ≡ []) ⊎ ((second : ℕ) × (o ≡ Some second) × (end_of_moments ≤ second))
held None now made c n = inl c
held (Some second) now made c n = by (nat_lt now second) c n
  where
    past : (t : Bool) → nat_lt second end_of_moments ≡ t → cond t (Some second) None ≡ None → end_of_moments ≤ second
    past true e h = absurd (true≢false (ap is_some h))
    past false e h = ltb-false second end_of_moments e

    some : (made : List (Option ℕ)) → cond (not (is_none_of made)) (as_moment (Some second)) None ≡ None → (made ≡ []) ⊎ ((s : ℕ) × (Some second ≡ Some s) × (end_of_moments ≤ s))
    some [] h = inl refl
    some (x ∷ xs) h = inr (second, refl, past (nat_lt second end_of_moments) refl h)

    by : (t : Bool) → cond t [] made ≡ [] → cond (t && not (is_none_of made)) (as_moment (Some second)) None ≡ None → (made ≡ []) ⊎ ((s : ℕ) × (Some second ≡ Some s) × (end_of_moments ≤ s))
    by false c n = inl c
    by true c n = some made n

module _ (job : Job) (basis : Basis) (this : basis.job ≡ Some job) (rises : IsRising basis.pods) (valid : IsValidSpec job.spec)
    (unended : has_end job.status.conditions ≡ false) (asks : AsksNothing (planned basis)) where
  first-stays : first_value job basis ≡ job.status
  first-stays = first-unneeded job basis this asks.idles.first

  stays : second_value job basis ≡ job.status
  stays =
      sym (changed-same (first_value job basis) (second_value job basis) (sym (plan-second basis job this) ∙ asks.idles.second))
      ∙ first-stays

  -- So no success is listed before or after it, and no pod is left over.
  unlisted : job.status.uncounted_succeeded ≡ []
  unlisted = ap (λ (s : JobStatus). s.uncounted_succeeded) (sym stays) ∙ (second-lists_none job basis).1

  none-over : left_over job (own_pods job basis.pods) ≡ []
  none-over = none-left job basis this rises asks.idles.first asks.idles.second

  left-none : (o : Outcome) → length (filter (λ (pod : Pod). same_outcome (outcome_of job.spec pod) o) (left_over job (own_pods job basis.pods))) ≡ 0
  left-none o = ap (λ pods. length (filter (λ (pod : Pod). same_outcome (outcome_of job.spec pod) o) pods)) none-over

  leaves : leaves_none (accounted job basis) ≡ true
  leaves =
      let none : (accounted job basis).left_succeeded + (accounted job basis).left_failed ≡ 0 =
      omega (arith, left-succeeded job basis.pods, left-failed job basis.pods, left-none outcome.Succeeded, left-none outcome.Failed) in
      ap (λ n. n == 0) none

  -- The successes that are counted are those of the status, and so are the failed indexes.
  counts-stay : (counts (accounted job basis)).1 ≡ job.status.succeeded
  unfolding first_value
  counts-stay =
      let total : (accounted job basis).succeeded ≡ job.status.succeeded = ap (λ (s : JobStatus). s.succeeded) first-stays in
      let listed : length (accounted job basis).uncounted_succeeded ≡ 0 = ap (λ (s : JobStatus). length s.uncounted_succeeded) first-stays ∙ ap length unlisted in
      let left : (accounted job basis).left_succeeded ≡ 0 = omega (arith, left-succeeded job basis.pods, left-none outcome.Succeeded) in
      omega (arith, total, listed, left)

  failed-stay : (accounted job basis).failed_indexes ≡ job.status.failed_indexes
  unfolding first_value
  failed-stay = ap (λ (s : JobStatus). s.failed_indexes) first-stays

  -- No pod is marked.
  none-marked : list_any (is_to_mark (is_end_decided job (decided_in job basis))) (own_pods job basis.pods) ≡ false
  none-marked =
      none-mapped (λ (p : Pod). p.uid) (is_to_mark (is_end_decided job (decided_in job basis))) (own_pods job basis.pods) (sym (plan-marks basis job this) ∙ asks.idles.marks)

  module _ (none-ending : list_any is_ending (own_pods job basis.pods) ≡ false) where
    -- ---- how it will end is not decided

    -- Where it is, no pod is active, since it would be marked; so none is open.
    settled-open : is_end_decided job (decided_in job basis) ≡ true → list_any is_open (own_pods job basis.pods) ≡ false
    settled-open s =
        none-either (is_to_mark (is_end_decided job (decided_in job basis))) is_ending is_open
        (λ p h. of (is_open p) (is_marked p) (is_tracked p) (is_end_decided job (decided_in job basis)) s h) (own_pods job basis.pods) none-marked none-ending
      where
        of : (o m t s : Bool) → s ≡ true → o ≡ true → (((o && not m) && (s || not t)) || (o && m)) ≡ true
        of true true t s e h = refl
        of true false t true e h = refl
        of true false t false e h = absurd (true≢false (sym e))
        of false m t s e h = absurd (true≢false (sym h))

    -- Both lists of what is counted out are empty, and no pod is left over.
    abbrev out : JobStatus
    out = counted_out (first_status_of basis.now job (own_pods job basis.pods) (accounted job basis) (decided_in job basis) (wants_in job basis)) (accounted job basis).releases

    out-none : (out.uncounted_failed ≡ []) × (out.uncounted_succeeded ≡ [])
    unfolding second_value
    out-none = second-lists_none job basis

    due : is_end_decided job (decided_in job basis) ≡ true → is_second_due (is_end_decided job (decided_in job basis)) (own_pods job basis.pods) (accounted job basis) out ≡ true
    due s = λ i. (s i && (not (settled-open s i) && leaves i)) && (is_none_listed (out-none.1 i) && is_none_listed (out-none.0 i))

    second-ends : is_end_decided job (decided_in job basis) ≡ true → has_end (second_value job basis).conditions ≡ true
    unfolding second_value first_value
    second-ends s =
        ap (λ d. has_end (conditions_at basis.now job (decided_in job basis) d)) (due s)
        ∙ settled-ends basis.now job.spec.suspend (decided_in job basis) job.status.conditions (target-kind (accounted job basis) basis.now job (own_pods job basis.pods))
        (settles (has_target job.status.conditions) refl (decided_in job basis) refl s)
      where
        settles : (t : Bool) → has_target job.status.conditions ≡ t → (o : Option (CondKind × Reason)) → decided_in job basis ≡ o → (t || is_some o) ≡ true → (has_target job.status.conditions ≡ true) ⊎ IsSome (decided_in job basis)
        settles true e o i h = inl e
        settles false e (Some x) i h = inr (ap (λ (o : Option (CondKind × Reason)). is_some o) i)
        settles false e None i h = absurd (true≢false (sym h))

    -- How the Job ends is not decided, since else it would have its end.
    unsettled : is_end_decided job (decided_in job basis) ≡ false
    unsettled = by (is_end_decided job (decided_in job basis)) refl
      where
        by : (b : Bool) → is_end_decided job (decided_in job basis) ≡ b → is_end_decided job (decided_in job basis) ≡ false
        by false e = e
        by true e = absurd (true≢false (sym (second-ends e) ∙ ap (λ (s : JobStatus). has_end s.conditions) stays ∙ unended))

    undecided : decided_in job basis ≡ None
    undecided = by (has_target job.status.conditions) (decided_in job basis) unsettled
      where
        by : (t : Bool) (o : Option (CondKind × Reason)) → (t || is_some o) ≡ false → o ≡ None
        by true o h = absurd (true≢false h)
        by false None h = refl
        by false (Some x) h = absurd (true≢false h)

    untargeted : has_target job.status.conditions ≡ false
    untargeted = by (has_target job.status.conditions) (is_some (decided_in job basis)) unsettled
      where
        by : (t o : Bool) → (t || o) ≡ false → t ≡ false
        by true o h = absurd (true≢false h)
        by false o h = refl

    -- An Indexed Job has as many successes as completed indexes.
    as-completed : job.spec.mode ≡ Indexed → (counts (accounted job basis)).1 ≡ length (accounted job basis).completed
    as-completed at =
        omega (arith, indexed-total job basis.pods at, ap length (empty-in job basis.pods at unlisted), left-none outcome.Succeeded, left-succeeded job basis.pods)

    -- ---- where no pod is active

    module _ (none-running : list_any is_tracked_active (own_pods job basis.pods) ≡ false) where
      none-active : list_any is_active (own_pods job basis.pods) ≡ false
      none-active =
          none-either is_tracked_active (is_to_mark (is_end_decided job (decided_in job basis))) is_active
          (λ p h. of (is_active p) (is_tracked p) (is_end_decided job (decided_in job basis)) h) (own_pods job basis.pods) none-running none-marked
        where
          of : (a t s : Bool) → a ≡ true → ((a && t) || (a && (s || not t))) ≡ true
          of true true s h = refl
          of true false true h = refl
          of true false false h = refl
          of false t s h = absurd (true≢false (sym h))

      none-line : (is_failed_by_indexes job.spec.completions (accounted job basis).completed (accounted job basis).failed_indexes (own_pods job basis.pods) ≡ false)
          × (is_complete (counts (accounted job basis)).1 job.spec (own_pods job basis.pods) ≡ false)
      none-line =
          last-lines (is_failed_by_pod job.spec (own_pods job basis.pods)) (is_past_limit (counts (accounted job basis)).0 job.spec (own_pods job basis.pods)) (is_overdue basis.now job.spec job.status)
          (is_past_most job.spec.max_failed (accounted job basis).failed_indexes)
          (is_failed_by_indexes job.spec.completions (accounted job basis).completed (accounted job basis).failed_indexes (own_pods job basis.pods))
          (is_policy_met job.spec.success (accounted job basis).completed) (is_complete (counts (accounted job basis)).1 job.spec (own_pods job basis.pods))
          (FailureTarget, reason.PodFailurePolicy) (FailureTarget, reason.BackoffLimitExceeded) (FailureTarget, reason.DeadlineExceeded) (FailureTarget, reason.MaxFailedIndexesExceeded)
          (FailureTarget, reason.FailedIndexes) (SuccessCriteriaMet, reason.SuccessPolicy) (SuccessCriteriaMet, reason.CompletionsReached)
          (ap (λ b. cond b None (first_reason (accounted job basis) basis.now job (own_pods job basis.pods))) (sym untargeted) ∙ undecided)

      incomplete : is_enough job.spec.completions (counts (accounted job basis)).1 ≡ false
      incomplete = ap (λ b. not b && is_enough job.spec.completions (counts (accounted job basis)).1) (sym none-active) ∙ none-line.1

      -- No index has failed, or the completed and the failed ones are fewer than the completions.
      unfailed : (nat_lt 0 (length (accounted job basis).failed_indexes)
          && nat_le (unwrap_or job.spec.completions 0) (length (accounted job basis).completed + length (accounted job basis).failed_indexes)) ≡ false
      unfailed =
          ap (λ b. nat_lt 0 (length (accounted job basis).failed_indexes)
          && (not b && nat_le (unwrap_or job.spec.completions 0) (length (accounted job basis).completed + length (accounted job basis).failed_indexes))) (sym none-active)
          ∙ none-line.0

      -- Where no index may fail, none has.
      none-failing : job.spec.per_index ≡ None → (accounted job basis).failed_indexes ≡ []
      unfolding failing_in
      none-failing at =
          ap (λ o. failing_by o job (accounted job basis).completed (newly_failed (own_pods job basis.pods) (counted_in job basis.pods).judged_failed)) at

      -- The successes and the failed indexes are fewer than the completions.
      under : (c : ℕ) → job.spec.completions ≡ Some c → (counts (accounted job basis)).1 + length (accounted job basis).failed_indexes < c
      under c has = by job.spec.per_index refl
        where
          few : (counts (accounted job basis)).1 < c
          few = leb-false c (counts (accounted job basis)).1 (ap (λ o. is_enough o (counts (accounted job basis)).1) (sym has) ∙ incomplete)

          some : (f : Bool) → nat_lt 0 (length (accounted job basis).failed_indexes) ≡ f → (g : Bool) → nat_le c (length (accounted job basis).completed + length (accounted job basis).failed_indexes) ≡ g
              → (f && g) ≡ false → (counts (accounted job basis)).1 ≡ length (accounted job basis).completed → (counts (accounted job basis)).1 + length (accounted job basis).failed_indexes < c
          some true e true i h same = absurd (true≢false h)
          some true e false i h same = let lt = leb-false c (length (accounted job basis).completed + length (accounted job basis).failed_indexes) i in omega (arith, lt, same)
          some false e g i h same = let none = ltb-false 0 (length (accounted job basis).failed_indexes) e in omega (arith, none, few)

          by : (o : Option ℕ) → job.spec.per_index ≡ o → (counts (accounted job basis)).1 + length (accounted job basis).failed_indexes < c
          by None at = omega (arith, few, ap length (none-failing at))
          by (Some limit) at =
              some (nat_lt 0 (length (accounted job basis).failed_indexes)) refl (nat_le c (length (accounted job basis).completed + length (accounted job basis).failed_indexes)) refl
              (ap (λ o. nat_lt 0 (length (accounted job basis).failed_indexes) && nat_le (unwrap_or o 0) (length (accounted job basis).completed + length (accounted job basis).failed_indexes)) (sym has) ∙ unfailed)
              (as-completed (valid.by_index (ap is_some at)).0)

      -- So some pod is wanted.
      some-wanted : 0 < job.spec.parallelism → HasEnough job (own_pods job basis.pods) → ⊥
      some-wanted wide enough =
          let some : 0 < wanted job.spec.parallelism job.spec.completions job.status.succeeded (length job.status.failed_indexes) (length (tracked_active_pods (own_pods job basis.pods))) =
          subst (λ n. 0 < wanted job.spec.parallelism job.spec.completions n (length job.status.failed_indexes) (length (tracked_active_pods (own_pods job basis.pods)))) counts-stay
          (subst (λ (l : List ℕ). 0 < wanted job.spec.parallelism job.spec.completions (counts (accounted job basis)).1 (length l) (length (tracked_active_pods (own_pods job basis.pods)))) failed-stay
          (wants-some job.spec.parallelism job.spec.completions (counts (accounted job basis)).1 (length (accounted job basis).failed_indexes) (length (tracked_active_pods (own_pods job basis.pods))) wide incomplete under)) in
          none-wanted _ (length (tracked_active_pods (own_pods job basis.pods))) some enough (none-length is_tracked_active (own_pods job basis.pods) none-running)

    -- ---- where nothing is to be made

    -- The pods that keep their indexes are active and tracked.
    kept-few : length (keepers job.spec.replacement (own_pods job basis.pods)) ≤ length (tracked_active_pods (own_pods job basis.pods))
    kept-few =
        no-more is_tracked_active (is_to_mark (is_end_decided job (decided_in job basis))) is_ending (keeps job.spec.replacement)
        (λ p h. of job.spec.replacement p (is_end_decided job (decided_in job basis)) h) (own_pods job basis.pods) none-marked none-ending
      where
        two : (o m t s : Bool) → ((o && not m) || (o && m)) ≡ true → (((o && not m) && t) || (((o && not m) && (s || not t)) || (o && m))) ≡ true
        two true true t s h = refl
        two true false true s h = refl
        two true false false true h = refl
        two true false false false h = refl
        two false m t s h = absurd (true≢false (sym h))

        one : (o m t s : Bool) → (o && not m) ≡ true → (((o && not m) && t) || (((o && not m) && (s || not t)) || (o && m))) ≡ true
        one true true t s h = absurd (true≢false (sym h))
        one true false true s h = refl
        one true false false true h = refl
        one true false false false h = refl
        one false m t s h = absurd (true≢false (sym h))

        of : (r : Replacement) (p : Pod) (s : Bool) → keeps r p ≡ true → (is_tracked_active p || ((is_active p && (s || not (is_tracked p))) || is_ending p)) ≡ true
        of TerminatingOrFailed p s h = one (is_open p) (is_marked p) (is_tracked p) s h
        of FailedOnly p s h = two (is_open p) (is_marked p) (is_tracked p) s h

    none-made : job.spec.suspend ≡ false → creatable (is_end_decided job (decided_in job basis)) job (own_pods job basis.pods) (accounted job basis) ≡ [] → HasEnough job (own_pods job basis.pods)
    none-made awake e =
        subst (λ n. wanted job.spec.parallelism job.spec.completions n (length job.status.failed_indexes) (length (tracked_active_pods (own_pods job basis.pods))) ≤ length (tracked_active_pods (own_pods job basis.pods))) counts-stay
        (subst (λ (l : List ℕ). wanted job.spec.parallelism job.spec.completions (counts (accounted job basis)).1
        (length l) (length (tracked_active_pods (own_pods job basis.pods))) ≤ length
        (tracked_active_pods (own_pods job basis.pods))) failed-stay
        (by job.spec.mode refl (sym shape ∙ e)))
      where
        shape : creatable (is_end_decided job (decided_in job basis)) job (own_pods job basis.pods) (accounted job basis)
            ≡ new_pods job.spec.mode (job_lacks job (own_pods job basis.pods) (accounted job basis)) (free (unwrap_or job.spec.completions 0) (accounted job basis) (keepers job.spec.replacement (own_pods job basis.pods)))
        shape = (λ i. cond (unsettled i || awake i) []
            (new_pods job.spec.mode (job_lacks job (own_pods job basis.pods) (accounted job basis))
            (free (unwrap_or job.spec.completions 0) (accounted job basis)
            (keepers job.spec.replacement (own_pods job basis.pods)))))

        -- Where none is lacking.
        full : job_lacks job (own_pods job basis.pods) (accounted job basis) ≡ 0 → job_wants job (own_pods job basis.pods) (accounted job basis) ≤ length (tracked_active_pods (own_pods job basis.pods))
        full e = none-lacking job.spec.replacement (job_wants job (own_pods job basis.pods) (accounted job basis)) (length (tracked_active_pods (own_pods job basis.pods))) _ (none-length is_ending (own_pods job basis.pods) none-ending) e

        -- Where no index is free.
        all : job.spec.mode ≡ Indexed → (o : Option ℕ) → job.spec.completions ≡ o → IsSome o → free (unwrap_or o 0) (accounted job basis) (keepers job.spec.replacement (own_pods job basis.pods)) ≡ []
            → wanted job.spec.parallelism o (counts (accounted job basis)).1 (length (accounted job basis).failed_indexes) (length (tracked_active_pods (own_pods job basis.pods))) ≤ length (tracked_active_pods (own_pods job basis.pods))
        all at None c s e = absurd (true≢false (sym s))
        all at (Some n) c s e =
            let used = none-free n (accounted job basis) (keepers job.spec.replacement (own_pods job basis.pods)) e in
            let same = as-completed at in
            wants-few job.spec.parallelism n (counts (accounted job basis)).1 (length (accounted job basis).failed_indexes) (length (tracked_active_pods (own_pods job basis.pods))) (length (keepers job.spec.replacement (own_pods job basis.pods)))
            (omega (arith, used, same)) kept-few

        some : (n : ℕ) → job_lacks job (own_pods job basis.pods) (accounted job basis) ≡ n → (mode : Mode) → job.spec.mode ≡ mode
            → new_pods mode n (free (unwrap_or job.spec.completions 0) (accounted job basis)
            (keepers job.spec.replacement (own_pods job basis.pods))) ≡ []
            → job_wants job (own_pods job basis.pods) (accounted job basis) ≤ length
            (tracked_active_pods (own_pods job basis.pods))
        some zero is mode at e = full is
        some (suc n) is NonIndexed at e = absurd (some-replicated (suc n) None (omega arith) e)
        some (suc n) is Indexed at e =
            all at job.spec.completions refl (valid.indexed at)
            (some-taken (λ index. Some index) (suc n) (free (unwrap_or job.spec.completions 0) (accounted job basis) (keepers job.spec.replacement (own_pods job basis.pods))) (omega arith) e)

        by : (mode : Mode) → job.spec.mode ≡ mode
            → new_pods mode (job_lacks job (own_pods job basis.pods) (accounted job basis))
            (free (unwrap_or job.spec.completions 0) (accounted job basis)
            (keepers job.spec.replacement (own_pods job basis.pods))) ≡ []
            → job_wants job (own_pods job basis.pods) (accounted job basis) ≤ length
            (tracked_active_pods (own_pods job basis.pods))
        by mode at e = some (job_lacks job (own_pods job basis.pods) (accounted job basis)) refl mode at e

    -- ---- so it waits

    waits-on : job.spec.suspend ≡ false → 0 < job.spec.parallelism → Waits job basis
    waits-on awake wide =
        by (held (opening (wants_in job basis).backoff) basis.now (creatable (is_end_decided job (decided_in job basis)) job (own_pods job basis.pods) (accounted job basis))
        (sym (plan-creates basis job this) ∙ asks.idles.creates) (no-earlier (wants_in job basis).next _ (ap (λ p. p.next) (planned-here basis (Some job) this) ∙ asks.next)))
      where
        same : (wants_in job basis).backoff ≡ basis.backoff
        same = sym (plan-backoff basis job this) ∙ backoff-unneeded job basis this asks.idles.first

        enough : HasEnough job (own_pods job basis.pods) → (t : Bool) → list_any is_tracked_active (own_pods job basis.pods) ≡ t → Waits job basis
        enough has true e = ForActive untargeted has e
        enough has false e = absurd (some-wanted e wide has)

        by : (creatable (is_end_decided job (decided_in job basis)) job (own_pods job basis.pods) (accounted job basis) ≡ []) ⊎ ((second : ℕ) × (opening (wants_in job basis).backoff ≡ Some second) × (end_of_moments ≤ second)) → Waits job basis
        by (inl e) = enough (none-made awake e) (list_any is_tracked_active (own_pods job basis.pods)) refl
        by (inr h) = ForEver untargeted h.0 (ap opening (sym same) ∙ h.1) h.2

  waits-in : Waits job basis
  waits-in = by (list_any is_ending (own_pods job basis.pods)) refl job.spec.suspend refl job.spec.parallelism refl
    where
      by : (b : Bool) → list_any is_ending (own_pods job basis.pods) ≡ b → (s : Bool) → job.spec.suspend ≡ s → (p : ℕ) → job.spec.parallelism ≡ p → Waits job basis
      by true i s e p j = ForEnding i
      by false i true e p j = ForResume (untargeted i) e
      by false i false e zero j = ForRoom (untargeted i) j
      by false i false e (suc p) j = waits-on i e (omega (arith, j))

pub waits : (job : Job) (basis : Basis) → basis.job ≡ Some job → IsRising basis.pods → IsValidSpec job.spec → has_end job.status.conditions ≡ false → AsksNothing (planned basis) → Waits job basis
waits = waits-in
