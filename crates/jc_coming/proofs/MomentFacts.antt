-- Where a plan writes no status, the moment that it names is one to come.
use Rattle.std.proofs.Common.{◌≡◌, ◌⊎◌, inl, inr, ℕ, nat_le, nat_lt, Bool, true, false, cond, not, ◌&&◌, ◌||◌, List, Option, Some, None, is_some, unwrap_or, refl, sym, ap, ◌∙◌, arith, true≢false, eq-eqb, lt-ltb}
use Rattle.std.proofs.lemmas.Bool.{leb-false, or_left, or_right}
use Rattle.jc_log.specs.Range.{as_moment, end_of_moments}
use Rattle.jc_types.specs.declared.objects.Entry.{Entry}
use Rattle.jc_types.specs.declared.objects.Job.{Job}
use Rattle.jc_types.specs.declared.objects.Pod.{Pod}
use Rattle.jc_types.specs.declared.specifications.JobSpec.{JobSpec}
use Rattle.jc_types.specs.declared.statuses.CondKind.{CondKind}
use Rattle.jc_types.specs.declared.statuses.CondKind.TheVariants.{FailureTarget, SuccessCriteriaMet}
use Rattle.jc_types.specs.declared.statuses.JobStatus.{JobStatus}
use Rattle.jc_types.specs.declared.statuses.Reason.{Reason}
use Rattle.jc_types.specs.declared.statuses.Reason.TheVariants as reason
use Rattle.jc_types.specs.declared.syncs.CountIn.{CountIn}
use Rattle.jc_types.specs.Counts.{counts}
use Rattle.jc_states.specs.declared.bases.Basis.{Basis}
use Rattle.jc_states.specs.Bases.{own_pods}
use Rattle.jc_states.specs.Conditions.{has_target}
use Rattle.jc_finish.specs.Decisions.{first_reason, has_come, is_complete, is_failed_by_indexes, is_failed_by_pod, is_overdue, is_past_limit, is_past_most, is_policy_met}
use Rattle.jc_finish.specs.Starts.{deadline_of, end_after, start_of}
use Rattle.jc_plan.specs.Backoffs.{is_delayed_until, opening}
use Rattle.jc_plan.specs.Creations.{creatable, is_none_of}
use Rattle.jc_plan.specs.Plans.{earlier_of, planned}
use Rattle.jc_plan.specs.Statuses.{accounted, conditions_at, decided_in, first_value, is_first_due, is_end_decided, wants_in}
use Rattle.jc_plan.proofs.BackoffFacts.{backoff-unneeded, first-unneeded}
use Rattle.jc_plan.proofs.PartFacts.{planned-here}
use Rattle.jc_plan.proofs.PlanFacts.{plan-backoff}
use Rattle.jc_history.specs.Notes.{Note}
use Rattle.jc_history.specs.Registers.{backoff}
use Rattle.jc_coming.specs.Moments.{ShowsAll, deadline_by_status, is_at, is_moment_of, is_moment_to_come}
use Rattle.jc_coming.proofs.StayFacts.{target-none}

-- ---- a decision that is not made

-- Where none of the first lines holds, the third does not.
third-line : {T : Type 0} (a b c : Bool) (x y z : T) (o : Option T) → cond a (Some x) (cond b (Some y) (cond c (Some z) o)) ≡ None → c ≡ false
third-line true b c x y z o e = absurd (true≢false (ap is_some e))
third-line false true c x y z o e = absurd (true≢false (ap is_some e))
third-line false false true x y z o e = absurd (true≢false (ap is_some e))
third-line false false false x y z o e = refl

-- The decision, where the deadline has come or not.
abbrev pub decision : CountIn → JobSpec → List Pod → Bool → Option (CondKind × Reason)
decision counted spec own overdue =
    cond (is_failed_by_pod spec own) (Some (FailureTarget, reason.PodFailurePolicy))
    (cond (is_past_limit (counts counted).0 spec own) (Some (FailureTarget, reason.BackoffLimitExceeded))
    (cond overdue (Some (FailureTarget, reason.DeadlineExceeded))
    (cond (is_past_most spec.max_failed counted.failed_indexes) (Some (FailureTarget, reason.MaxFailedIndexesExceeded))
    (cond (is_failed_by_indexes spec.completions counted.completed counted.failed_indexes own) (Some (FailureTarget, reason.FailedIndexes))
    (cond (is_policy_met spec.success counted.completed) (Some (SuccessCriteriaMet, reason.SuccessPolicy))
    (cond (is_complete (counts counted).1 spec own) (Some (SuccessCriteriaMet, reason.CompletionsReached)) None))))))

-- Where no target stands and none is decided, no deadline has come.
pub none-overdue : (counted : CountIn) (now : ℕ) (job : Job) (own : List Pod) → first_reason counted now job own ≡ None → is_overdue now job.spec job.status ≡ false
none-overdue counted now job own e =
    third-line (is_failed_by_pod job.spec own) (is_past_limit (counts counted).0 job.spec own) (is_overdue now job.spec job.status) _ _ _ _ e

-- ---- parts of a plan

earlier-either : (a b : Option ℕ) (m : ℕ) → earlier_of a b ≡ Some m → (a ≡ Some m) ⊎ (b ≡ Some m)
earlier-either None b m e = inr e
earlier-either (Some a) None m e = inl e
earlier-either (Some a) (Some b) m e = by (nat_le a b) e
  where
    by : (t : Bool) → cond t (Some a) (Some b) ≡ Some m → (Some a ≡ Some m) ⊎ (Some b ≡ Some m)
    by true e = inl e
    by false e = inr e

is-as-moment : (o : Option ℕ) (m : ℕ) → as_moment o ≡ Some m → o ≡ Some m
is-as-moment None m e = e
is-as-moment (Some second) m e = by (nat_lt second end_of_moments) e
  where
    by : (b : Bool) → cond b (Some second) None ≡ Some m → Some second ≡ Some m
    by true e = e
    by false e = absurd (true≢false (sym (ap is_some e)))

-- What holds pods back is the opening, and ahead.
held : (o : Option ℕ) (now m : ℕ) (some : Bool) → cond (is_delayed_until o now && some) (as_moment o) None ≡ Some m → (o ≡ Some m) × (nat_lt now m ≡ true)
held None now m some e = absurd (true≢false (sym (ap is_some e)))
held (Some second) now m some e = by (nat_lt now second) refl some e
  where
    by : (b : Bool) → nat_lt now second ≡ b → (some : Bool) → cond (b && some) (as_moment (Some second)) None ≡ Some m → (Some second ≡ Some m) × (nat_lt now m ≡ true)
    by false s some e = absurd (true≢false (sym (ap is_some e)))
    by true s false e = absurd (true≢false (sym (ap is_some e)))
    by true s true e = let is = is-as-moment (Some second) m e in (is, ap (λ o. nat_lt now (unwrap_or o 0)) (sym is) ∙ s)

at-itself : (o : Option ℕ) (m : ℕ) → o ≡ Some m → is_at o m ≡ true
at-itself o m e = ap (λ p. is_at p m) e ∙ eq-eqb m m refl

-- ---- a plan for its Job

module _ (job : Job) (basis : Basis) (this : basis.job ≡ Some job) (unneeded : (planned basis).first ≡ None) where
  abbrev due : Bool
  due = is_first_due (is_end_decided job (decided_in job basis)) (own_pods job basis.pods) (accounted job basis)

  start-stays : start_of basis.now job.spec job.status ≡ job.status.start
  unfolding first_value
  start-stays = ap (λ (s : JobStatus). s.start) (first-unneeded job basis this unneeded)

  conditions-stay : conditions_at basis.now job (decided_in job basis) due ≡ job.status.conditions
  unfolding first_value
  conditions-stay = ap (λ (s : JobStatus). s.conditions) (first-unneeded job basis this unneeded)

  undecided : decided_in job basis ≡ None
  undecided = target-none basis.now job (decided_in job basis) due start-stays conditions-stay

  -- A deadline that the plan names is ahead, and that by the status.
  deadline-ahead : (m : ℕ) → deadline_of basis.now job.spec job.status ≡ Some m → (deadline_by_status job ≡ Some m) × (nat_lt basis.now m ≡ true)
  deadline-ahead m e = by job.spec.suspend refl (has_target job.status.conditions) refl e
    where
      by-status : deadline_of basis.now job.spec job.status ≡ deadline_by_status job
      by-status = ap (λ start. cond (job.spec.suspend || has_target job.status.conditions) None (as_moment (end_after job.spec.deadline start))) start-stays

      by : (s : Bool) → job.spec.suspend ≡ s → (t : Bool) → has_target job.status.conditions ≡ t
          → cond (s || t) None (as_moment (end_after job.spec.deadline (start_of basis.now job.spec job.status))) ≡ Some m → (deadline_by_status job ≡ Some m) × (nat_lt basis.now m ≡ true)
      by true i t j g = absurd (true≢false (sym (ap is_some g)))
      by false i true j g = absurd (true≢false (sym (ap is_some g)))
      by false i false j g = (sym by-status ∙ e, ahead)
        where
          none : first_reason (accounted job basis) basis.now job (own_pods job basis.pods) ≡ None
          none = ap (λ b. cond b None (first_reason (accounted job basis) basis.now job (own_pods job basis.pods))) (sym j) ∙ undecided

          is : end_after job.spec.deadline (start_of basis.now job.spec job.status) ≡ Some m
          is = is-as-moment (end_after job.spec.deadline (start_of basis.now job.spec job.status)) m g

          not-come : nat_le m basis.now ≡ false
          not-come =
              ap (λ o. has_come o basis.now) (sym is)
              ∙ ap (λ b. not b && has_come (end_after job.spec.deadline (start_of basis.now job.spec job.status)) basis.now) (sym i)
              ∙ none-overdue (accounted job basis) basis.now job (own_pods job basis.pods) none

          ahead : nat_lt basis.now m ≡ true
          ahead = let lt = leb-false m basis.now not-come in lt-ltb basis.now m (omega (arith, lt))

  names : (m : ℕ) → (planned basis).next ≡ Some m → (nat_lt basis.now m && is_moment_of basis.backoff m (Some job)) ≡ true
  names m e = by (earlier-either (wants_in job basis).next (deadline_of basis.now job.spec job.status) m (ap (λ p. p.next) (planned-here basis (Some job) this) ∙ e))
    where
      same : (wants_in job basis).backoff ≡ basis.backoff
      same = sym (plan-backoff basis job this) ∙ backoff-unneeded job basis this unneeded

      both : (a b c : Bool) → a ≡ true → (b || c) ≡ true → (a && (b || c)) ≡ true
      both true b c h g = g
      both false b c h g = h

      by : ((wants_in job basis).next ≡ Some m) ⊎ (deadline_of basis.now job.spec job.status ≡ Some m) → (nat_lt basis.now m && is_moment_of basis.backoff m (Some job)) ≡ true
      by (inl h) =
          let is = held (opening (wants_in job basis).backoff) basis.now m (not (is_none_of (creatable (is_end_decided job (decided_in job basis)) job (own_pods job basis.pods) (accounted job basis)))) h in
          both (nat_lt basis.now m) (is_at (deadline_by_status job) m) (is_at (opening basis.backoff) m) is.1
          (or_right (is_at (deadline_by_status job) m) (is_at (opening basis.backoff) m) (at-itself (opening basis.backoff) m (ap opening (sym same) ∙ is.0)))
      by (inr h) =
          let is = deadline-ahead m h in
          both (nat_lt basis.now m) (is_at (deadline_by_status job) m) (is_at (opening basis.backoff) m) is.1
          (or_left (is_at (deadline_by_status job) m) (is_at (opening basis.backoff) m) (at-itself (deadline_by_status job) m is.0))

pub names-moment : (notes : List Note) (log : List Entry) (basis : Basis) (m : ℕ) → ShowsAll notes log basis → (planned basis).first ≡ None → (planned basis).next ≡ Some m
    → is_moment_to_come basis.now log notes basis.key m ≡ true
names-moment notes log basis m current unneeded e = by basis.job refl
  where
    by : (o : Option Job) → basis.job ≡ o → is_moment_to_come basis.now log notes basis.key m ≡ true
    by None this = absurd (true≢false (sym (ap is_some (ap (λ p. p.next) (planned-here basis None this) ∙ e))))
    by (Some job) this =
        ap (λ o. nat_lt basis.now m && is_moment_of (backoff basis.key notes) m o) (sym current.job ∙ this)
        ∙ ap (λ b. nat_lt basis.now m && is_moment_of b m (Some job)) (sym current.backed_off)
        ∙ names job basis this unneeded m e
