-- The next status of a Job of whose pods nothing is wanted, once written, is the next one again.
use Rattle.std.proofs.Common.{◌≡◌, ◌⊎◌, inl, inr, ℕ, ◌+◌, ◌==◌, nat_lt, Bool, true, false, cond, not, ◌&&◌, ◌||◌, List, [], map, filter, length, Option, Some, None, IsSome, is_none, is_some, unwrap_or, refl, sym, ap, ◌∙◌, arith, true≢false}
use Rattle.std.specs.List.{AllByRecursion as Each, list_any}
use Rattle.std.proofs.lemmas.Bool.{and_parts, or_left, or_right}
use Rattle.jc_log.specs.Range.{as_moment}
use Rattle.jc_types.specs.declared.objects.Job.{Job}
use Rattle.jc_types.specs.declared.objects.Pod.{Pod}
use Rattle.jc_types.specs.declared.specifications.Mode.{Mode}
use Rattle.jc_types.specs.declared.specifications.Mode.TheVariants.{NonIndexed, Indexed}
use Rattle.jc_types.specs.declared.statuses.CondKind.{CondKind}
use Rattle.jc_types.specs.declared.statuses.CondKind.TheVariants as kind
use Rattle.jc_types.specs.declared.statuses.Condition.{Condition}
use Rattle.jc_types.specs.declared.statuses.IndexCount.{IndexCount}
use Rattle.jc_types.specs.declared.statuses.JobStatus.{JobStatus}
use Rattle.jc_types.specs.declared.statuses.Reason.{Reason}
use Rattle.jc_types.specs.declared.syncs.CountIn.{CountIn}
use Rattle.jc_types.specs.Counts.{counts}
use Rattle.jc_types.specs.Equality.{same_bool}
use Rattle.jc_types.proofs.EqualityFacts.{bool-exact}
use Rattle.jc_types.proofs.ListFacts.{filter_within}
use Rattle.jc_states.specs.Conditions.{has_end, has_target, stands}
use Rattle.jc_states.specs.Pods.{is_open}
use Rattle.jc_account.specs.Accounts.{completed_in}
use Rattle.jc_account.specs.Judged.{candidates, is_to_release, newly}
use Rattle.jc_account.specs.Modes.{completed_after, succeeded_after}
use Rattle.jc_plan.specs.Outcome.TheVariants as outcome
use Rattle.jc_finish.specs.Decisions.{first_reason, has_come, is_overdue}
use Rattle.jc_finish.specs.Settled.{end_of, settled, settled_suspended, suspension, with_end, with_last, with_suspension}
use Rattle.jc_finish.specs.Starts.{begins, deadline_of, end_after, start_of}
use Rattle.jc_finish.proofs.DecisionFacts.{decided_same}
use Rattle.jc_finish.proofs.SettledFacts.{settled-ends, settled-keeps, settled-suspended, settled-target}
use Rattle.jc_states.specs.UidLists.{uids_of}
use Rattle.jc_plan.specs.Failures.{failing_by, failing_in, failures_by, failures_in, has_failed, newly_failed, raised}
use Rattle.jc_plan.specs.Next.{next_counted, next_decided}
use Rattle.jc_plan.specs.Statuses.{conditions_at, is_over, is_end_decided, leaves_none}
use Rattle.jc_plan.proofs.Targets.{target-kind}
use Rattle.jc_plan.proofs.ValueFacts.{settled-target as target-settles}
use Rattle.jc_coming.specs.Drafts.{deadline_is_ahead, is_ahead, next_quiet}
use Rattle.jc_coming.proofs.MomentFacts.{decision}
use Rattle.jc_coming.proofs.RaisedFacts.{none-failed, raised-again}
use Rattle.jc_coming.proofs.RoomFacts.{none-again, none-left, none-newly}
use Rattle.jc_coming.proofs.StayFacts.{none-completed}

-- ---- tests

-- A Job that did not begin does not begin with the same start, where it is suspended just where the condition stands.
begins-none : (s t u e f n w v : Bool) → (u ≡ false → t ≡ false) → (e ≡ true → f ≡ true) → (u ≡ false → v ≡ s)
    → (not s && (not (t || e) && (n || w))) ≡ false → (not s && (not (u || f) && (n || v))) ≡ false
begins-none true t u e f n w v a b c h = refl
begins-none false t true e f n w v a b c h = refl
begins-none false t false e true n w v a b c h = refl
begins-none false true false e false n w v a b c h = absurd (true≢false (a refl))
begins-none false false false true false n w v a b c h = absurd (true≢false (sym (b refl)))
begins-none false false false false false true w v a b c h = absurd (true≢false h)
begins-none false false false false false false w v a b c h = c refl

-- ---- the Job with the status

module _ (now : ℕ) (job new : Job) (own : List Pod) (spec : new.spec ≡ job.spec) (is : new.status ≡ next_quiet now job own)
    (none : candidates job own ≡ []) (unreleased : Each (λ p. is_to_release job own p ≡ false) own) where
  abbrev counted : CountIn
  counted = next_counted job own

  abbrev target : Option (CondKind × Reason)
  target = next_decided now job own

  abbrev due : Bool
  due = is_over (is_end_decided job target) own counted

  abbrev before : List Condition
  before = job.status.conditions

  abbrev after : List Condition
  after = new.status.conditions

  none-new : candidates new own ≡ []
  none-new = none-again job new own spec none unreleased

  conditions-are : after ≡ conditions_at now job target due
  unfolding next_quiet
  conditions-are = ap (λ (s : JobStatus). s.conditions) is

  -- ---- targets and ends

  end-stays : has_end before ≡ true → has_end after ≡ true
  end-stays h = by (stands kind.Failed before) refl (stands kind.Complete before) refl h
    where
      keeps : (k : CondKind) → (k ≡ kind.Suspended → ⊥) → stands k before ≡ true → stands k after ≡ true
      keeps k ne e = ap (stands k) conditions-are ∙ settled-keeps now job.spec.suspend target due before k ne e

      by : (f : Bool) → stands kind.Failed before ≡ f → (c : Bool) → stands kind.Complete before ≡ c → (f || c) ≡ true → has_end after ≡ true
      by true i c j g = or_left (stands kind.Failed after) (stands kind.Complete after) (keeps kind.Failed (λ e. cc) i)
      by false i true j g = or_right (stands kind.Failed after) (stands kind.Complete after) (keeps kind.Complete (λ e. cc) j)
      by false i false j g = absurd (true≢false (sym g))

  -- Where no target stands then, none stood and none was decided.
  unsettled : has_target after ≡ false → is_end_decided job target ≡ false
  unsettled h = by (is_end_decided job target) refl
    where
      by : (b : Bool) → is_end_decided job target ≡ b → is_end_decided job target ≡ false
      by false e = e
      by true e =
          absurd (true≢false (sym (ap has_target conditions-are ∙ target-settles now job target due (target-kind counted now job own) e) ∙ h))

  untargeted : has_target after ≡ false → has_target before ≡ false
  untargeted h = by (has_target before) (is_some target) (unsettled h)
    where
      by : (a b : Bool) → (a || b) ≡ false → a ≡ false
      by true b e = e
      by false b e = refl

  undecided : has_target after ≡ false → target ≡ None
  undecided h = by target refl (has_target before) (unsettled h)
    where
      by : (o : Option (CondKind × Reason)) → target ≡ o → (a : Bool) → (a || is_some o) ≡ false → target ≡ None
      by None e a g = e
      by (Some pair) e true g = absurd (true≢false g)
      by (Some pair) e false g = absurd (true≢false g)

  suspended-is : has_target after ≡ false → stands kind.Suspended after ≡ job.spec.suspend
  suspended-is h =
      ap (stands kind.Suspended) (conditions-are ∙ ap (λ o. conditions_at now job o due) (undecided h))
      ∙ settled-suspended now job.spec.suspend due before (untargeted h)

  -- ---- the start

  start-is : new.status.start ≡ start_of now job.spec job.status
  unfolding next_quiet
  start-is = ap (λ (s : JobStatus). s.start) is

  pub start-same : start_of now job.spec new.status ≡ new.status.start
  start-same = by (begins job.spec.suspend job.status.start before) refl
    where
      either : (b : Bool) (o : Option ℕ) → o ≡ Some now → cond b (Some now) o ≡ o
      either true o e = sym e
      either false o e = refl

      by : (b : Bool) → begins job.spec.suspend job.status.start before ≡ b → cond (begins job.spec.suspend new.status.start after) (Some now) new.status.start ≡ new.status.start
      by true e = either (begins job.spec.suspend new.status.start after) new.status.start (start-is ∙ ap (λ b. cond b (Some now) job.status.start) e)
      by false e =
          let kept : new.status.start ≡ job.status.start = start-is ∙ ap (λ b. cond b (Some now) job.status.start) e in
          ap (λ b. cond b (Some now) new.status.start)
          (begins-none job.spec.suspend (has_target before) (has_target after) (has_end before) (has_end after) (is_none new.status.start) (stands kind.Suspended before) (stands kind.Suspended after)
          untargeted end-stays suspended-is
          (ap (λ o. not job.spec.suspend && (not (has_target before || has_end before) && (is_none o || stands kind.Suspended before))) kept ∙ e))

  -- ---- the conditions

  leaves : leaves_none counted ≡ true
  leaves = λ i. length (none-left job own none outcome.Succeeded i) + length (none-left job own none outcome.Failed i) == 0

  conditions-again : (again : Bool) → (again ≡ true → (has_target after && not (list_any is_open own)) ≡ true) → settled now job.spec.suspend None again after ≡ after
  conditions-again again over = ap (with_end now again) still ∙ by again refl
    where
      still : settled_suspended now job.spec.suspend false after ≡ after
      still = by-target (has_target after) refl
        where
          by-target : (t : Bool) → has_target after ≡ t → cond (t || same_bool job.spec.suspend (stands kind.Suspended after)) after (with_suspension (suspension now job.spec.suspend) after) ≡ after
          by-target true e = refl
          by-target false e = ap (λ b. cond b after (with_suspension (suspension now job.spec.suspend) after)) ((bool-exact job.spec.suspend (stands kind.Suspended after)).1 (sym (suspended-is e)))

      ended : again ≡ true → has_end after ≡ true
      ended e = of-settled (is_end_decided job target) refl
        where
          parts : (has_target after ≡ true) × (not (list_any is_open own) ≡ true)
          parts = and_parts (has_target after) (not (list_any is_open own)) (over e)

          was-due : is_end_decided job target ≡ true → due ≡ true
          was-due s = (λ i. s i && (parts.1 i && leaves i))

          which : is_end_decided job target ≡ true → (has_target before ≡ true) ⊎ IsSome target
          which s = of (has_target before) refl s
            where
              of : (b : Bool) → has_target before ≡ b → (b || is_some target) ≡ true → (has_target before ≡ true) ⊎ IsSome target
              of true i g = inl i
              of false i g = inr g

          of-settled : (b : Bool) → is_end_decided job target ≡ b → has_end after ≡ true
          of-settled true s =
              ap has_end (conditions-are ∙ ap (conditions_at now job target) (was-due s))
              ∙ settled-ends now job.spec.suspend target before (target-kind counted now job own) (which s)
          of-settled false s = absurd (true≢false (sym parts.0 ∙ none-stands))
            where
              none-of : (a b : Bool) → (a || b) ≡ false → (a ≡ false) × (b ≡ false)
              none-of true b g = absurd (true≢false g)
              none-of false b g = (refl, g)

              both : (has_target before ≡ false) × (is_some target ≡ false)
              both = none-of (has_target before) (is_some target) s

              is-none : target ≡ None
              is-none = of target refl both.1
                where
                  of : (o : Option (CondKind × Reason)) → target ≡ o → is_some o ≡ false → target ≡ None
                  of None e g = e
                  of (Some pair) e g = absurd (true≢false g)

              none-stands : has_target after ≡ false
              none-stands =
                  ap has_target (conditions-are ∙ ap (λ o. conditions_at now job o due) is-none)
                  ∙ (λ i. settled-target now job.spec.suspend due before kind.FailureTarget refl i || settled-target now job.spec.suspend due before kind.SuccessCriteriaMet refl i)
                  ∙ both.0

      by : (a : Bool) → again ≡ a → cond (a && not (has_end after)) (with_last (end_of now after) after) after ≡ after
      by false e = refl
      by true e = ap (λ b. cond (not b) (with_last (end_of now after) after) after) (ended e)

  -- ---- what is counted

  completed-is : new.status.completed ≡ counted.completed
  unfolding next_quiet
  completed-is = ap (λ (s : JobStatus). s.completed) is

  completed-again : (next_counted new own).completed ≡ counted.completed
  completed-again =
      ap (λ s. completed_after s.mode (has_end after) (unwrap_or s.completions 0) new.status.completed (newly new own outcome.Succeeded)) spec
      ∙ ap (completed_after job.spec.mode (has_end after) (unwrap_or job.spec.completions 0) new.status.completed) (none-newly new own none-new outcome.Succeeded)
      ∙ ap (λ set. completed_after job.spec.mode (has_end after) (unwrap_or job.spec.completions 0) set []) (completed-is ∙ was)
      ∙ by job.spec.mode (has_end before) refl (has_end after) refl
      ∙ sym was
    where
      was : counted.completed ≡ completed_after job.spec.mode (has_end before) (unwrap_or job.spec.completions 0) job.status.completed []
      was = ap (completed_after job.spec.mode (has_end before) (unwrap_or job.spec.completions 0) job.status.completed) (none-newly job own none outcome.Succeeded)

      by : (mode : Mode) (e : Bool) → has_end before ≡ e → (f : Bool) → has_end after ≡ f
          → completed_after mode f (unwrap_or job.spec.completions 0) (completed_after mode e (unwrap_or job.spec.completions 0) job.status.completed []) []
          ≡ completed_after mode e (unwrap_or job.spec.completions 0) job.status.completed []
      by NonIndexed e i f j = refl
      by Indexed e i true j = refl
      by Indexed true i false j = absurd (true≢false (sym (end-stays i) ∙ j))
      by Indexed false i false j = filter_within (λ n. nat_lt n (unwrap_or job.spec.completions 0)) (λ n. nat_lt n (unwrap_or job.spec.completions 0)) (λ n h. h) job.status.completed

  succeeded-is : new.status.succeeded ≡ counted.succeeded
  unfolding next_quiet
  succeeded-is = ap (λ (s : JobStatus). s.succeeded) is

  failed-is : new.status.failed ≡ counted.failed
  unfolding next_quiet
  failed-is = ap (λ (s : JobStatus). s.failed) is

  listed-succeeded : new.status.uncounted_succeeded ≡ []
  unfolding next_quiet
  listed-succeeded = ap (λ (s : JobStatus). s.uncounted_succeeded) is

  listed-failed : new.status.uncounted_failed ≡ []
  unfolding next_quiet
  listed-failed = ap (λ (s : JobStatus). s.uncounted_failed) is

  failed-again : (next_counted new own).failed ≡ counted.failed
  failed-again =
      let newly-none = ap length (none-newly new own none-new outcome.Failed) in
      let listed = ap length listed-failed in
      omega (arith, failed-is, newly-none, listed)

  succeeded-again : (next_counted new own).succeeded ≡ counted.succeeded
  succeeded-again = ap (λ s. succeeded_after s.mode total (completed_in new own)) spec ∙ by job.spec.mode refl
    where
      total : ℕ
      total = new.status.succeeded + length new.status.uncounted_succeeded + length (newly new own outcome.Succeeded)

      old_total : ℕ
      old_total = job.status.succeeded + length job.status.uncounted_succeeded + length (newly job own outcome.Succeeded)

      by : (mode : Mode) → job.spec.mode ≡ mode → succeeded_after mode total (completed_in new own) ≡ succeeded_after job.spec.mode old_total (completed_in job own)
      by NonIndexed at =
          let newly-none = ap length (none-newly new own none-new outcome.Succeeded) in
          let listed = ap length listed-succeeded in
          omega (arith, succeeded-is, newly-none, listed)
      by Indexed at = ap length completed-again ∙ sym (ap (λ m. succeeded_after m old_total (completed_in job own)) at)

  -- ---- failures by index

  judged-none : counted.judged_failed ≡ []
  judged-none = ap uids_of (none-newly job own none outcome.Failed)

  judged-again : (next_counted new own).judged_failed ≡ []
  judged-again = ap uids_of (none-newly new own none-new outcome.Failed)

  failures-are : counted.index_failures ≡ failures_by job.spec.per_index job []
  unfolding failures_in
  failures-are = ap (λ us. failures_by job.spec.per_index job (newly_failed own us)) judged-none ∙ ap (failures_by job.spec.per_index job) (none-failed own)

  failing-are : counted.failed_indexes ≡ failing_by job.spec.per_index job counted.completed []
  unfolding failing_in
  failing-are = ap (λ us. failing_by job.spec.per_index job counted.completed (newly_failed own us)) judged-none ∙ ap (failing_by job.spec.per_index job counted.completed) (none-failed own)

  failures-is : new.status.index_failures ≡ counted.index_failures
  unfolding next_quiet
  failures-is = ap (λ (s : JobStatus). s.index_failures) is

  failing-is : new.status.failed_indexes ≡ counted.failed_indexes
  unfolding next_quiet
  failing-is = ap (λ (s : JobStatus). s.failed_indexes) is

  new-failures-are : (next_counted new own).index_failures ≡ failures_by job.spec.per_index new []
  unfolding failures_in
  new-failures-are =
      ap (λ us. failures_by new.spec.per_index new (newly_failed own us)) judged-again ∙ ap (failures_by new.spec.per_index new) (none-failed own)
      ∙ ap (λ s. failures_by s.per_index new []) spec

  new-failing-are : (next_counted new own).failed_indexes ≡ failing_by job.spec.per_index new counted.completed []
  unfolding failing_in
  new-failing-are =
      ap (λ us. failing_by new.spec.per_index new (next_counted new own).completed (newly_failed own us)) judged-again
      ∙ ap (failing_by new.spec.per_index new (next_counted new own).completed) (none-failed own)
      ∙ ap (λ s. failing_by s.per_index new (next_counted new own).completed []) spec
      ∙ ap (λ set. failing_by job.spec.per_index new set []) completed-again

  -- Raised by none, they are the same.
  raised-is : (most : ℕ) → job.spec.per_index ≡ Some most → raised new.spec.failure new.status.index_failures [] ≡ raised job.spec.failure job.status.index_failures []
  raised-is most at =
      ap (λ s. raised s.failure new.status.index_failures []) spec
      ∙ ap (λ counts. raised job.spec.failure counts []) (failures-is ∙ failures-are ∙ ap (λ o. failures_by o job []) at)
      ∙ raised-again job.spec.failure job.status.index_failures

  failures-again : (next_counted new own).index_failures ≡ counted.index_failures
  failures-again = new-failures-are ∙ by job.spec.per_index refl ∙ sym failures-are
    where
      by : (o : Option ℕ) → job.spec.per_index ≡ o → failures_by o new [] ≡ failures_by o job []
      by None at = refl
      by (Some most) at = raised-is most at

  failing-again : (next_counted new own).failed_indexes ≡ counted.failed_indexes
  failing-again = new-failing-are ∙ by job.spec.per_index refl (has_end after) refl (has_end before) refl
    where
      some : ℕ → List IndexCount → List ℕ
      some most counts = map (λ (count : IndexCount). count.index) (filter (has_failed most (unwrap_or job.spec.completions 0) counted.completed) counts)

      by : (o : Option ℕ) → job.spec.per_index ≡ o → (f : Bool) → has_end after ≡ f → (e : Bool) → has_end before ≡ e → failing_by o new counted.completed [] ≡ counted.failed_indexes
      by None at f i e j = sym (failing-are ∙ ap (λ o. failing_by o job counted.completed []) at)
      by (Some most) at true i e j =
          ap (λ b. cond b new.status.failed_indexes (map (λ (count : IndexCount). count.index) (filter (has_failed most (unwrap_or new.spec.completions 0) counted.completed) (raised new.spec.failure new.status.index_failures [])))) i
          ∙ failing-is
      by (Some most) at false i true j = absurd (true≢false (sym (end-stays j) ∙ i))
      by (Some most) at false i false j =
          ap (λ b. cond b new.status.failed_indexes (map (λ (count : IndexCount). count.index) (filter (has_failed most (unwrap_or new.spec.completions 0) counted.completed) (raised new.spec.failure new.status.index_failures [])))) i
          ∙ ap (λ s. map (λ (count : IndexCount). count.index) (filter (has_failed most (unwrap_or s.completions 0) counted.completed) (raised new.spec.failure new.status.index_failures []))) spec
          ∙ ap (some most) (raised-is most at)
          ∙ sym (failing-are ∙ ap (λ o. failing_by o job counted.completed []) at ∙ ap (λ b. cond b job.status.failed_indexes (some most (raised job.spec.failure job.status.index_failures []))) j)

  -- ---- the decision

  failed-count : (counts (next_counted new own)).0 ≡ (counts counted).0
  failed-count =
      let old = ap length (none-left job own none outcome.Failed) in
      let now-none = ap length (none-left new own none-new outcome.Failed) in
      omega (arith, failed-again, old, now-none)

  succeeded-count : (counts (next_counted new own)).1 ≡ (counts counted).1
  succeeded-count =
      let old = ap length (none-left job own none outcome.Succeeded) in
      let now-none = ap length (none-left new own none-new outcome.Succeeded) in
      omega (arith, succeeded-again, old, now-none)

  undecided-again : next_decided now new own ≡ None
  undecided-again = by (has_target after) refl
    where
      by : (t : Bool) → has_target after ≡ t → cond t None (first_reason (next_counted new own) now new own) ≡ None
      by true e = refl
      by false e =
          ap (λ s. decision (next_counted new own) s own (is_overdue now s new.status)) spec
          ∙ ap (decision (next_counted new own) job.spec own) overdue-same
          ∙ sym (ap (λ b. cond b None (first_reason (next_counted new own) now job own)) (untargeted e))
          ∙ decided_same (next_counted new own) counted now job own failed-count succeeded-count completed-again failing-again
          ∙ undecided e
        where
          overdue-same : is_overdue now job.spec new.status ≡ is_overdue now job.spec job.status
          overdue-same = ap (λ start. not job.spec.suspend && has_come (end_after job.spec.deadline start) now) (start-same ∙ start-is)

  -- ---- the status

  over-again : is_over (is_end_decided new None) own (next_counted new own) ≡ true → (has_target after && not (list_any is_open own)) ≡ true
  over-again h = by (has_target after) (list_any is_open own) (leaves_none (next_counted new own)) h
    where
      by : (t o l : Bool) → ((t || false) && (not o && l)) ≡ true → (t && not o) ≡ true
      by true true l e = e
      by true false l e = refl
      by false o l e = e

  again-conditions : conditions_at now new (next_decided now new own) (is_over (is_end_decided new (next_decided now new own)) own (next_counted new own)) ≡ after
  again-conditions =
      ap (λ o. conditions_at now new o (is_over (is_end_decided new o) own (next_counted new own))) undecided-again
      ∙ ap (λ s. settled now s.suspend None (is_over (is_end_decided new None) own (next_counted new own)) after) spec
      ∙ conditions-again (is_over (is_end_decided new None) own (next_counted new own)) over-again

  again-start : start_of now new.spec new.status ≡ new.status.start
  again-start = ap (λ s. start_of now s new.status) spec ∙ start-same

  pub quiet-again : next_quiet now new own ≡ new.status
  unfolding next_quiet
  quiet-again = λ i. record {
    active = sym (ap (λ (s : JobStatus). s.active) is) i;
    ready = sym (ap (λ (s : JobStatus). s.ready) is) i;
    terminating = sym (ap (λ (s : JobStatus). s.terminating) is) i;
    succeeded = (succeeded-again ∙ sym succeeded-is) i;
    failed = (failed-again ∙ sym failed-is) i;
    completed = (completed-again ∙ sym completed-is) i;
    failed_indexes = (failing-again ∙ sym failing-is) i;
    index_failures = (failures-again ∙ sym failures-is) i;
    uncounted_succeeded = sym listed-succeeded i;
    uncounted_failed = sym listed-failed i;
    start = again-start i;
    completion = none-completed now new (conditions_at now new (next_decided now new own) (is_over (is_end_decided new (next_decided now new own)) own (next_counted new own))) again-conditions i;
    conditions = again-conditions i;
  }

  -- ---- its deadline

  pub deadline-was : deadline_is_ahead now new ≡ true → deadline_is_ahead now job ≡ true
  deadline-was h = by job.spec.suspend refl (has_target after) refl (sym (ap (λ s. is_ahead now (deadline_of now s new.status)) spec) ∙ h)
    where
      end-is : end_after job.spec.deadline (start_of now job.spec new.status) ≡ end_after job.spec.deadline (start_of now job.spec job.status)
      end-is = ap (end_after job.spec.deadline) (start-same ∙ start-is)

      by : (s : Bool) → job.spec.suspend ≡ s → (t : Bool) → has_target after ≡ t
          → is_ahead now (cond (s || t) None (as_moment (end_after job.spec.deadline (start_of now job.spec new.status)))) ≡ true → deadline_is_ahead now job ≡ true
      by true i t j g = absurd (true≢false (sym g))
      by false i true j g = absurd (true≢false (sym g))
      by false i false j g =
          (λ l. is_ahead now (cond (i l || untargeted j l) None (as_moment (end_after job.spec.deadline (start_of now job.spec job.status)))))
          ∙ ap (λ o. is_ahead now (as_moment o)) (sym end-is) ∙ g
