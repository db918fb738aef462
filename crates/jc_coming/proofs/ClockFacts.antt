-- The clock makes a draft of a status only where a deadline has passed that was ahead, and brings no moment.
use Rattle.std.proofs.Common.{◌≡◌, ℕ, ◌+◌, ◌*◌, ◌<◌, ◌≤◌, nat_le, nat_lt, Bool, true, false, cond, not, ◌&&◌, ◌||◌, List, ◌∷◌, Option, Some, None, refl, sym, ap, ◌∙◌, arith, true≢false, lt-ltb, ltb-true, leb-false}
use Rattle.std.proofs.lemmas.Bool.{lt-leb, ltb-false}
use Rattle.jc_log.specs.Range.{as_moment, end_of_moments}
use Rattle.jc_types.specs.declared.objects.Entry.{Entry}
use Rattle.jc_types.specs.declared.objects.Job.{Job}
use Rattle.jc_types.specs.declared.objects.KeyNames.{KeyNames as Key}
use Rattle.jc_types.specs.declared.objects.Pod.{Pod}
use Rattle.jc_types.specs.declared.statuses.CondKind.{CondKind}
use Rattle.jc_types.specs.declared.statuses.JobStatus.{JobStatus}
use Rattle.jc_types.specs.declared.statuses.Reason.{Reason}
use Rattle.jc_types.specs.Equality.{same_status}
use Rattle.jc_types.proofs.EqualityFacts.{status-exact}
use Rattle.jc_states.specs.Bases.{own_pods}
use Rattle.jc_states.specs.Conditions.{has_target}
use Rattle.jc_log.specs.Log.{jobs_in, pods_under}
use Rattle.jc_finish.specs.Decisions.{has_come, is_overdue}
use Rattle.jc_finish.specs.Starts.{begins, deadline_of, end_after, start_of}
use Rattle.jc_plan.specs.Backoffs.{opening}
use Rattle.jc_plan.specs.Next.{next_counted, next_decided}
use Rattle.jc_plan.specs.Statuses.{conditions_at, filled, is_over, is_end_decided}
use Rattle.jc_history.specs.Notes.{Note, Ticked}
use Rattle.jc_history.specs.Registers.{backoff}
use Rattle.jc_coming.specs.Drafts.{deadline_is_ahead, is_ahead, is_draft, next_quiet, nothing_wanted, statuses_to_come}
use Rattle.jc_coming.specs.Moments.{deadline_by_status, moments_to_come}
use Rattle.jc_coming.proofs.Lists.{one_if, one-most, stronger-fewer, two-fall}
use Rattle.jc_coming.proofs.MomentFacts.{decision, none-overdue}
use Rattle.jc_coming.proofs.StayFacts.{conditions-later, none-completed, start-later, target-none}

-- ---- what is ahead later was ahead before

pub ahead-before : (now later : ℕ) → now ≤ later → (o : Option ℕ) → is_ahead later o ≡ true → is_ahead now o ≡ true
ahead-before now later le None h = h
ahead-before now later le (Some m) h = let lt = ltb-true later m h in lt-ltb now m (omega (arith, le, lt))

-- A moment so many seconds after each is one before, where it is one later.
sum-before : (now later s : ℕ) → now ≤ later → is_ahead later (as_moment (Some (later + s))) ≡ true → is_ahead now (as_moment (Some (now + s))) ≡ true
sum-before now later s le h = by (nat_lt (later + s) end_of_moments) refl h
  where
    by : (b : Bool) → nat_lt (later + s) end_of_moments ≡ b → is_ahead later (cond b (Some (later + s)) None) ≡ true → is_ahead now (as_moment (Some (now + s))) ≡ true
    by false i g = absurd (true≢false (sym g))
    by true i g =
        let within = ltb-true (later + s) end_of_moments i in
        let more = ltb-true later (later + s) g in
        ap (λ b. is_ahead now (cond b (Some (now + s)) None)) (lt-ltb (now + s) end_of_moments (omega (arith, within, le)))
        ∙ lt-ltb now (now + s) (omega (arith, more))

deadline-before : (now later : ℕ) → now ≤ later → (job : Job) → deadline_is_ahead later job ≡ true → deadline_is_ahead now job ≡ true
deadline-before now later le job h = by (job.spec.suspend || has_target job.status.conditions) (begins job.spec.suspend job.status.start job.status.conditions) h
  where
    at : ℕ → Bool → Bool → Option ℕ
    at t none new = cond none None (as_moment (end_after job.spec.deadline (cond new (Some t) job.status.start)))

    seconds : (o : Option ℕ) → is_ahead later (as_moment (end_after o (Some later))) ≡ true → is_ahead now (as_moment (end_after o (Some now))) ≡ true
    seconds None g = g
    seconds (Some s) g = sum-before now later s le g

    by : (none new : Bool) → is_ahead later (at later none new) ≡ true → is_ahead now (at now none new) ≡ true
    by true new g = g
    by false true g = seconds job.spec.deadline g
    by false false g = ahead-before now later le (as_moment (end_after job.spec.deadline job.status.start)) g

-- ---- a status that is the next one stays so, while no deadline passes

module _ (now later : ℕ) (within : later < end_of_moments) (job : Job) (own : List Pod) (next : next_quiet now job own ≡ job.status)
    (on : deadline_is_ahead now job ≡ true → deadline_is_ahead later job ≡ true) where
  abbrev due_at : Option (CondKind × Reason) → Bool
  due_at target = is_over (is_end_decided job target) own (next_counted job own)

  start-is : start_of now job.spec job.status ≡ job.status.start
  unfolding next_quiet
  start-is = ap (λ (s : JobStatus). s.start) next

  conditions-are : conditions_at now job (next_decided now job own) (due_at (next_decided now job own)) ≡ job.status.conditions
  unfolding next_quiet
  conditions-are = ap (λ (s : JobStatus). s.conditions) next

  none-now : next_decided now job own ≡ None
  none-now = target-none now job (next_decided now job own) (due_at (next_decided now job own)) start-is conditions-are

  start-on : start_of later job.spec job.status ≡ start_of now job.spec job.status
  start-on = start-later now job (next_decided now job own) (due_at (next_decided now job own)) start-is conditions-are later ∙ sym start-is

  conditions-on : conditions_at later job None (due_at None) ≡ job.status.conditions
  conditions-on =
      ap (λ o. conditions_at later job None (due_at o)) (sym none-now)
      ∙ conditions-later now job (next_decided now job own) (due_at (next_decided now job own)) start-is conditions-are later

  conditions-were : conditions_at now job None (due_at None) ≡ job.status.conditions
  conditions-were = ap (λ o. conditions_at now job o (due_at o)) (sym none-now) ∙ conditions-are

  -- No deadline comes meanwhile.
  none-comes : has_target job.status.conditions ≡ false → is_overdue now job.spec job.status ≡ false → is_overdue later job.spec job.status ≡ false
  none-comes unsettled before = by job.spec.suspend refl
    where
      the-end : Option ℕ
      the-end = end_after job.spec.deadline (start_of now job.spec job.status)

      by : (s : Bool) → job.spec.suspend ≡ s → is_overdue later job.spec job.status ≡ false
      by true i = ap (λ b. not b && has_come (end_after job.spec.deadline (start_of later job.spec job.status)) later) i
      by false i =
          ap (λ b. not b && has_come (end_after job.spec.deadline (start_of later job.spec job.status)) later) i
          ∙ ap (λ start. has_come (end_after job.spec.deadline start) later) start-on
          ∙ of-end the-end refl
        where
          deadline-at : (t : ℕ) → start_of t job.spec job.status ≡ start_of now job.spec job.status → deadline_of t job.spec job.status ≡ as_moment the-end
          deadline-at t same =
              ap (λ b. cond (b || has_target job.status.conditions) None (as_moment (end_after job.spec.deadline (start_of t job.spec job.status)))) i
              ∙ ap (λ b. cond b None (as_moment (end_after job.spec.deadline (start_of t job.spec job.status)))) unsettled
              ∙ ap (λ start. as_moment (end_after job.spec.deadline start)) same

          not-yet : has_come the-end now ≡ false
          not-yet = ap (λ b. not b && has_come the-end now) (sym i) ∙ before

          of-end : (o : Option ℕ) → the-end ≡ o → has_come o later ≡ false
          of-end None e = refl
          of-end (Some m) e = of-last (nat_lt m end_of_moments) refl
            where
              yet : now < m
              yet = leb-false m now (ap (λ o. has_come o now) (sym e) ∙ not-yet)

              moment-is : (b : Bool) → nat_lt m end_of_moments ≡ b → (t : ℕ) → start_of t job.spec job.status ≡ start_of now job.spec job.status → deadline_of t job.spec job.status ≡ cond b (Some m) None
              moment-is b j t same = deadline-at t same ∙ ap as_moment e ∙ ap (λ c. cond c (Some m) None) j

              of-last : (b : Bool) → nat_lt m end_of_moments ≡ b → nat_le m later ≡ false
              of-last true j =
                  let lt = ltb-true later m (ap (is_ahead later) (sym (moment-is true j later start-on)) ∙ on (ap (is_ahead now) (moment-is true j now refl) ∙ lt-ltb now m yet)) in
                  not-le lt
                where
                  not-le : later < m → nat_le m later ≡ false
                  not-le lt = lt-leb m later lt
              of-last false j = let past = ltb-false m end_of_moments j in lt-leb m later (omega (arith, past, within))

  none-later : next_decided later job own ≡ None
  none-later = by (has_target job.status.conditions) refl none-now
    where
      by : (t : Bool) → has_target job.status.conditions ≡ t
          → cond t None (decision (next_counted job own) job.spec own (is_overdue now job.spec job.status)) ≡ None
          → cond t None (decision (next_counted job own) job.spec own (is_overdue later job.spec job.status)) ≡ None
      by true i e = refl
      by false i e =
          let before = none-overdue (next_counted job own) now job own e in
          ap (decision (next_counted job own) job.spec own) (none-comes i before ∙ sym before) ∙ e

  pub next-later : next_quiet later job own ≡ job.status
  unfolding next_quiet
  next-later = at-none later none-later ∙ same ∙ sym (at-none now none-now) ∙ next
    where
      quiet : ℕ → JobStatus
      quiet t = filled t job own (next_counted job own) None nothing_wanted (due_at None)

      at-none : (t : ℕ) → next_decided t job own ≡ None → filled t job own (next_counted job own) (next_decided t job own) nothing_wanted (due_at (next_decided t job own)) ≡ quiet t
      at-none t e = ap (λ o. filled t job own (next_counted job own) o nothing_wanted (due_at o)) e

      same : quiet later ≡ quiet now
      same = λ i. record (quiet now) {
        start = start-on i;
        completion = (none-completed later job (conditions_at later job None (due_at None)) conditions-on ∙ sym (none-completed now job (conditions_at now job None (due_at None)) conditions-were)) i;
        conditions = (conditions-on ∙ sym conditions-were) i;
      }

-- ---- one Job

draft-is : (now : ℕ) (job : Job) (own : List Pod) → is_draft now job own ≡ false → next_quiet now job own ≡ job.status
draft-is now job own e = sym ((status-exact job.status (next_quiet now job own)).0 (not-false (same_status job.status (next_quiet now job own)) e))
  where
    not-false : (b : Bool) → not b ≡ false → b ≡ true
    not-false true h = refl
    not-false false h = absurd (true≢false h)

pub no-draft : (now : ℕ) (job : Job) (own : List Pod) → next_quiet now job own ≡ job.status → is_draft now job own ≡ false
no-draft now job own e = ap not ((status-exact job.status (next_quiet now job own)).1 (sym e))

one-job : (now later : ℕ) → now ≤ later → later < end_of_moments → (job : Job) (own : List Pod)
    → 2 * one_if (deadline_is_ahead later job) + one_if (is_draft later job own) ≤ 2 * one_if (deadline_is_ahead now job) + one_if (is_draft now job own)
one-job now later le within job own = by (deadline_is_ahead later job) refl (deadline_is_ahead now job) refl (is_draft now job own) refl
  where
    most : one_if (is_draft later job own) ≤ 1
    most = one-most (is_draft later job own)

    on-same : (a b : Bool) → deadline_is_ahead later job ≡ a → deadline_is_ahead now job ≡ b → a ≡ b → is_draft now job own ≡ false → one_if (is_draft later job own) ≡ 0
    on-same a b i j same e = ap one_if (no-draft later job own (next-later now later within job own (draft-is now job own e) (λ h. i ∙ same ∙ sym j ∙ h)))

    by : (a : Bool) → deadline_is_ahead later job ≡ a → (b : Bool) → deadline_is_ahead now job ≡ b → (d : Bool) → is_draft now job own ≡ d
        → 2 * one_if a + one_if (is_draft later job own) ≤ 2 * one_if b + one_if d
    by true i false j d e = absurd (true≢false (sym (deadline-before now later le job i) ∙ j))
    by false i true j d e = omega (arith, most)
    by a i b j true e = of-draft a b i j
      where
        of-draft : (a b : Bool) → deadline_is_ahead later job ≡ a → deadline_is_ahead now job ≡ b → 2 * one_if a + one_if (is_draft later job own) ≤ 2 * one_if b + 1
        of-draft true true i j = omega (arith, most)
        of-draft false false i j = omega (arith, most)
        of-draft false true i j = omega (arith, most)
        of-draft true false i j = absurd (true≢false (sym (deadline-before now later le job i) ∙ j))
    by true i true j false e = let none = on-same true true i j refl e in omega (arith, none)
    by false i false j false e = let none = on-same false false i j refl e in omega (arith, none)

pub statuses-fall : (now later : ℕ) (log : List Entry) → now ≤ later → later < end_of_moments → statuses_to_come later log ≤ statuses_to_come now log
statuses-fall now later log le within =
    two-fall (λ row. deadline_is_ahead later row.1) (λ row. is_draft later row.1 (own_pods row.1 (pods_under row.0 log)))
    (λ row. deadline_is_ahead now row.1) (λ row. is_draft now row.1 (own_pods row.1 (pods_under row.0 log)))
    (λ row. one-job now later le within row.1 (own_pods row.1 (pods_under row.0 log))) (jobs_in log)

-- ---- moments

pub moments-fall : (now later : ℕ) (log : List Entry) (notes : List Note) → now ≤ later → moments_to_come later log (Ticked later ∷ notes) ≤ moments_to_come now log notes
moments-fall now later log notes le =
    let deadlines = stronger-fewer (λ (row : Key × Job). is_ahead later (deadline_by_status row.1)) (λ row. is_ahead now (deadline_by_status row.1)) (λ row h. ahead-before now later le (deadline_by_status row.1) h) (jobs_in log) in
    let openings = stronger-fewer (λ (row : Key × Job). is_ahead later (opening (backoff row.0 notes))) (λ row. is_ahead now (opening (backoff row.0 notes))) (λ row h. ahead-before now later le (opening (backoff row.0 notes)) h) (jobs_in log) in
    omega (arith, deadlines, openings)
