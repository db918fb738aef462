-- What counts of a Job is the same before and after all requests of a plan.
use Rattle.std.proofs.Common.{◌≡◌, ℕ, suc, ◌+◌, ◌<◌, ◌==◌, nat_lt, Bool, true, false, not, ◌&&◌, ◌||◌, List, [], ◌∷◌, ◌++◌, map, filter, length, Option, Some, refl, sym, ap, ◌∙◌, subst, arith, true≢false, unwrap_or}
use Rattle.std.specs.List.{AllByRecursion as Each, list_any}
use Rattle.std.proofs.lemmas.Bool.{and_parts, and_right, eqb-true, lt-ltb, ltb-true}
use Rattle.std.proofs.lemmas.List.{append-nil, nil_from_length}
use Rattle.std.proofs.lemmas.List.Elements.{filter-append, recursion_from_All}
use Rattle.jc_ranges.specs.Sets.{IsIncreasing, has}
use Rattle.jc_types.specs.declared.objects.Job.{Job}
use Rattle.jc_types.specs.declared.objects.Pod.{Pod}
use Rattle.jc_types.specs.declared.policies.FailurePolicy.{FailurePolicy}
use Rattle.jc_types.specs.declared.specifications.Mode.{Mode}
use Rattle.jc_types.specs.declared.specifications.Mode.TheVariants.{NonIndexed, Indexed}
use Rattle.jc_types.specs.declared.statuses.IndexCount.{IndexCount}
use Rattle.jc_types.specs.declared.statuses.JobStatus.{JobStatus}
use Rattle.jc_types.proofs.ListFacts.{Each-weaker, filter_all, filter_filter, filter_none, filter_swap, filter_within}
use Rattle.jc_states.specs.declared.bases.Basis.{Basis}
use Rattle.jc_states.specs.Bases.{own_pods}
use Rattle.jc_states.specs.Conditions.{has_end}
use Rattle.jc_states.specs.PodLists.{IsRising}
use Rattle.jc_states.specs.Pods.{is_active, is_tracked}
use Rattle.jc_states.specs.Indexes.{has_index}
use Rattle.jc_states.specs.UidLists.{join}
use Rattle.jc_states.proofs.UidListFacts.{has-join}
use Rattle.jc_failpol.specs.declared.outcomes.Outcome.{Outcome}
use Rattle.jc_failpol.specs.declared.outcomes.Outcome.TheVariants as outcome
use Rattle.jc_failpol.specs.Outcomes.{outcome_of, same_outcome}
use Rattle.jc_account.specs.Accounts.{completed_in, counted_in}
use Rattle.jc_account.specs.Judged.{candidates, fits, is_candidate, judged_now, left_over, left_with, newly, room}
use Rattle.jc_account.specs.Modes.{completed_after, indexes_of, kept_indexes}
use Rattle.jc_account.specs.Rooms.{joins_list, precedes, takes_room}
use Rattle.jc_account.proofs.AccountFacts.{indexes-below, left-indexed, left-succeeded, succeeded-all-out, succeeded-sum}
use Rattle.jc_perindex.specs.Failures.{fails_at, failures_of, policy_fails_index, raised, raised_at}
use Rattle.jc_perindex.proofs.Raised.{none-raised}
use Rattle.jc_plan.specs.Plans.{last_status, planned}
use Rattle.jc_plan.specs.Statuses.{first_value, second_value}
use Rattle.jc_plan.proofs.NextFacts.{last-second}
use Rattle.jc_plan.proofs.ValueFacts.{first-succeeded, first-succeeded_list, second-completed, second-lists_none, second-succeeded}
use Rattle.jc_making.specs.Grants.{AllGranted, AreNew, job_left}
use Rattle.jc_making.specs.Making.{completed_now, new_successes, pods_succeeded}
use Rattle.jc_making.proofs.ClosedFacts.{is_over}
use Rattle.jc_making.proofs.Lists.{halves}
use Rattle.jc_making.proofs.PlanFacts.{Ended, news-left, stays_new, success-ended}

-- A success of an Indexed Job takes no room.
no-room : (mode : Mode) → mode ≡ Indexed → (o : Outcome) (b : Bool) → same_outcome o outcome.Succeeded ≡ true → (not (joins_list mode o) || b) ≡ true
no-room mode is o b e = ap (λ m. not (joins_list m o) || b) is ∙ ap (λ s. not (not s) || b) e

-- New pods pass no such test.
none-fresh : (test : Pod → Bool) (ended : Ended test) (chosen : Pod → Bool) (made : ℕ) (indexes : List (Option ℕ)) (pods : List Pod) → AreNew made indexes pods → Each (λ p. (chosen p && test p) ≡ false) pods
none-fresh test ended chosen made [] [] h = tt
none-fresh test ended chosen made [] (p ∷ pods) h = absurd h
none-fresh test ended chosen made (index ∷ indexes) [] h = absurd h
none-fresh test ended chosen made (index ∷ indexes) (p ∷ pods) h =
    (ap (λ b. chosen p && b) (ended p p refl (and_parts (is_active p) (is_tracked p) h.0.active).0) ∙ and_right (chosen p) false refl, none-fresh test ended chosen (suc made) indexes pods h.1)

-- ---- failures by index

-- The count of one of these indexes is over.
over-at : (limit n : ℕ) (failure : Option FailurePolicy) (counts : List IndexCount) (pods : List Pod) (ks : List ℕ)
    → is_over limit n (map (raised_at failure counts pods) ks) ≡ (has n ks && (nat_lt limit (raised_at failure counts pods n).failures || (raised_at failure counts pods n).fail))
over-at limit n failure counts pods [] = refl
over-at limit n failure counts pods (k ∷ ks) = by (k == n) refl (over-at limit n failure counts pods ks)
  where
    big : ℕ → Bool
    big m = nat_lt limit (raised_at failure counts pods m).failures || (raised_at failure counts pods m).fail

    by : (b : Bool) → (k == n) ≡ b → is_over limit n (map (raised_at failure counts pods) ks) ≡ (has n ks && (nat_lt limit (raised_at failure counts pods n).failures || (raised_at failure counts pods n).fail))
        → (((k == n) && (nat_lt limit (raised_at failure counts pods k).failures || (raised_at failure counts pods k).fail)) || is_over limit n (map (raised_at failure counts pods) ks))
        ≡ (((k == n) || has n ks) && (nat_lt limit (raised_at failure counts pods n).failures || (raised_at failure counts pods n).fail))
    by true e ih =
        ap (λ b. (b && (nat_lt limit (raised_at failure counts pods k).failures || (raised_at failure counts pods k).fail)) || is_over limit n (map (raised_at failure counts pods) ks)) e
        ∙ ap (λ m. (nat_lt limit (raised_at failure counts pods m).failures || (raised_at failure counts pods m).fail) || is_over limit n (map (raised_at failure counts pods) ks)) (eqb-true k n e)
        ∙ ap (λ b. (nat_lt limit (raised_at failure counts pods n).failures || (raised_at failure counts pods n).fail) || b) ih
        ∙ same (nat_lt limit (raised_at failure counts pods n).failures || (raised_at failure counts pods n).fail) (has n ks)
        ∙ ap (λ b. (b || has n ks) && (nat_lt limit (raised_at failure counts pods n).failures || (raised_at failure counts pods n).fail)) (sym e)
      where
        same : (a b : Bool) → (a || (b && a)) ≡ a
        same true b = refl
        same false true = refl
        same false false = refl
    by false e ih =
        ap (λ b. (b && (nat_lt limit (raised_at failure counts pods k).failures || (raised_at failure counts pods k).fail)) || is_over limit n (map (raised_at failure counts pods) ks)) e
        ∙ ih
        ∙ ap (λ b. (b || has n ks) && (nat_lt limit (raised_at failure counts pods n).failures || (raised_at failure counts pods n).fail)) (sym e)

-- With more failures no index is over that was not.
pub over-raised : (limit n : ℕ) (failure : Option FailurePolicy) (counts : List IndexCount) (pods : List Pod) → IsIncreasing (map (λ (count : IndexCount). count.index) counts)
    → is_over limit n counts ≡ true → is_over limit n (raised failure counts pods) ≡ true
over-raised limit n failure counts pods up h =
    over-at limit n failure counts pods (join indexes (indexes_of pods))
    ∙ ap (λ b. b && (nat_lt limit (raised_at failure counts pods n).failures || (raised_at failure counts pods n).fail)) (has-join n indexes (indexes_of pods))
    ∙ by (has n indexes) (has n (indexes_of pods)) (failures_of n counts) (length (filter (has_index n) pods)) (fails_at n counts) (list_any (λ pod. has_index n pod && policy_fails_index failure pod) pods)
    (sym (over-at limit n failure counts [] indexes) ∙ ap (is_over limit n) (none-raised failure counts up) ∙ h)
  where
    indexes : List ℕ
    indexes = map (λ (count : IndexCount). count.index) counts

    by : (a b : Bool) (old new : ℕ) (f g : Bool) → (a && (nat_lt limit (old + 0) || (f || false))) ≡ true → ((a || b) && (nat_lt limit (old + new) || (f || g))) ≡ true
    by false b old new f g e = absurd (true≢false (sym e))
    by true b old new true g e = or-true (nat_lt limit (old + new))
      where
        or-true : (c : Bool) → (c || true) ≡ true
        or-true true = refl
        or-true false = refl
    by true b old new false g e = either (nat_lt limit (old + 0)) refl e
      where
        either : (c : Bool) → nat_lt limit (old + 0) ≡ c → (c || false) ≡ true → (nat_lt limit (old + new) || g) ≡ true
        either true l e = ap (λ c. c || g) (lt-ltb limit (old + new) (let less = ltb-true limit (old + 0) l in omega (arith, less)))
        either false l e = absurd (true≢false (sym e))

-- ---- after the plan

module _ (job : Job) (basis : Basis) (this : basis.job ≡ Some job) (rises : IsRising basis.pods) where
  abbrev pub own_now : List Pod
  own_now = own_pods job basis.pods

  abbrev pub left : JobStatus
  left = last_status (planned basis) job.status

  abbrev pub then : Job
  then = job_left (planned basis) job

  pub left-is : left ≡ second_value job basis
  left-is = last-second job basis this

  pub lists-success : left.uncounted_succeeded ≡ []
  lists-success = ap (λ (s : JobStatus). s.uncounted_succeeded) left-is ∙ (second-lists_none job basis).1

  pub lists-failure : left.uncounted_failed ≡ []
  lists-failure = ap (λ (s : JobStatus). s.uncounted_failed) left-is ∙ (second-lists_none job basis).0

  module _ (test : Pod → Bool) (ended : Ended test) where
    -- What is to be judged then is what is left over now.
    pub anew-then : (made : ℕ) (now : List Pod) → AllGranted (planned basis) made own_now now → filter test (candidates then now) ≡ filter test (left_over job own_now)
    anew-then made now is =
        filter_filter test (is_candidate then) now
        ∙ ap (filter (λ p. is_candidate then p && test p)) is.parts
        ∙ filter-append (λ p. is_candidate then p && test p) is.after is.fresh
        ∙ (λ i. news-left job basis this rises left lists-success lists-failure test ended is.after is.follow i
        ++ filter_none (λ p. is_candidate then p && test p) is.fresh (none-fresh test ended (is_candidate then) made (planned basis).creates is.fresh is.new) i)
        ∙ append-nil (filter (stays_new job basis this rises left lists-success lists-failure test ended) own_now)
        ∙ sym (filter_filter test (λ p. is_candidate job p && not (fits job own_now p)) own_now)
        ∙ ap (filter test) (sym (filter_filter (λ p. not (fits job own_now p)) (is_candidate job) own_now))

    -- Those that are to be judged are judged now or left over.
    pub judged-and-left : length (filter test (judged_now job own_now)) + length (filter test (left_over job own_now)) ≡ length (filter test (candidates job own_now))
    judged-and-left =
        let first = ap length (filter_swap test (fits job own_now) (candidates job own_now)) in
        let second = ap length (filter_swap test (λ p. not (fits job own_now p)) (candidates job own_now)) in
        let both = halves (fits job own_now) (filter test (candidates job own_now)) in
        omega (arith, first, second, both)

  -- Of successes.
  pub news-then : (made : ℕ) (now : List Pod) → AllGranted (planned basis) made own_now now → new_successes then now ≡ left_with job own_now outcome.Succeeded
  news-then = anew-then (λ pod. same_outcome (outcome_of job.spec pod) outcome.Succeeded) (success-ended job.spec)

  pub judged-or-left : length (newly job own_now outcome.Succeeded) + length (left_with job own_now outcome.Succeeded) ≡ length (new_successes job own_now)
  judged-or-left = judged-and-left (λ pod. same_outcome (outcome_of job.spec pod) outcome.Succeeded) (success-ended job.spec)

  -- The successes of a Job that is not Indexed stay as many.
  pub successes-stay : (made : ℕ) (now : List Pod) → job.spec.mode ≡ NonIndexed → AllGranted (planned basis) made own_now now → pods_succeeded then now ≡ pods_succeeded job own_now
  successes-stay made now plain is =
      omega (
        arith,
        ap length (news-then made now is),
        judged-or-left,
        ap length lists-success,
        ap (λ (s : JobStatus). s.succeeded) left-is,
        second-succeeded job basis,
        succeeded-all-out job basis.pods (first_value job basis) (first-succeeded_list job basis),
        first-succeeded job basis,
        ap length (first-succeeded_list job basis),
        succeeded-sum job basis.pods plain rises,
      )

  module _ (indexed : job.spec.mode ≡ Indexed) where
    pub none-left : left_with job own_now outcome.Succeeded ≡ []
    none-left = nil_from_length (left_with job own_now outcome.Succeeded) (omega (arith, left-indexed job basis.pods indexed, left-succeeded job basis.pods))

    all-judged : newly job own_now outcome.Succeeded ≡ new_successes job own_now
    all-judged =
        filter_within (λ pod. same_outcome (outcome_of job.spec pod) outcome.Succeeded) (fits job own_now)
        (λ pod e. no-room job.spec.mode indexed (outcome_of job.spec pod) (nat_lt (length (filter (precedes pod.uid) (filter (takes_room job.spec) (candidates job own_now)))) (room job own_now)) e)
        (candidates job own_now)

    module _ (unended : has_end job.status.conditions ≡ false) where
      abbrev wanted_now : ℕ
      wanted_now = unwrap_or job.spec.completions 0

      pub counted-is : completed_in job own_now ≡ completed_now job own_now
      counted-is = λ i. completed_after job.spec.mode (unended i) wanted_now job.status.completed (all-judged i)

      pub in-is : (counted_in job basis.pods).completed ≡ completed_in job own_now
      unfolding counted_in
      in-is = refl

      pub left-completed : left.completed ≡ completed_now job own_now
      left-completed = ap (λ (s : JobStatus). s.completed) left-is ∙ second-completed job basis ∙ in-is ∙ counted-is

      pub below : Each (λ n. n < wanted_now) (completed_now job own_now)
      below = subst (Each (λ n. n < wanted_now)) (in-is ∙ counted-is) (recursion_from_All (λ n. n < wanted_now) (counted_in job basis.pods).completed (indexes-below job basis.pods indexed unended))

      kept : kept_indexes false wanted_now (completed_now job own_now) ≡ completed_now job own_now
      kept = filter_all (λ n. nat_lt n wanted_now) (completed_now job own_now) (Each-weaker (λ n. n < wanted_now) (λ n. nat_lt n wanted_now ≡ true) (λ n l. lt-ltb n wanted_now l) (completed_now job own_now) below)

      -- The completed indexes of an Indexed Job stay.
      pub indexes-stay : (made : ℕ) (now : List Pod) → AllGranted (planned basis) made own_now now → completed_now then now ≡ completed_now job own_now
      indexes-stay made now is =
          (λ i. completed_after (indexed i) false wanted_now (left-completed i) ((news-then made now is ∙ none-left) i)) ∙ kept
