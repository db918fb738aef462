-- A plan that writes no status finds room for each pod, so it leaves none over.
use Rattle.std.proofs.Common.{◌≡◌, ◌+◌, ◌-◌, ◌≤◌, Bool, true, false, not, cond, nat_lt, ◌&&◌, ◌||◌, List, [], ◌∷◌, filter, length, None, Some, refl, sym, ap, ◌∙◌, arith, le-ltb, true≢false}
use Rattle.std.specs.List.{AllByRecursion as Each}
use Rattle.std.specs.Option.{unwrap_or}
use Rattle.std.proofs.lemmas.Bool.{and_parts, and_right, not_from_true, or_right}
use Rattle.jc_types.specs.declared.limits.TheConstants.{MOST_UNCOUNTED}
use Rattle.jc_types.specs.declared.numbers.Uid.{Uid}
use Rattle.jc_types.specs.declared.objects.Job.{Job}
use Rattle.jc_types.specs.declared.objects.Pod.{Pod}
use Rattle.jc_types.specs.declared.specifications.Mode.{Mode}
use Rattle.jc_types.specs.declared.specifications.Mode.TheVariants.{Indexed, NonIndexed}
use Rattle.jc_types.specs.declared.statuses.JobStatus.{JobStatus}
use Rattle.jc_types.proofs.ListFacts.{Each-both, Each-filter, Each-passes, Each-weaker, filter_none, filter_swap}
use Rattle.jc_states.specs.declared.bases.Basis.{Basis}
use Rattle.jc_states.specs.Bases.{is_own, own_pods}
use Rattle.jc_states.specs.Listed.{is_listed}
use Rattle.jc_states.specs.PodLists.{IsRising, RisesFrom}
use Rattle.jc_states.specs.Pods.{is_tracked}
use Rattle.jc_states.specs.UidLists.{is_in}
use Rattle.jc_states.proofs.PodListFacts.{rises-each, rises_filter}
use Rattle.jc_failpol.specs.declared.outcomes.Outcome.{Outcome}
use Rattle.jc_failpol.specs.declared.outcomes.Outcome.TheVariants as outcome
use Rattle.jc_failpol.specs.Outcomes.{is_verdict, outcome_of, same_outcome}
use Rattle.jc_account.specs.Accounts.{counted_in}
use Rattle.jc_account.specs.Judged.{candidates, fits, is_candidate, is_staying, judged_now, left_over, newly, room}
use Rattle.jc_account.specs.Rooms.{joins_list, precedes, takes_room}
use Rattle.jc_account.proofs.AccountFacts.{failed-length, succeeded-length}
use Rattle.jc_account.proofs.ListedFacts.{each}
use Rattle.jc_account.proofs.RoomFacts.{first-preceded as none-before}
use Rattle.jc_plan.specs.Plans.{planned}
use Rattle.jc_plan.specs.Statuses.{first_value, second_value}
use Rattle.jc_plan.proofs.BackoffFacts.{first-unneeded}
use Rattle.jc_plan.proofs.NextFacts.{last-second}
use Rattle.jc_plan.proofs.ValueFacts.{first-failed_list, first-succeeded_list, second-lists_none}

-- ---- lists

no-pods : (pods : List Pod) → length pods ≡ 0 → pods ≡ []
no-pods [] h = refl
no-pods (pod ∷ pods) h = absurd (omega (arith, h))

-- What a filter leaves nothing of passes it nowhere.
pub none-passes : (test : Pod → Bool) (pods : List Pod) → filter test pods ≡ [] → Each (λ pod. test pod ≡ false) pods
none-passes test [] h = tt
none-passes test (pod ∷ pods) h = by (test pod) refl h (none-passes test pods)
  where
    by : (b : Bool) → test pod ≡ b → cond b (pod ∷ filter test pods) (filter test pods) ≡ [] → (filter test pods ≡ [] → Each (λ p. test p ≡ false) pods) → (test pod ≡ false) × Each (λ p. test p ≡ false) pods
    by true e h more = absurd (omega (arith, ap length h))
    by false e h more = (e, more h)

-- What is judged, and neither fails nor succeeds where that joins a list, joins none.
joins-none : (mode : Mode) (o : Outcome) → is_verdict o ≡ true → same_outcome o outcome.Failed ≡ false → (mode ≡ NonIndexed → same_outcome o outcome.Succeeded ≡ false) → joins_list mode o ≡ false
joins-none NonIndexed outcome.Succeeded v f s = absurd (true≢false (s refl))
joins-none NonIndexed outcome.Failed v f s = absurd (true≢false f)
joins-none NonIndexed outcome.Alive v f s = absurd (true≢false (sym v))
joins-none NonIndexed outcome.Ignored v f s = absurd (true≢false (sym v))
joins-none Indexed outcome.Succeeded v f s = refl
joins-none Indexed outcome.Failed v f s = absurd (true≢false f)
joins-none Indexed outcome.Alive v f s = absurd (true≢false (sym v))
joins-none Indexed outcome.Ignored v f s = absurd (true≢false (sym v))

module _ (job : Job) (basis : Basis) (this : basis.job ≡ Some job) (rises : IsRising basis.pods) (first : (planned basis).first ≡ None) (second : (planned basis).second ≡ None) where
  abbrev pub own : List Pod
  own = own_pods job basis.pods

  -- ---- both values are the status of the Job, which lists none

  is-first : first_value job basis ≡ job.status
  is-first = first-unneeded job basis this first

  is-second : second_value job basis ≡ job.status
  is-second =
      sym (last-second job basis this)
      ∙ ap (λ o. unwrap_or o (unwrap_or (planned basis).first job.status)) second
      ∙ ap (λ o. unwrap_or o job.status) first

  none-failed : job.status.uncounted_failed ≡ []
  none-failed = ap (λ (s : JobStatus). s.uncounted_failed) (sym is-second) ∙ (second-lists_none job basis).0

  none-succeeded : job.status.uncounted_succeeded ≡ []
  none-succeeded = ap (λ (s : JobStatus). s.uncounted_succeeded) (sym is-second) ∙ (second-lists_none job basis).1

  unlisted : (u : Uid) → is_listed job.status u ≡ false
  unlisted u = ap (λ us. is_in u us || is_in u job.status.uncounted_failed) none-succeeded ∙ ap (is_in u) none-failed

  -- ---- so there is all the room, and none joins a list

  all-room : room job own ≡ MOST_UNCOUNTED
  all-room =
      ap (λ pods. MOST_UNCOUNTED - length pods)
      (filter_none (is_staying job) own (each (λ p. is_staying job p ≡ false) (λ p. and_right (is_tracked p) (is_listed job.status p.uid) (unlisted p.uid)) own))

  none-newly : newly job own outcome.Failed ≡ []
  none-newly =
      let is : (counted_in job basis.pods).uncounted_failed ≡ [] = sym (first-failed_list job basis) ∙ ap (λ (s : JobStatus). s.uncounted_failed) is-first ∙ none-failed in
      no-pods (newly job own outcome.Failed) (omega (arith, failed-length job basis.pods rises, ap length is))

  none-gained : job.spec.mode ≡ NonIndexed → newly job own outcome.Succeeded ≡ []
  none-gained plain =
      let is : (counted_in job basis.pods).uncounted_succeeded ≡ [] = sym (first-succeeded_list job basis) ∙ ap (λ (s : JobStatus). s.uncounted_succeeded) is-first ∙ none-succeeded in
      no-pods (newly job own outcome.Succeeded) (omega (arith, succeeded-length job basis.pods plain rises, ap length is))

  none-judged : filter (takes_room job.spec) (judged_now job own) ≡ []
  none-judged =
      filter_none (takes_room job.spec) (judged_now job own)
      (Each-weaker (λ p. (is_candidate job p ≡ true) × ((same_outcome (outcome_of job.spec p) outcome.Failed ≡ false) × (job.spec.mode ≡ NonIndexed → same_outcome (outcome_of job.spec p) outcome.Succeeded ≡ false)))
      (λ p. takes_room job.spec p ≡ false)
      (λ p h. joins-none job.spec.mode (outcome_of job.spec p) (verdict p h.0) h.1.0 h.1.1) (judged_now job own)
      (Each-both (λ p. is_candidate job p ≡ true) (λ p. (same_outcome (outcome_of job.spec p) outcome.Failed ≡ false) × (job.spec.mode ≡ NonIndexed → same_outcome (outcome_of job.spec p) outcome.Succeeded ≡ false)) (judged_now job own)
      (Each-filter (λ p. is_candidate job p ≡ true) (fits job own) (candidates job own) (Each-passes (is_candidate job) own))
      (Each-both (λ p. same_outcome (outcome_of job.spec p) outcome.Failed ≡ false) (λ p. job.spec.mode ≡ NonIndexed → same_outcome (outcome_of job.spec p) outcome.Succeeded ≡ false) (judged_now job own)
      (none-passes (λ p. same_outcome (outcome_of job.spec p) outcome.Failed) (judged_now job own) none-newly)
      (where-plain job.spec.mode refl))))
    where
      verdict : (p : Pod) → is_candidate job p ≡ true → is_verdict (outcome_of job.spec p) ≡ true
      verdict p h = (and_parts (is_verdict (outcome_of job.spec p)) (not (is_listed job.status p.uid)) (and_parts (is_tracked p) (is_verdict (outcome_of job.spec p) && not (is_listed job.status p.uid)) h).1).0

      where-plain : (mode : Mode) → job.spec.mode ≡ mode → Each (λ p. job.spec.mode ≡ NonIndexed → same_outcome (outcome_of job.spec p) outcome.Succeeded ≡ false) (judged_now job own)
      where-plain NonIndexed is =
          Each-weaker (λ p. same_outcome (outcome_of job.spec p) outcome.Succeeded ≡ false) (λ p. job.spec.mode ≡ NonIndexed → same_outcome (outcome_of job.spec p) outcome.Succeeded ≡ false)
          (λ p h plain. h) (judged_now job own)
          (none-passes (λ p. same_outcome (outcome_of job.spec p) outcome.Succeeded) (judged_now job own) (none-gained is))
      where-plain Indexed is =
          each (λ p. job.spec.mode ≡ NonIndexed → same_outcome (outcome_of job.spec p) outcome.Succeeded ≡ false) (λ p plain. absurd (no-mode (sym is ∙ plain))) (judged_now job own)
        where
          no-mode : Indexed ≡ NonIndexed → ⊥
          no-mode e = cc

  abbrev takers : List Pod
  takers = filter (takes_room job.spec) (candidates job own)

  none-takes : filter (takes_room job.spec) (candidates job own) ≡ []
  none-takes =
      by takers refl (rises_filter 0 (takes_room job.spec) (candidates job own) (rises_filter 0 (is_candidate job) own (rises_filter 0 (is_own job) basis.pods rises)))
      (sym (filter_swap (takes_room job.spec) (fits job own) (candidates job own)) ∙ none-judged)
    where
      by : (pods : List Pod) → takers ≡ pods → RisesFrom 0 pods → filter (fits job own) pods ≡ [] → pods ≡ []
      by [] is up h = refl
      by (pod ∷ pods) is up h = absurd (true≢false (sym fit ∙ (none-passes (fits job own) (pod ∷ pods) h).0))
        where
          fit : fits job own pod ≡ true
          fit =
              or_right (not (takes_room job.spec pod)) (nat_lt (length (filter (precedes pod.uid) takers)) (room job own))
              (ap (λ xs. nat_lt (length (filter (precedes pod.uid) xs)) (room job own)) is
              ∙ ap (λ xs. nat_lt (length xs) (room job own)) (none-before pod pods up.1) ∙ ap (nat_lt 0) all-room)

  -- ---- so each pod fits

  pub all-fit : (pod : Pod) → fits job own pod ≡ true
  all-fit pod =
      or_right (not (takes_room job.spec pod)) (nat_lt (length (filter (precedes pod.uid) takers)) (room job own))
      (ap (λ xs. nat_lt (length (filter (precedes pod.uid) xs)) (room job own)) none-takes ∙ ap (nat_lt 0) all-room)

  pub none-left : left_over job own ≡ []
  none-left =
      filter_none (λ p. not (fits job own p)) (candidates job own)
      (each (λ p. not (fits job own p) ≡ false) (λ p. not_from_true (fits job own p) (all-fit p)) (candidates job own))
