-- A plan of an Indexed Job uses up what may be made.
use Rattle.std.proofs.Common.{◌≡◌, ℕ, ◌+◌, ◌-◌, ◌<◌, ◌≤◌, min, nat_lt, nat_le, Bool, true, false, cond, not, ◌&&◌, ◌||◌, List, [], ◌++◌, map, filter, length, take, Option, Some, None, IsSome, is_some, unwrap_or, refl, sym, ap}
use Rattle.std.proofs.Common.{◌∙◌, subst, arith, true≢false}
use Rattle.std.specs.List.{AllByRecursion as Each, range_with_len}
use Rattle.std.proofs.lemmas.Bool.{and_parts, lt-leb, ltb-true}
use Rattle.std.proofs.lemmas.List.{append-nil, length-append}
use Rattle.std.proofs.lemmas.List.Elements.{All-from_recursion, recursion_from_All}
use Rattle.std.proofs.lemmas.List.Folds.{list_any_none}
use Rattle.jc_ranges.specs.Sets.{IsIncreasing, has}
use Rattle.jc_ranges.proofs.Back.{range_set}
use Rattle.jc_types.specs.declared.objects.Job.{Job}
use Rattle.jc_types.specs.declared.objects.Pod.{Pod}
use Rattle.jc_types.specs.declared.specifications.Mode.{Mode}
use Rattle.jc_types.specs.declared.specifications.Mode.TheVariants.{Indexed}
use Rattle.jc_types.specs.declared.specifications.Replacement.{Replacement}
use Rattle.jc_types.specs.declared.specifications.Replacement.TheVariants.{TerminatingOrFailed, FailedOnly}
use Rattle.jc_types.specs.declared.statuses.IndexCount.{IndexCount}
use Rattle.jc_types.specs.declared.statuses.JobStatus.{JobStatus}
use Rattle.jc_types.specs.declared.syncs.CountIn.{CountIn}
use Rattle.jc_types.specs.Counts.{counts}
use Rattle.jc_types.proofs.ListFacts.{Each-both, Each-filter, Each-map, Each-passes, Each-take, Each-weaker, any_filter}
use Rattle.jc_states.specs.declared.bases.Basis.{Basis}
use Rattle.jc_states.specs.Bases.{own_pods}
use Rattle.jc_states.specs.Conditions.{has_end, has_target}
use Rattle.jc_states.specs.Indexes.{has_index}
use Rattle.jc_states.specs.PodLists.{IsRising, RisesFrom}
use Rattle.jc_states.specs.Pods.{is_active, is_ending, is_tracked, is_tracked_active, tracked_active_pods}
use Rattle.jc_states.proofs.PodListFacts.{each-fails, rises_filter}
use Rattle.jc_account.specs.Accounts.{counted_in}
use Rattle.jc_account.specs.Modes.{completed_after, indexes_below}
use Rattle.jc_account.proofs.AccountFacts.{empty-in, indexed-total, left-indexed}
use Rattle.jc_account.proofs.ListedFacts.{each}
use Rattle.jc_account.proofs.Owned.{filter-least}
use Rattle.jc_perindex.specs.Failures.{failing_by, failing_in, failures_by, failures_in, has_failed, newly_failed, raised}
use Rattle.jc_perindex.proofs.Raised.{raised-ascends}
use Rattle.jc_perindex.proofs.Sets.{increasing-filter, increasing-join, up-kept}
use Rattle.jc_manage.specs.Backoffs.{backoff_after, is_delayed_until, opening}
use Rattle.jc_manage.specs.Creations.{creates, free, holds, is_free, job_lacks, keepers, keeps, new_pods, wanted}
use Rattle.jc_manage.specs.LetGoes.{is_earlier, is_needless, is_one_of, is_spare, remaining}
use Rattle.jc_manage.proofs.Bounds.{free-new, free-unkept}
use Rattle.jc_plan.specs.Plans.{planned}
use Rattle.jc_plan.specs.Statuses.{accounted, decided_in, is_end_decided}
use Rattle.jc_plan.proofs.PlanFacts.{plan-creates}
use Rattle.jc_plan.proofs.ValueFacts.{second-index_failures}
use Rattle.jc_making.specs.Grants.{AllGranted, AreNew}
use Rattle.jc_making.specs.Making.{IsCounted, completed_now, failed_by, is_closed, new_successes, open_indexes, places, places_of, pods_succeeded}
use Rattle.jc_making.proofs.ClosedFacts.{closed-stays, is_over, past-closed}
use Rattle.jc_making.proofs.CreationFacts.{fresh-length, kept, kept-many, made-few, tracked-now, wants}
use Rattle.jc_making.proofs.FreshFacts.{all-of-use, increasing-take, open-size}
use Rattle.jc_making.proofs.Lists.{fewer}
use Rattle.jc_making.proofs.OrderFacts.{few-go_indexed}
use Rattle.jc_making.proofs.PlanFacts.{own-rises}
use Rattle.jc_making.proofs.PodFacts.{unmet}
use Rattle.jc_making.proofs.StatusFacts.{below, counted-is, in-is, indexes-stay, left-is, over-raised, then}
use Rattle.jc_making.proofs.UseFacts.{is_of_use, one-of-use, open_in, use-kept}

-- With completions, as many are wanted as may run, and as places are left.
wanted-some : (o : Option ℕ) → IsSome o → (p s f a : ℕ) → wanted p o s f a ≡ min p (unwrap_or o 0 - s - f)
wanted-some None h p s f a = absurd (true≢false (sym h))
wanted-some (Some n) h p s f a = refl

-- How the numbers fall.
indexed-falls : (p were are used left now kept a w j m n : ℕ) → used + are ≤ left + were → are ≤ were → w ≡ min p are → left ≤ a → min left w ≤ kept → now ≡ kept + j → j ≤ w - a → n ≤ m
    → (are - min now p) + n + j ≤ (were - min used p) + m
indexed-falls p were are used left now kept a w j m n h l is few keeps sum made less = omega (arith, h, l, is, few, keeps, sum, made, less)

-- ---- the new pods' indexes

-- An active pod keeps its index.
active-keeps : (r : Replacement) (p : Pod) → is_active p ≡ true → keeps r p ≡ true
active-keeps TerminatingOrFailed p h = h
active-keeps FailedOnly p h = ap (λ b. b || is_ending p) h

unheld : (r : Replacement) (own : List Pod) (n : ℕ) → holds (keepers r own) n ≡ false → Each (λ p. has_index n p ≡ false) (tracked_active_pods own)
unheld r own n h =
    Each-weaker (λ p. ((keeps r p && has_index n p) ≡ false) × (is_tracked_active p ≡ true))
    (λ p. has_index n p ≡ false) (λ p k. by (keeps r p) (has_index n p)
    (active-keeps r p (and_parts (is_active p) (is_tracked p) k.1).0) k.0) (tracked_active_pods own)
    (Each-both (λ p. (keeps r p && has_index n p) ≡ false) (λ p. is_tracked_active p ≡ true) (tracked_active_pods own)
    (Each-filter (λ p. (keeps r p && has_index n p) ≡ false) is_tracked_active own (each-fails (λ p. keeps r p && has_index n p) own (sym (any_filter (has_index n) (keeps r) own) ∙ h)))
    (Each-passes is_tracked_active own))
  where
    by : (a b : Bool) → a ≡ true → (a && b) ≡ false → b ≡ false
    by true b e g = g
    by false b e g = absurd (true≢false (sym e))

-- The indexes of the pods that are made.
record Numbers (closed : ℕ → Bool) (tracked : List Pod) (made : List (Option ℕ)) : Type 0 where
  set : List ℕ
  are : made ≡ map (λ n. Some n) set
  up : IsIncreasing set
  opened : Each (λ n. (closed n ≡ false) × Each (λ p. has_index n p ≡ false) tracked) set

numbers-of : (job : Job) (own : List Pod) (counted : CountIn) (settled : Bool) (k : ℕ) (held : Bool) → Numbers (is_needless (unwrap_or job.spec.completions 0) counted) (tracked_active_pods own)
    (cond held [] (cond (settled || job.spec.suspend) [] (new_pods Indexed k (free (unwrap_or job.spec.completions 0) counted (keepers job.spec.replacement own)))))
numbers-of job own counted settled k held = by held (settled || job.spec.suspend)
  where
    wanted_of : ℕ
    wanted_of = unwrap_or job.spec.completions 0

    by : (h s : Bool) → Numbers (is_needless (unwrap_or job.spec.completions 0) counted) (tracked_active_pods own) (cond h [] (cond s [] (new_pods Indexed k (free (unwrap_or job.spec.completions 0) counted (keepers job.spec.replacement own)))))
    by true s = record { set = []; are = refl; up = tt; opened = tt }
    by false true = record { set = []; are = refl; up = tt; opened = tt }
    by false false =
        let all = free (unwrap_or job.spec.completions 0) counted (keepers job.spec.replacement own) in
        record {
          set = take k all;
          are = refl;
          up = increasing-take k all (increasing-filter (is_free counted (keepers job.spec.replacement own)) (range_with_len 0 (unwrap_or job.spec.completions 0)) (range_set 0 (unwrap_or job.spec.completions 0)).0);
          opened =
              Each-take (λ n. (is_needless (unwrap_or job.spec.completions 0) counted n ≡ false) × Each (λ p. has_index n p ≡ false) (tracked_active_pods own)) k all
              (Each-weaker (λ n. (n < 0 + unwrap_or job.spec.completions 0) × ((Rattle.jc_manage.specs.Creations.is_done_index counted n ≡ false) × (holds (keepers job.spec.replacement own) n ≡ false)))
              (λ n. (is_needless (unwrap_or job.spec.completions 0) counted n ≡ false) × Each (λ p. has_index n p ≡ false) (tracked_active_pods own))
              (λ n h. ((λ i. h.1.0 i || lt-leb (unwrap_or job.spec.completions 0) n (omega (arith, h.0)) i), unheld job.spec.replacement own n h.1.1)) all
              (Each-both (λ n. n < 0 + unwrap_or job.spec.completions 0) (λ n. (Rattle.jc_manage.specs.Creations.is_done_index counted n ≡ false) × (holds (keepers job.spec.replacement own) n ≡ false)) all
              (Each-filter (λ n. n < 0 + unwrap_or job.spec.completions 0) (is_free counted (keepers job.spec.replacement own)) (range_with_len 0 (unwrap_or job.spec.completions 0)) (range_set 0 (unwrap_or job.spec.completions 0)).2)
              (Each-both (λ n. Rattle.jc_manage.specs.Creations.is_done_index counted n ≡ false) (λ n. holds (keepers job.spec.replacement own) n ≡ false) all
              (recursion_from_All (λ n. Rattle.jc_manage.specs.Creations.is_done_index counted n ≡ false) all (free-new (unwrap_or job.spec.completions 0) counted (keepers job.spec.replacement own)))
              (recursion_from_All (λ n. holds (keepers job.spec.replacement own) n ≡ false) all (free-unkept (unwrap_or job.spec.completions 0) counted (keepers job.spec.replacement own))))));
        }

-- ---- the failed indexes

module _ (completions : ℕ) (completed : List ℕ) (job : Job) (pods : List Pod) (up : IsIncreasing (map (λ (count : IndexCount). count.index) job.status.index_failures)) where
  up-failed : (limit : Option ℕ) → IsIncreasing (failed_by limit completions completed (failures_by limit job pods))
  up-failed None = tt
  up-failed (Some most) =
      subst IsIncreasing (append-nil (map (λ (count : IndexCount). count.index) (filter (has_failed most completions completed) raised_now)))
      (up-kept (has_failed most completions completed) raised_now [] (subst (λ cs. IsIncreasing (map (λ (count : IndexCount). count.index) cs)) (sym (append-nil raised_now)) (raised-ascends job.spec.failure job.status.index_failures up pods)))
    where
      raised_now : List IndexCount
      raised_now = raised job.spec.failure job.status.index_failures pods

  each-failed : (limit : Option ℕ) → Each (λ n. (n < completions) × (has n completed ≡ false)) (failed_by limit completions completed (failures_by limit job pods))
  each-failed None = tt
  each-failed (Some most) =
      Each-map (λ (count : IndexCount). count.index) (λ n. (n < completions) × (has n completed ≡ false)) (filter (has_failed most completions completed) (raised job.spec.failure job.status.index_failures pods))
      (Each-weaker (λ (count : IndexCount). has_failed most completions completed count ≡ true) (λ (count : IndexCount). (count.index < completions) × (has count.index completed ≡ false)) (λ (count : IndexCount) h. by count h)
      (filter (has_failed most completions completed) (raised job.spec.failure job.status.index_failures pods)) (Each-passes (has_failed most completions completed) (raised job.spec.failure job.status.index_failures pods)))
    where
      un-not : (b : Bool) → not b ≡ true → b ≡ false
      un-not true e = absurd (true≢false (sym e))
      un-not false e = refl

      by : (count : IndexCount) → has_failed most completions completed count ≡ true → (count.index < completions) × (has count.index completed ≡ false)
      by count h =
          let parts = and_parts (nat_lt count.index completions) (not (has count.index completed) && (nat_lt most count.failures || count.fail)) h in
          (ltb-true count.index completions parts.0, un-not (has count.index completed) (and_parts (not (has count.index completed)) (nat_lt most count.failures || count.fail) parts.1).0)

-- ---- before and after

module _ (made : ℕ) (job : Job) (basis : Basis) (this : basis.job ≡ Some job) (rises : IsRising basis.pods)
    (counted : IsCounted job (own_pods job basis.pods)) (now : List Pod) (is : AllGranted (planned basis) made (own_pods job basis.pods) now)
    (undecided : is_end_decided job (decided_in job basis) ≡ false) (running : job.spec.suspend ≡ false)
    (indexed : job.spec.mode ≡ Indexed) where
  abbrev own : List Pod
  own = own_pods job basis.pods

  abbrev later : Job
  later = then job basis this rises

  abbrev limit : Option ℕ
  limit = job.spec.per_index

  abbrev completions : ℕ
  completions = unwrap_or job.spec.completions 0

  abbrev active : List Pod
  active = tracked_active_pods own

  abbrev failing : List Pod
  failing = newly_failed own (counted_in job basis.pods).judged_failed

  abbrev useless : ℕ → Bool
  useless = is_needless completions (accounted job basis)

  abbrev new : ℕ
  new = length (planned basis).creates

  abbrev stay : List Pod
  stay = kept made job basis this rises counted now is undecided running

  unended : has_end job.status.conditions ≡ false
  unended = by (has_end job.status.conditions) refl
    where
      first : (a b : Bool) → (a || b) ≡ false → a ≡ false
      first true b e = absurd (true≢false e)
      first false b e = refl

      by : (b : Bool) → has_end job.status.conditions ≡ b → b ≡ false
      by true e = absurd (true≢false (sym (counted.ended e) ∙ first (has_target job.status.conditions) (is_some (decided_in job basis)) undecided))
      by false e = refl

  completed-is : (counted_in job basis.pods).completed ≡ completed_now job own
  completed-is = in-is job basis this rises indexed unended ∙ counted-is job basis this rises indexed unended

  completed-then : (counted_in job basis.pods).completed ≡ completed_now later now
  completed-then = completed-is ∙ sym (indexes-stay job basis this rises indexed unended made now is)

  failed-is : (accounted job basis).failed_indexes ≡ failed_by limit completions (counted_in job basis.pods).completed (failures_by limit job failing)
  unfolding failing_in
  failed-is = by limit
    where
      by : (o : Option ℕ) → failing_by o job (counted_in job basis.pods).completed failing ≡ failed_by o completions (counted_in job basis.pods).completed (failures_by o job failing)
      by None = refl
      by (Some most) = ap (λ b. cond b job.status.failed_indexes
          (map (λ (count : IndexCount). count.index)
          (filter (has_failed most completions (counted_in job basis.pods).completed)
          (raised job.spec.failure job.status.index_failures failing)))) unended

  counts-then : later.status.index_failures ≡ failures_by limit job failing
  unfolding failures_in
  counts-then = ap (λ (s : JobStatus). s.index_failures) (left-is job basis this rises) ∙ second-index_failures job basis

  useless-is : useless ≡ is_closed later now
  useless-is =
      λ i n. (has n (completed-then i) || has n ((failed-is ∙ (λ j. failed_by limit completions (completed-then j) (sym counts-then j))) i)) || nat_le completions n

  -- ---- how many are wanted

  size : length (open_in useless completions) + length (counted_in job basis.pods).completed + length (accounted job basis).failed_indexes ≡ completions
  size =
      open-size completions (counted_in job basis.pods).completed (accounted job basis).failed_indexes
      (subst IsIncreasing (sym completed-is) rising)
      (subst (Each (λ n. n < completions)) (sym completed-is) (below job basis this rises indexed unended))
      (subst IsIncreasing (sym failed-is) (up-failed completions (counted_in job basis.pods).completed job failing counted.failures limit))
      (subst (Each (λ n. (n < completions) × (has n (counted_in job basis.pods).completed ≡ false))) (sym failed-is) (each-failed completions (counted_in job basis.pods).completed job failing counted.failures limit))
    where
      rising : IsIncreasing (completed_now job own)
      rising =
          subst (λ m. IsIncreasing (completed_after m false completions job.status.completed (new_successes job own))) (sym indexed)
          (increasing-join (filter (λ n. nat_lt n completions) job.status.completed) (indexes_below completions (new_successes job own)) (increasing-filter (λ n. nat_lt n completions) job.status.completed counted.completed))

  wants-are : wants made job basis this rises counted now is undecided running ≡ min job.spec.parallelism (length (open_in useless completions))
  wants-are =
      let some = wanted-some job.spec.completions (counted.valid.indexed indexed) job.spec.parallelism (counts (accounted job basis)).1 (length (accounted job basis).failed_indexes) (length active) in
      let total = indexed-total job basis.pods indexed in
      let none = ap length (empty-in job basis.pods indexed (counted.none indexed)) in
      let left = left-indexed job basis.pods indexed in
      omega (arith, some, total, none, left, size)

  -- ---- what is of use

  up : RisesFrom 0 active
  up = rises_filter 0 is_tracked_active own (own-rises job basis this rises)

  numbered : Each (λ p. IsSome p.index) active
  numbered = Each-filter (λ p. IsSome p.index) is_tracked_active own (counted.numbered indexed)

  closes : (n : ℕ) → is_closed job own n ≡ true → useless n ≡ true
  closes n h =
      (λ i. useless-is i n)
      ∙ closed-stays limit completions n (completed_now job own) (completed_now later now) job.status.index_failures later.status.index_failures
      (λ e. (λ i. has n (sym (sym completed-is ∙ completed-then) i)) ∙ e)
      (λ most at over. ap (is_over most n) (counts-then ∙ ap (λ o. failures_by o job failing) at) ∙ over-raised most n job.spec.failure job.status.index_failures failing counted.failures over) h

  before-after : length (remaining Indexed (is_closed job own) active) + length (open_in useless completions) ≤ length (remaining Indexed useless active) + length (open_in (is_closed job own) completions)
  before-after =
      let used = use-kept (is_closed job own) useless active active completions 0 closes
      (λ n l. past-closed limit completions n (completed_now job own) job.status.index_failures l) up numbered (λ n u h. h) (omega arith) in
      omega (arith, used)

  fewer-open : length (open_in useless completions) ≤ length (open_in (is_closed job own) completions)
  fewer-open =
      fewer (λ n. not (useless n)) (λ n. not (is_closed job own n)) (range_with_len 0 completions)
      (each (λ n. not (useless n) ≡ true → not (is_closed job own n) ≡ true) (λ n. other (is_closed job own n) (useless n) (closes n)) (range_with_len 0 completions))
    where
      other : (a b : Bool) → (a ≡ true → b ≡ true) → not b ≡ true → not a ≡ true
      other true b h g = absurd (true≢false (sym g ∙ ap not (h refl)))
      other false b h g = refl

  -- ---- what is of use then

  abbrev Few : Mode → Type 0
  Few m =
      length (filter (is_one_of (length (remaining m useless active) - wants made job basis this rises counted now is undecided running) m (remaining m useless active)) (remaining m useless active))
      ≤ length (remaining m useless active) - wants made job basis this rises counted now is undecided running

  few-go : Few job.spec.mode
  few-go =
      subst Few (sym indexed)
      (few-go_indexed (remaining Indexed useless active) (length (remaining Indexed useless active) - wants made job basis this rises counted now is undecided running)
      (Each-filter (λ p. IsSome p.index) (is_of_use useless active) active numbered) (one-of-use useless active up))

  made-as : (planned basis).creates
      ≡ cond (is_delayed_until (opening (backoff_after basis.backoff (accounted job basis) basis.now)) basis.now) []
      (cond (is_end_decided job (decided_in job basis) || job.spec.suspend) [] (new_pods Indexed (job_lacks job own (accounted job basis)) (free completions (accounted job basis) (keepers job.spec.replacement own))))
  made-as =
      plan-creates basis job this
      ∙ ap (λ m. cond (is_delayed_until (opening (backoff_after basis.backoff (accounted job basis) basis.now)) basis.now) []
      (cond (is_end_decided job (decided_in job basis) || job.spec.suspend) [] (new_pods m (job_lacks job own (accounted job basis)) (free completions (accounted job basis) (keepers job.spec.replacement own))))) indexed

  of-use-then : length (remaining Indexed useless (stay ++ is.fresh)) ≡ length stay + length is.fresh
  of-use-then = with-numbers (numbers-of job own (accounted job basis) (is_end_decided job (decided_in job basis)) (job_lacks job own (accounted job basis))
      (is_delayed_until (opening (backoff_after basis.backoff (accounted job basis) basis.now)) basis.now))
    where
      in-stay : (P : Pod → Type 0) → Each P active → Each P stay
      in-stay P h =
          Each-filter P (λ p. not (is_one_of (length (remaining job.spec.mode useless active) - wants made job basis
          this rises counted now is undecided running) job.spec.mode (remaining job.spec.mode useless active)
          p)) (remaining job.spec.mode useless active)
          (Each-filter P (λ p. not (is_spare job.spec.mode useless active p)) active h)

      used : Each (λ p. is_of_use useless active p ≡ true) stay
      used =
          Each-filter (λ p. is_of_use useless active p ≡ true)
          (λ p. not (is_one_of (length (remaining job.spec.mode useless active) - wants made job basis this rises
          counted now is undecided running) job.spec.mode (remaining job.spec.mode useless active) p))
          (remaining job.spec.mode useless active)
          (Each-weaker (λ p. not (is_spare job.spec.mode useless active p) ≡ true) (λ p. is_of_use useless active p ≡ true) (λ p h. ap (λ m. not (is_spare m useless active p)) (sym indexed) ∙ h) (remaining job.spec.mode useless active)
          (Each-passes (λ p. not (is_spare job.spec.mode useless active p)) active))

      with-numbers : Numbers useless active
          (cond (is_delayed_until (opening (backoff_after basis.backoff (accounted job basis) basis.now)) basis.now) []
          (cond (is_end_decided job (decided_in job basis) || job.spec.suspend) [] (new_pods Indexed (job_lacks job own (accounted job basis)) (free completions (accounted job basis) (keepers job.spec.replacement own)))))
          → length (remaining Indexed useless (stay ++ is.fresh)) ≡ length stay + length is.fresh
      with-numbers numbers =
          all-of-use useless active stay is.fresh made numbers.set (subst (λ cs. AreNew made cs is.fresh) (made-as ∙ numbers.are) is.new) numbers.up
          (subst (RisesFrom 0) (tracked-now made job basis this rises counted now is undecided running) (rises_filter 0 is_tracked_active now is.rising))
          (Each-weaker (λ n. (useless n ≡ false) × Each (λ p. has_index n p ≡ false) active) (λ n. (useless n ≡ false) × Each (λ p. has_index n p ≡ false) stay) (λ n h. (h.0, in-stay (λ p. has_index n p ≡ false) h.1)) numbers.set numbers.opened)
          (Each-both (λ p. IsSome p.index) (λ p. is_of_use useless active p ≡ true) stay (in-stay (λ p. IsSome p.index) numbered) used)
          (λ n u h. list_any_none (is_earlier n u) stay (All-from_recursion (λ p. is_earlier n u p ≡ false) stay (in-stay (λ p. is_earlier n u p ≡ false) (each-fails (is_earlier n u) active h))))

  -- The places that nobody runs towards become fewer by as many as are made.
  pub indexed-places : (m n : ℕ) → n ≤ m → unmet later now + n + new ≤ unmet job own + m
  indexed-places m n less =
      let left_is : length (remaining job.spec.mode useless active) ≡ length (remaining Indexed useless active) = ap (λ m. length (remaining m useless active)) indexed in
      let many = kept-many made job basis this rises counted now is undecided running few-go in
      let lower = indexed-falls job.spec.parallelism (length (open_in (is_closed job own) completions)) (length (open_in useless completions))
      (length (remaining Indexed (is_closed job own) active)) (length (remaining Indexed useless active)) (length (stay ++ is.fresh)) (length stay) (length active)
      (wants made job basis this rises counted now is undecided running) new m n
      before-after fewer-open wants-are (filter-least (is_of_use useless active) active)
      (omega (arith, left_is, many))
      (let sum = length-append stay is.fresh in let same = fresh-length made job basis this rises counted now is undecided running in omega (arith, sum, same))
      (made-few made job basis this rises counted now is undecided running) less in
      let places_then : places later now ≡ length (open_in useless completions) =
      (λ i. places_of (indexed i) job.spec.completions job.spec.parallelism (pods_succeeded later now) (filter (λ n. not (sym useless-is i n)) (range_with_len 0 completions))) in
      let places_now = ap (λ m. places_of m job.spec.completions job.spec.parallelism (pods_succeeded job own) (open_indexes job own)) indexed in
      let used_then : length (remaining job.spec.mode (is_closed later now) (tracked_active_pods now)) ≡ length (remaining Indexed useless (stay ++ is.fresh)) =
      (λ i. length (remaining (indexed i) (sym useless-is i) (tracked-now made job basis this rises counted now is undecided running i))) in
      let all = of-use-then in
      let joined = length-append stay is.fresh in
      let used_now = ap (λ m. length (remaining m (is_closed job own) active)) indexed in
      omega (arith, lower, places_then, places_now, used_then, all, joined, used_now)
