-- A plan that makes pods leaves as many fewer places, and no plan leaves more.
use Rattle.std.proofs.Common.{◌≡◌, ℕ, suc, ◌+◌, ◌-◌, ◌≤◌, ◌==◌, min, Bool, true, false, cond, not, ◌&&◌, ◌||◌, List, [], ◌∷◌, ◌++◌, filter, length, Option, Some, None, is_some, unwrap_or, refl, sym, ap, ◌∙◌, subst, arith}
use Rattle.std.specs.List.{AllByRecursion as Each}
use Rattle.std.proofs.lemmas.List.{length-append}
use Rattle.std.proofs.lemmas.List.Elements.{filter-append, filter_agree}
use Rattle.jc_types.specs.declared.objects.Job.{Job}
use Rattle.jc_types.specs.declared.objects.Pod.{Pod}
use Rattle.jc_types.specs.declared.specifications.Mode.TheVariants.{NonIndexed, Indexed}
use Rattle.jc_types.specs.Counts.{counts}
use Rattle.jc_types.proofs.ListFacts.{filter_all, filter_filter}
use Rattle.jc_states.specs.declared.bases.Basis.{Basis}
use Rattle.jc_states.specs.Bases.{own_pods}
use Rattle.jc_states.specs.PodLists.{IsRising}
use Rattle.jc_states.specs.Pods.{is_tracked_active, tracked_active_pods}
use Rattle.jc_states.proofs.PodListFacts.{rises_filter}
use Rattle.jc_account.specs.Accounts.{counted_in}
use Rattle.jc_account.proofs.AccountFacts.{left-succeeded, succeeded-sum}
use Rattle.jc_account.proofs.Owned.{filter-least}
use Rattle.jc_perindex.specs.Failures.{failing_by, failing_in, newly_failed}
use Rattle.jc_manage.specs.Creations.{creatable, job_wants, wanted}
use Rattle.jc_manage.specs.LetGoes.{is_let_go, is_needless, is_one_of, is_spare, remaining}
use Rattle.jc_manage.proofs.Bounds.{creatable-few, creates-few, lacks-few}
use Rattle.jc_plan.specs.Plans.{planned}
use Rattle.jc_plan.specs.Statuses.{accounted, decided_in, is_end_decided}
use Rattle.jc_plan.proofs.PlanFacts.{plan-creates}
use Rattle.jc_making.specs.Grants.{AllGranted, AreNew}
use Rattle.jc_making.specs.Making.{IsCounted, is_closed, open_indexes, places, places_of, pods_succeeded}
use Rattle.jc_making.proofs.Lists.{halves}
use Rattle.jc_making.proofs.MissFacts.{new-length}
use Rattle.jc_making.proofs.OrderFacts.{few-go_plain}
use Rattle.jc_making.proofs.PlanFacts.{active-left, own-rises, stays_active}
use Rattle.jc_making.proofs.PodFacts.{unmet}
use Rattle.jc_making.proofs.StatusFacts.{judged-or-left, successes-stay, then}
use Rattle.jc_making.proofs.Values.{all-used}

-- All new pods are active.
all-active : (made : ℕ) (indexes : List (Option ℕ)) (pods : List Pod) → AreNew made indexes pods → Each (λ p. is_tracked_active p ≡ true) pods
all-active made [] [] h = tt
all-active made [] (p ∷ pods) h = absurd h
all-active made (index ∷ indexes) [] h = absurd h
all-active made (index ∷ indexes) (p ∷ pods) h = (h.0.active, all-active (suc made) indexes pods h.1)

module _ (made : ℕ) (job : Job) (basis : Basis) (this : basis.job ≡ Some job) (rises : IsRising basis.pods)
    (counted : IsCounted job (own_pods job basis.pods)) (now : List Pod) (is : AllGranted (planned basis) made (own_pods job basis.pods) now)
    (undecided : is_end_decided job (decided_in job basis) ≡ false) (running : job.spec.suspend ≡ false) where
  abbrev pub own : List Pod
  own = own_pods job basis.pods

  abbrev pub tracked : List Pod
  tracked = tracked_active_pods own

  abbrev pub made_now : ℕ
  made_now = length (planned basis).creates

  abbrev pub needless : ℕ → Bool
  needless = is_needless (unwrap_or job.spec.completions 0) (accounted job basis)

  abbrev pub wants : ℕ
  wants = job_wants job own (accounted job basis)

  abbrev pub rest : List Pod
  rest = remaining job.spec.mode needless tracked

  -- Those that are not let go.
  abbrev pub kept : List Pod
  kept = filter (λ p. not (is_one_of (length rest - wants) job.spec.mode rest p)) rest

  staying-is : filter (stays_active job basis this rises undecided counted.listed) own ≡ kept
  staying-is =
      filter_agree (stays_active job basis this rises undecided counted.listed) (λ p. is_tracked_active p && not (lets p)) each own
      ∙ sym (filter_filter (λ p. not (lets p)) is_tracked_active own)
      ∙ filter_agree (λ p. not (lets p)) (λ p. not (is_spare job.spec.mode needless tracked p) && not
      (is_one_of (length rest - wants) job.spec.mode rest p))
      (λ p. nor (is_spare job.spec.mode needless tracked p) (is_one_of (length rest - wants) job.spec.mode rest p))
      tracked
      ∙ sym (filter_filter (λ p. not (is_one_of (length rest - wants) job.spec.mode rest p)) (λ p. not (is_spare job.spec.mode needless tracked p)) tracked)
    where
      lets : Pod → Bool
      lets p = is_let_go job.spec.mode needless wants tracked p

      each : (p : Pod) → (is_tracked_active p && not (is_tracked_active p && (not (is_end_decided job (decided_in job basis)) && (job.spec.suspend || lets p)))) ≡ (is_tracked_active p && not (lets p))
      each p = (λ i. is_tracked_active p && not (is_tracked_active p && (not (undecided i) && (running i || lets p)))) ∙ by (is_tracked_active p)
        where
          by : (b : Bool) → (b && not (b && (true && (false || lets p)))) ≡ (b && not (lets p))
          by true = refl
          by false = refl

      nor : (a b : Bool) → not (a || b) ≡ (not a && not b)
      nor true b = refl
      nor false b = refl

  pub tracked-now : tracked_active_pods now ≡ kept ++ is.fresh
  tracked-now =
      ap tracked_active_pods is.parts ∙ filter-append is_tracked_active is.after is.fresh
      ∙ (λ i. (active-left job basis this rises undecided counted.listed is.after is.follow ∙ staying-is) i ++ filter_all is_tracked_active is.fresh (all-active made (planned basis).creates is.fresh is.new) i)

  pub fresh-length : length is.fresh ≡ made_now
  fresh-length = new-length made (planned basis).creates is.fresh is.new

  -- No more are made than are lacking.
  pub made-few : made_now ≤ wants - length tracked
  made-few =
      let counts_in = accounted job basis in
      let same = ap length (plan-creates basis job this) in
      let less = lacks-few job own counts_in in
      let few = creatable-few (is_end_decided job (decided_in job basis)) job own counts_in in
      let fewest = creates-few (Rattle.jc_manage.specs.Backoffs.opening (Rattle.jc_manage.specs.Backoffs.backoff_after basis.backoff counts_in basis.now)) basis.now (creatable (is_end_decided job (decided_in job basis)) job own counts_in) in
      omega (arith, same, less, few, fewest)

  -- As many are kept as are of use, or as are wanted.
  pub kept-many : length (filter (is_one_of (length rest - wants) job.spec.mode rest) rest) ≤ length rest - wants → min (length rest) wants ≤ length kept
  kept-many few = let parts = halves (is_one_of (length rest - wants) job.spec.mode rest) rest in omega (arith, parts, few)

  -- Of those that are kept no more pass than of all.
  pub kept-few : (test : Pod → Bool) → length (filter test kept) ≤ length (filter test tracked)
  kept-few test =
      let one = within (λ p. not (is_one_of (length rest - wants) job.spec.mode rest p)) rest in
      let two = within (λ p. not (is_spare job.spec.mode needless tracked p)) tracked in
      omega (arith, one, two)
    where
      within : (chosen : Pod → Bool) (pods : List Pod) → length (filter test (filter chosen pods)) ≤ length (filter test pods)
      within chosen pods = let swapped = ap length (Rattle.jc_types.proofs.ListFacts.filter_swap test chosen pods) in let least = filter-least chosen (filter test pods) in omega (arith, swapped, least)

  -- ---- a Job that is not Indexed

  module _ (plain : job.spec.mode ≡ NonIndexed) where
    succeeded-now : (counts (accounted job basis)).1 ≡ pods_succeeded job own
    succeeded-now = omega (arith, succeeded-sum job basis.pods plain rises, left-succeeded job basis.pods, judged-or-left job basis this rises)

    unindexed : job.spec.mode ≡ Indexed → ⊥
    unindexed at = no-mode (sym plain ∙ at)
      where
        no-mode : NonIndexed ≡ Indexed → ⊥
        no-mode e = cc

    -- None of its indexes fails.
    none-failed : length (accounted job basis).failed_indexes ≡ 0
    unfolding failing_in
    none-failed = by job.spec.per_index refl
      where
        by : (o : Option ℕ) → job.spec.per_index ≡ o → length (failing_by job.spec.per_index job (counted_in job basis.pods).completed (newly_failed own (counted_in job basis.pods).judged_failed)) ≡ 0
        by None at = ap (λ o. length (failing_by o job (counted_in job basis.pods).completed (newly_failed own (counted_in job basis.pods).judged_failed))) at
        by (Some limit) at = absurd (unindexed (counted.valid.by_index (ap is_some at)).0)

    all-count : (closed : ℕ → Bool) (pods : List Pod) → length (remaining job.spec.mode closed pods) ≡ length pods
    all-count closed pods = ap (λ m. length (remaining m closed pods)) plain ∙ ap length (all-used closed pods)

    few-go : length (filter (is_one_of (length rest - wants) job.spec.mode rest) rest) ≤ length rest - wants
    few-go =
        subst (λ m. length (filter (is_one_of (length rest - wants) m rest) rest) ≤ length rest - wants) (sym plain)
        (few-go_plain rest (length rest - wants) (rises_filter 0 (λ p. not (is_spare job.spec.mode needless tracked p)) tracked (rises_filter 0 is_tracked_active own (own-rises job basis this rises))))

    -- By the completions.
    falls-by : (comps : Option ℕ) (p s k a w j m n : ℕ) (xs ys : List ℕ) → w ≡ wanted p comps s 0 a → min a w ≤ k → j ≤ w - a → n ≤ m
        → (places_of NonIndexed comps p s xs - min (k + j) p) + n + j ≤ (places_of NonIndexed comps p s ys - min a p) + m
    falls-by (Some c) p s k a w j m n xs ys is kept few less = omega (arith, is, kept, few, less)
    falls-by None p s k a w j m n xs ys is kept few less = by (s == 0) is
      where
        by : (b : Bool) → w ≡ cond b p a → (cond b p 0 - min (k + j) p) + n + j ≤ (cond b p 0 - min a p) + m
        by true e = omega (arith, e, kept, few, less)
        by false e = omega (arith, e, kept, few, less)

    -- The places that nobody runs towards become fewer by as many as are made.
    pub plain-places : (m n : ℕ) → n ≤ m → unmet (then job basis this rises) now + n + made_now ≤ unmet job own + m
    plain-places m n less =
        let closed_then = is_closed (then job basis this rises) now in
        let wanted_is : wants ≡ wanted job.spec.parallelism job.spec.completions (pods_succeeded job own) 0 (length tracked) =
        (λ i. wanted job.spec.parallelism job.spec.completions (succeeded-now i) (none-failed i) (length tracked)) in
        let lower = falls-by job.spec.completions job.spec.parallelism (pods_succeeded job own) (length kept) (length tracked) wants made_now m n
        (open_indexes (then job basis this rises) now) (open_indexes job own) wanted_is
        (let many = kept-many few-go in let all = all-count needless tracked in omega (arith, many, all)) made-few less in
        let places_then : places (then job basis this rises) now ≡ places_of NonIndexed job.spec.completions job.spec.parallelism (pods_succeeded job own) (open_indexes (then job basis this rises) now) =
        (λ i. places_of (plain i) job.spec.completions job.spec.parallelism (successes-stay job basis this rises made now plain is i) (open_indexes (then job basis this rises) now)) in
        let places_now = ap (λ mode. places_of mode job.spec.completions job.spec.parallelism (pods_succeeded job own) (open_indexes job own)) plain in
        let used_then = all-count closed_then (tracked_active_pods now) ∙ ap length tracked-now ∙ length-append kept is.fresh in
        let used_now = all-count (is_closed job own) tracked in
        let new = fresh-length in
        omega (arith, lower, places_then, places_now, used_then, used_now, new)
