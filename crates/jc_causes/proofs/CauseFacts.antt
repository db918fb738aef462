-- Each request of a plan has its cause.
use Rattle.std.proofs.Common.{◌≡◌, ◌⊎◌, inl, inr, ℕ, zero, suc, ◌<◌, ◌-◌, Bool, true, false, cond, not, ◌&&◌, ◌||◌, List, [], ◌++◌, map, filter, length, replicate, take, Option, Some, None, IfSome, refl, sym, ap, arith, true≢false}
use Rattle.std.specs.List.{AllByRecursion as Each, Contains, range_with_len}
use Rattle.std.specs.Option.{option_map_or}
use Rattle.std.proofs.lemmas.Bool.{and_parts, not-true, or_cases}
use Rattle.std.proofs.lemmas.List.Elements.{All-contains_itself, recursion_from_All}
use Rattle.jc_types.specs.Equality.{same_status}
use Rattle.jc_types.specs.declared.numbers.Uid.{Uid}
use Rattle.jc_types.specs.declared.numbers.Version.{Version}
use Rattle.jc_types.specs.declared.objects.Job.{Job}
use Rattle.jc_types.specs.declared.objects.Pod.{Pod}
use Rattle.jc_types.specs.declared.replies.Request.{Request}
use Rattle.jc_types.specs.declared.replies.Request.TheVariants as request
use Rattle.jc_types.specs.declared.specifications.Mode.{Mode}
use Rattle.jc_types.specs.declared.specifications.Mode.TheVariants.{NonIndexed, Indexed}
use Rattle.jc_types.specs.declared.syncs.CountIn.{CountIn}
use Rattle.jc_types.proofs.ListFacts.{Each-append, Each-both, Each-filter, Each-map, Each-passes, Each-take, Each-weaker}
use Rattle.jc_states.specs.Bases.{own_pods}
use Rattle.jc_states.specs.declared.bases.Basis.{Basis}
use Rattle.jc_states.specs.Pods.{is_active, is_tracked}
use Rattle.jc_manage.specs.Backoffs.{is_delayed_until, opening}
use Rattle.jc_manage.specs.Creations.{creatable, free, is_free, IsIndexFor, job_lacks, job_wants, keepers, new_pods}
use Rattle.jc_manage.specs.LetGoes.{going, is_doubled, is_let_go, is_needless, is_one_of, is_spare, is_to_mark, remaining, seen, surplus}
use Rattle.jc_manage.specs.Planned.{backoff_in}
use Rattle.jc_manage.proofs.Bounds.{creatable-few, creates-few}
use Rattle.jc_manage.proofs.Numbered.{creatable-numbered}
use Rattle.jc_plan.specs.declared.plans.Planned.{Planned}
use Rattle.jc_plan.specs.Plans.{planned, planned_for}
use Rattle.jc_plan.specs.Releases.{due_uids, is_orphan, is_owed, is_released, releases_of}
use Rattle.jc_plan.specs.Statuses.{accounted, first_value, second_value, wants_in}
use Rattle.jc_asks.specs.Asks.{as_request, asks_of, early_asks, first_asks, last_asks, late_asks, let_go_ask, second_asks}
use Rattle.jc_asks.specs.declared.asks.Ask.{Ask}
use Rattle.jc_asks.specs.declared.asks.Ask.TheVariants.{MakePod, MarkPod, LetPodGo, ReleasePod}
use Rattle.jc_causes.specs.Causes.{IsDoubled, IsOfNoUse, IsOfSuspended, IsTooMany, IsUnwanted, MayAskOf, MayLetGo, MayMake, MayMark, is_decided, makes_pod, tracked_in, wanted_successes}

-- The elements that pass a test are elements.
passing : {X : Type 0} (test : X → Bool) (xs : List X) → Each (λ x. Contains xs x × (test x ≡ true)) (filter test xs)
passing test xs =
    Each-both (Contains xs) (λ x. test x ≡ true) (filter test xs)
    (Each-filter (Contains xs) test xs (recursion_from_All (Contains xs) xs (All-contains_itself xs))) (Each-passes test xs)

module _ (basis : Basis) where
  -- ---- releases, for a Job and for none

  released : (job : Option Job) → Each (λ ask. MayAskOf job basis 0 (as_request ask)) (map ReleasePod (releases_of basis))
  released job =
      Each-map ReleasePod (λ ask. MayAskOf job basis 0 (as_request ask)) (releases_of basis)
      (Each-map (λ (pod : Pod). pod.uid) (λ u. MayAskOf job basis 0 (as_request (ReleasePod u))) (filter (is_released basis) basis.pods)
      (Each-weaker (λ pod. Contains basis.pods pod × (is_released basis pod ≡ true)) (λ pod. MayAskOf job basis 0 (as_request (ReleasePod pod.uid))) (λ pod h. one job pod h.0 h.1)
      (filter (is_released basis) basis.pods) (passing (is_released basis) basis.pods)))
    where
      one : (job : Option Job) (pod : Pod) → Contains basis.pods pod → is_released basis pod ≡ true → MayAskOf job basis 0 (request.Release pod.uid)
      one None pod there e = record { pod = pod; seen = there; uid = refl; cause = or_cases (is_owed (due_uids basis.job basis.pods) pod) (is_orphan basis pod) e }
      one (Some job) pod there e = record { pod = pod; seen = there; uid = refl; cause = or_cases (is_owed (due_uids basis.job basis.pods) pod) (is_orphan basis pod) e }

  module _ (job : Job) where
    abbrev own : List Pod
    own = own_pods job basis.pods

    abbrev counted : CountIn
    counted = accounted job basis

    abbrev Caused : Ask → Type 0
    Caused ask = MayAskOf (Some job) basis 0 (as_request ask)

    -- ---- creations

    abbrev frees : List ℕ
    frees = free (wanted_successes job) counted (keepers job.spec.replacement own)

    abbrev IsFreeToo : Option ℕ → Type 0
    IsFreeToo index = IfSome index (λ i. is_free counted (keepers job.spec.replacement own) i ≡ true)

    module _ (undecided : is_decided job basis ≡ false) (resumed : job.spec.suspend ≡ false) (due : is_delayed_until (opening (backoff_in basis counted)) basis.now ≡ false) where
      abbrev Lacks : Option ℕ → Type 0
      Lacks index = (0 < job_lacks job own counted) × IsFreeToo index

      -- So many new pods are lacking, and each has a free index.
      lack : (mode : Mode) (n : ℕ) → job_lacks job own counted ≡ n → Each Lacks (new_pods mode n frees)
      lack NonIndexed n e = nones n (λ k some. omega (arith, e, some))
        where
          nones : (m : ℕ) → ((k : ℕ) → m ≡ suc k → 0 < job_lacks job own counted) → Each Lacks (replicate m None)
          nones zero some = tt
          nones (suc m) some = ((some m refl, tt), nones m (λ k e. some m refl))
      lack Indexed zero e = tt
      lack Indexed (suc n) e =
          Each-map (λ index. Some index) Lacks (take (suc n) frees)
          (Each-weaker (λ i. is_free counted (keepers job.spec.replacement own) i ≡ true) (λ i. Lacks (Some i)) (λ i h. (omega (arith, e), h)) (take (suc n) frees)
          (Each-take (λ i. is_free counted (keepers job.spec.replacement own) i ≡ true) (suc n) frees
          (Each-passes (is_free counted (keepers job.spec.replacement own)) (range_with_len 0 (wanted_successes job)))))

      one-made : (index : Option ℕ) → IsIndexFor job index → Lacks index → MayMake job basis 0 index
      one-made None fits lacks = record { undecided = undecided; resumed = resumed; lacking = lacks.0; due = due; numbered = fits.numbered; free = tt }
      one-made (Some i) fits lacks = record {
        undecided = undecided;
        resumed = resumed;
        lacking = lacks.0;
        due = due;
        numbered = fits.numbered;
        free = record { below = fits.below; free = lacks.1 };
      }

    -- What the Job would make at once, and what of it is not delayed.
    creations : (d s h : Bool) → is_decided job basis ≡ d → job.spec.suspend ≡ s → is_delayed_until (opening (backoff_in basis counted)) basis.now ≡ h
        → Each (IsIndexFor job) (cond (d || s) [] (new_pods job.spec.mode (job_lacks job own counted) frees))
        → Each (MayMake job basis 0) (cond h [] (cond (d || s) [] (new_pods job.spec.mode (job_lacks job own counted) frees)))
    creations d s true p q r fits = tt
    creations true s false p q r fits = tt
    creations false true false p q r fits = tt
    creations false false false p q r fits =
        Each-weaker (λ index. IsIndexFor job index × Lacks p q r index) (MayMake job basis 0) (λ index h. one-made p q r index h.0 h.1) made
        (Each-both (IsIndexFor job) (Lacks p q r) made fits (lack p q r job.spec.mode (job_lacks job own counted) refl))
      where
        made : List (Option ℕ)
        made = new_pods job.spec.mode (job_lacks job own counted) frees

    made-all : Each (MayMake job basis 0) (wants_in job basis).creates
    made-all =
        creations (is_decided job basis) job.spec.suspend (is_delayed_until (opening (backoff_in basis counted)) basis.now) refl refl refl
        (recursion_from_All (IsIndexFor job) (creatable (is_decided job basis) job own counted) (creatable-numbered (is_decided job basis) job own counted))

    -- ---- marks

    one-marked : (d : Bool) → is_decided job basis ≡ d → (pod : Pod) → Contains own pod → is_to_mark d pod ≡ true → MayMark job basis pod.uid
    one-marked d p pod there e = by d p (and_parts (is_active pod) (d || not (is_tracked pod)) e).1
      where
        active : is_active pod ≡ true
        active = (and_parts (is_active pod) (d || not (is_tracked pod)) e).0

        by : (x : Bool) → is_decided job basis ≡ x → (x || not (is_tracked pod)) ≡ true → MayMark job basis pod.uid
        by true q h = record { pod = pod; seen = there; uid = refl; active = active; cause = inl q }
        by false q h = record { pod = pod; seen = there; uid = refl; active = active; cause = inr (not-true (is_tracked pod) h) }

    marked-all : Each (λ u. MayMark job basis u ⊎ MayLetGo job basis u) (wants_in job basis).marks
    marked-all =
        Each-map (λ (pod : Pod). pod.uid) (λ u. MayMark job basis u ⊎ MayLetGo job basis u) (filter (is_to_mark (is_decided job basis)) own)
        (Each-weaker (λ pod. Contains own pod × (is_to_mark (is_decided job basis) pod ≡ true)) (λ pod. MayMark job basis pod.uid ⊎ MayLetGo job basis pod.uid)
        (λ pod h. inl (one-marked (is_decided job basis) refl pod h.0 h.1)) (filter (is_to_mark (is_decided job basis)) own) (passing (is_to_mark (is_decided job basis)) own))

    -- ---- let-goes

    abbrev needless : ℕ → Bool
    needless = is_needless (wanted_successes job) counted

    abbrev tracked : List Pod
    tracked = tracked_in job basis

    spare : (mode : Mode) → job.spec.mode ≡ mode → (pod : Pod) → is_spare mode needless tracked pod ≡ true → IsUnwanted job basis pod
    spare NonIndexed m pod e = absurd (true≢false (sym e))
    spare Indexed m pod e = by (or_cases (option_map_or needless pod.index false) (is_doubled tracked pod) e)
      where
        by : ((option_map_or needless pod.index false ≡ true) ⊎ (is_doubled tracked pod ≡ true)) → IsUnwanted job basis pod
        by (inl h) = IsOfNoUse m h
        by (inr h) = IsDoubled m h

    unwanted : (pod : Pod) → is_let_go job.spec.mode needless (job_wants job own counted) tracked pod ≡ true → IsUnwanted job basis pod
    unwanted pod e = by (or_cases (is_spare job.spec.mode needless tracked pod) (is_one_of (length rest - job_wants job own counted) job.spec.mode rest pod) e)
      where
        rest : List Pod
        rest = remaining job.spec.mode needless tracked

        by : ((is_spare job.spec.mode needless tracked pod ≡ true) ⊎ (is_one_of (length rest - job_wants job own counted) job.spec.mode rest pod ≡ true)) → IsUnwanted job basis pod
        by (inl h) = spare job.spec.mode refl pod h
        by (inr h) = IsTooMany rest refl h

    let-go : (d s : Bool) → is_decided job basis ≡ d → job.spec.suspend ≡ s
        → Each (λ (pod : Pod). MayLetGo job basis pod.uid) (cond d [] (cond s tracked (surplus job.spec.mode needless (job_wants job own counted) tracked)))
    let-go true s p q = tt
    let-go false true p q =
        Each-weaker (Contains tracked) (λ (pod : Pod). MayLetGo job basis pod.uid)
        (λ pod there. record { pod = pod; seen = there; uid = refl; undecided = p; unwanted = IsOfSuspended q }) tracked (recursion_from_All (Contains tracked) tracked (All-contains_itself tracked))
    let-go false false p q =
        Each-weaker (λ pod. Contains tracked pod × (test pod ≡ true)) (λ (pod : Pod). MayLetGo job basis pod.uid)
        (λ pod h. record { pod = pod; seen = h.0; uid = refl; undecided = p; unwanted = unwanted pod h.1 }) (filter test tracked) (passing test tracked)
      where
        test : Pod → Bool
        test = is_let_go job.spec.mode needless (job_wants job own counted) tracked

    let-go-all : Each Caused (map let_go_ask (wants_in job basis).let_goes)
    let-go-all =
        Each-map let_go_ask Caused (map seen gone)
        (Each-map seen (λ row. Caused (let_go_ask row)) gone (let-go (is_decided job basis) job.spec.suspend refl refl))
      where
        gone : List Pod
        gone = going (is_decided job basis) job own counted

    -- ---- statuses

    firsts : (x : Bool) → same_status job.status (first_value job basis) ≡ x → Each Caused (first_asks (cond x None (Some (first_value job basis))))
    firsts true p = tt
    firsts false p = (record { changes = ap (λ b. b && same_status (first_value job basis) (second_value job basis)) p }, tt)

    seconds : (x y : Bool) → same_status job.status (first_value job basis) ≡ x → same_status (first_value job basis) (second_value job basis) ≡ y
        → Each Caused (second_asks (cond y None (Some (second_value job basis))))
    seconds x true p q = tt
    seconds true false p q = (record { changes = λ i. p i && q i }, tt)
    seconds false false p q = (record { changes = λ i. p i && q i }, tt)

    -- ---- all together

    all-of-job : Each Caused (asks_of (planned_for basis (Some job)))
    all-of-job =
        Each-append Caused (early_asks plan) (late_asks plan)
        (Each-append Caused (map MakePod plan.creates) (map MarkPod plan.marks ++ map let_go_ask plan.let_goes)
        (Each-map MakePod Caused plan.creates made-all)
        (Each-append Caused (map MarkPod plan.marks) (map let_go_ask plan.let_goes) (Each-map MarkPod Caused plan.marks marked-all) let-go-all))
        (Each-append Caused (first_asks plan.first) (last_asks plan.releases plan.second) (firsts (same_status job.status (first_value job basis)) refl)
        (Each-append Caused (map ReleasePod plan.releases) (second_asks plan.second) (released (Some job))
        (seconds (same_status job.status (first_value job basis)) (same_status (first_value job basis) (second_value job basis)) refl refl)))
      where
        plan : Planned
        plan = planned_for basis (Some job)

  -- Of each Job, and where there is none.
  all-for : (job : Option Job) → Each (λ ask. MayAskOf job basis 0 (as_request ask)) (asks_of (planned_for basis job))
  all-for (Some job) = all-of-job job
  all-for None = Each-append (λ ask. MayAskOf None basis 0 (as_request ask)) (map ReleasePod (releases_of basis)) [] (released None) tt

  -- A pod that is let go may be marked then.
  pub marked-next : (u : Uid) (v : Version) → MayAskOf basis.job basis 0 (as_request (LetPodGo u v)) → MayAskOf basis.job basis 0 (as_request (MarkPod u))
  marked-next u v = by basis.job
    where
      by : (job : Option Job) → MayAskOf job basis 0 (request.LetGo u) → MayAskOf job basis 0 (request.MarkPod u)
      by None h = h
      by (Some job) h = inr h

  pub all-caused : Each (λ ask. MayAskOf basis.job basis 0 (as_request ask)) (asks_of (planned basis))
  unfolding planned
  all-caused = all-for basis.job

  -- The plan makes no more pods than its Job lacks.
  few-made : (job : Option Job) (n : ℕ) (asked : Request) → n < length (planned_for basis job).creates ⊎ (makes_pod asked ≡ false) → MayAskOf job basis 0 asked → MayAskOf job basis n asked
  few-made job n (request.Release u) few h = same job h
    where
      same : (job : Option Job) → MayAskOf job basis 0 (request.Release u) → MayAskOf job basis n (request.Release u)
      same None h = h
      same (Some job) h = h
  few-made None n (request.CreatePod index) few h = h
  few-made None n (request.MarkPod u) few h = h
  few-made None n (request.LetGo u) few h = h
  few-made None n request.Status few h = h
  few-made (Some job) n (request.MarkPod u) few h = h
  few-made (Some job) n (request.LetGo u) few h = h
  few-made (Some job) n request.Status few h = h
  few-made (Some job) n (request.CreatePod index) (inr other) h = absurd (true≢false other)
  few-made (Some job) n (request.CreatePod index) (inl few) h =
      let held = creates-few (opening (backoff_in basis (accounted job basis))) basis.now (creatable (is_decided job basis) job (own_pods job basis.pods) (accounted job basis)) in
      let lack = creatable-few (is_decided job basis) job (own_pods job basis.pods) (accounted job basis) in
      record { undecided = h.undecided; resumed = h.resumed; lacking = omega (arith, few, held, lack); due = h.due; numbered = h.numbered; free = h.free }

  pub behind-others : (n : ℕ) (asked : Request) → n < length (planned basis).creates ⊎ (makes_pod asked ≡ false) → MayAskOf basis.job basis 0 asked → MayAskOf basis.job basis n asked
  unfolding planned
  behind-others n asked few h = few-made basis.job n asked few h
