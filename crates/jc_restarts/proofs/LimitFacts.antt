-- A plan that lets an active pod be has counted fewer restarts than are too many.
use Rattle.std.proofs.Common.{◌≡◌, ◌⊎◌, inl, inr, ℕ, ◌+◌, ◌<◌, ◌≤◌, ◌==◌, nat_lt, nat_le, max, Bool, true, false, cond, not, ◌&&◌, ◌||◌, List, [], ◌∷◌, filter, sum_by}
use Rattle.std.proofs.Common.{Option, Some, None, is_some, refl, sym, ap, ◌∙◌, arith, true≢false, leb-false, ltb-false}
use Rattle.std.specs.List.{AllByRecursion as Each}
use Rattle.std.proofs.lemmas.Bool.{and_from, and_parts, false_from_ne_true, or_left, or_right}
use Rattle.std.proofs.lemmas.List.Sums.{sum_by-cons}
use Rattle.jc_types.proofs.KeyFacts.{same_uid-itself}
use Rattle.jc_types.specs.Counts.{counts}
use Rattle.jc_types.specs.Keys.{same_uid}
use Rattle.jc_types.specs.declared.objects.Container.{Container}
use Rattle.jc_types.specs.declared.objects.Job.{Job}
use Rattle.jc_types.specs.declared.objects.Pod.{Pod}
use Rattle.jc_types.specs.declared.statuses.CondKind.{CondKind}
use Rattle.jc_types.specs.declared.statuses.CondKind.TheVariants.{FailureTarget}
use Rattle.jc_types.specs.declared.statuses.Reason.{Reason}
use Rattle.jc_types.specs.declared.statuses.Reason.TheVariants as reason
use Rattle.jc_types.specs.declared.syncs.CountIn.{CountIn}
use Rattle.jc_states.specs.Bases.{own_pods}
use Rattle.jc_states.specs.Conditions.{has_target}
use Rattle.jc_states.specs.Pods.{is_active, is_marked, is_open, is_tracked}
use Rattle.jc_states.specs.Tallies.{restarts_in, restarts_of}
use Rattle.jc_states.specs.UidLists.{is_in, uids_of}
use Rattle.jc_states.specs.declared.bases.Basis.{Basis}
use Rattle.jc_plan.specs.Decisions.{decided, first_reason, is_failed_by_pod, is_past_limit, restarts_on_failure, restarts_too_often}
use Rattle.jc_plan.specs.LetGoes.{is_to_mark}
use Rattle.jc_plan.specs.Plans.{planned}
use Rattle.jc_plan.specs.Statuses.{accounted, decided_in, is_end_decided}
use Rattle.jc_plan.proofs.PlanFacts.{plan-marks}
use Rattle.jc_settle.specs.Left.{first_restarts}
use Rattle.jc_restarts.specs.Restarts.{too_many}

-- One of the pods is it.
abbrev StandsIn : Pod → List Pod → Type 0
StandsIn pod [] = ⊥
StandsIn pod (other ∷ pods) = (other ≡ pod) ⊎ StandsIn pod pods

-- What passes is in what is filtered.
in_some : (test : Pod → Bool) (pod : Pod) (pods : List Pod) → StandsIn pod pods → test pod ≡ true → is_in pod.uid (uids_of (filter test pods)) ≡ true
in_some test pod [] among h = absurd among
in_some test pod (q ∷ pods) among h = by (test q) refl among (λ more. in_some test pod pods more h)
  where
    by : (b : Bool) → test q ≡ b → (q ≡ pod) ⊎ StandsIn pod pods → (StandsIn pod pods → is_in pod.uid (uids_of (filter test pods)) ≡ true) → is_in pod.uid (uids_of (cond b (q ∷ filter test pods) (filter test pods))) ≡ true
    by true s (inl is) more = or_left (same_uid q.uid pod.uid) (is_in pod.uid (uids_of (filter test pods))) (ap (λ (p : Pod). same_uid p.uid pod.uid) is ∙ same_uid-itself pod.uid)
    by true s (inr among) more = or_right (same_uid q.uid pod.uid) (is_in pod.uid (uids_of (filter test pods))) (more among)
    by false s (inl is) more = absurd (true≢false (sym h ∙ ap test (sym is) ∙ s))
    by false s (inr among) more = more among

-- ---- restarts of a pod, and of all

first-fewer : (pod : Pod) → first_restarts pod ≤ restarts_in pod
first-fewer pod = by pod.containers refl
  where
    by : (cs : List Container) → pod.containers ≡ cs → first_restarts pod ≤ restarts_in pod
    by [] is =
        let none : first_restarts pod ≡ 0 = ap (λ l. first_restarts (record pod { containers = l })) is in omega (arith, none)
    by (c ∷ cs) is =
        let first : first_restarts pod ≡ c.restarts = ap (λ l. first_restarts (record pod { containers = l })) is in
        let all : restarts_in pod ≡ c.restarts + sum_by (λ (container : Container). container.restarts) cs =
        ap (λ l. sum_by (λ (container : Container). container.restarts) l) is ∙ sum_by-cons (λ (container : Container). container.restarts) c cs in
        omega (arith, first, all)

one-fewer : (pod : Pod) (pods : List Pod) → StandsIn pod pods → is_open pod ≡ true → restarts_in pod ≤ restarts_of pods
one-fewer pod [] among opened = absurd among
one-fewer pod (q ∷ pods) among opened = by (is_open q) refl among (λ more. one-fewer pod pods more opened)
  where
    by : (b : Bool) → is_open q ≡ b → (q ≡ pod) ⊎ StandsIn pod pods → (StandsIn pod pods → restarts_in pod ≤ restarts_of pods) → restarts_in pod ≤ sum_by restarts_in (cond b (q ∷ filter is_open pods) (filter is_open pods))
    by true s (inl is) more = let sum = sum_by-cons restarts_in q (filter is_open pods) in let same = ap restarts_in is in omega (arith, sum, same)
    by true s (inr among) more = let sum = sum_by-cons restarts_in q (filter is_open pods) in let less = more among in omega (arith, sum, less)
    by false s (inl is) more = absurd (true≢false (sym opened ∙ ap is_open (sym is) ∙ s))
    by false s (inr among) more = more among

-- ---- nothing is decided

-- Under the limit fewer than so many are not too many.
few-enough : (limit restarts : ℕ) → restarts_too_often limit restarts ≡ false → restarts < max 1 limit
few-enough limit restarts h = by (limit == 0) h
  where
    by : (b : Bool) → cond b (nat_lt 0 restarts) (nat_le limit restarts) ≡ false → restarts < max 1 limit
    by true g = let none = ltb-false 0 restarts g in omega (arith, none)
    by false g = let less = leb-false limit restarts g in omega (arith, less)

-- Where neither of two reasons holds, so it is of the second.
neither : (A : Type 0) (a b : Bool) (one two : A) (rest : Option A) → is_some (cond a (Some one) (cond b (Some two) rest)) ≡ false → b ≡ false
neither A true b one two rest h = absurd (true≢false h)
neither A false true one two rest h = absurd (true≢false h)
neither A false false one two rest h = refl

-- Where nothing is decided, and nothing was, restarts are not too many.
few-counted : (counted : CountIn) (now : ℕ) (job : Job) (own : List Pod) → is_end_decided job (decided counted now job own) ≡ false → restarts_on_failure job.spec.template.restart ≡ true → restarts_of own < too_many job
few-counted counted now job own h policy = few-enough job.spec.backoff_limit (restarts_of own) (by (has_target job.status.conditions) h)
  where
    second-false : (a b : Bool) → (a || b) ≡ false → b ≡ false
    second-false true b h = absurd (true≢false h)
    second-false false b h = h

    of-reason : is_some (first_reason counted now job own) ≡ false → restarts_too_often job.spec.backoff_limit (restarts_of own) ≡ false
    of-reason none =
        ap (λ b. b && restarts_too_often job.spec.backoff_limit (restarts_of own)) (sym policy)
        ∙ second-false (nat_lt job.spec.backoff_limit (counts counted).0) (restarts_on_failure job.spec.template.restart && restarts_too_often job.spec.backoff_limit (restarts_of own))
        (neither (CondKind × Reason) (is_failed_by_pod job.spec own) (is_past_limit (counts counted).0 job.spec own) (FailureTarget, reason.PodFailurePolicy) (FailureTarget, reason.BackoffLimitExceeded) _ none)

    by : (b : Bool) → (b || is_some (cond b None (first_reason counted now job own))) ≡ false → restarts_too_often job.spec.backoff_limit (restarts_of own) ≡ false
    by true g = absurd (true≢false g)
    by false g = of-reason g

-- ---- a pod that the plan does not mark

one-few : (basis : Basis) (job : Job) → basis.job ≡ Some job → (pod : Pod) → StandsIn pod (own_pods job basis.pods) → is_active pod ≡ true → restarts_on_failure job.spec.template.restart ≡ true
    → is_in pod.uid (planned basis).marks ≡ false → first_restarts pod < too_many job
one-few basis job this pod among active policy unmarked =
    let first = first-fewer pod in
    let all = one-fewer pod (own_pods job basis.pods) among opened in
    let few = few-counted (accounted job basis) basis.now job (own_pods job basis.pods) undecided policy in
    omega (arith, first, all, few)
  where
    opened : is_open pod ≡ true
    opened = (and_parts (is_open pod) (not (is_marked pod)) active).0

    not-to-mark : is_to_mark (is_end_decided job (decided_in job basis)) pod ≡ false
    not-to-mark =
        false_from_ne_true (is_to_mark (is_end_decided job (decided_in job basis)) pod)
        (λ h. true≢false (sym (in_some (is_to_mark (is_end_decided job (decided_in job basis))) pod (own_pods job basis.pods) among h) ∙ ap (is_in pod.uid) (sym (plan-marks basis job this)) ∙ unmarked))

    undecided : is_end_decided job (decided_in job basis) ≡ false
    undecided =
        false_from_ne_true (is_end_decided job (decided_in job basis))
        (λ h. true≢false (sym (and_from (is_active pod) (is_end_decided job (decided_in job basis) || not (is_tracked pod)) active (or_left (is_end_decided job (decided_in job basis)) (not (is_tracked pod)) h)) ∙ not-to-mark))

pub few-restarts : (basis : Basis) (job : Job) → basis.job ≡ Some job → restarts_on_failure job.spec.template.restart ≡ true
    → Each (λ (pod : Pod). is_active pod ≡ true → is_in pod.uid (planned basis).marks ≡ false → first_restarts pod < too_many job) (own_pods job basis.pods)
few-restarts basis job this policy = among (own_pods job basis.pods) (λ pod h. h)
  where
    among : (pods : List Pod) → ((pod : Pod) → StandsIn pod pods → StandsIn pod (own_pods job basis.pods))
        → Each (λ (pod : Pod). is_active pod ≡ true → is_in pod.uid (planned basis).marks ≡ false → first_restarts pod < too_many job) pods
    among [] some = tt
    among (pod ∷ pods) some = (λ active unmarked. one-few basis job this pod (some pod (inl refl)) active policy unmarked, among pods (λ q h. some q (inr h)))
