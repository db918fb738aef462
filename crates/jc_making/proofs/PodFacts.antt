-- What becomes of the places that nobody runs towards, where one pod changes.
use Rattle.std.proofs.Common.{◌≡◌, ℕ, ◌+◌, ◌-◌, ◌≤◌, min, Bool, true, false, cond, ◌&&◌, List, ◌∷◌, ◌++◌, filter, length, IsSome, refl, sym, ap, ◌∙◌, subst, arith}
use Rattle.std.specs.List.{AllByRecursion as Each}
use Rattle.std.proofs.lemmas.List.Elements.{filter-append}
use Rattle.jc_types.specs.declared.objects.Job.{Job}
use Rattle.jc_types.specs.declared.objects.Pod.{Pod}
use Rattle.jc_types.specs.declared.specifications.Mode.TheVariants.{Indexed}
use Rattle.jc_types.proofs.ListFacts.{Each-filter}
use Rattle.jc_states.specs.PodLists.{RisesFrom}
use Rattle.jc_states.specs.Pods.{is_tracked_active, tracked_active_pods}
use Rattle.jc_states.proofs.PodListFacts.{rises_filter}
use Rattle.jc_failpol.specs.declared.outcomes.Outcome.TheVariants.{Succeeded}
use Rattle.jc_failpol.specs.Outcomes.{outcome_of, same_outcome}
use Rattle.jc_account.specs.Judged.{candidates, is_candidate}
use Rattle.jc_making.specs.Making.{IsCounted, new_successes, of_use, places}
use Rattle.jc_making.proofs.Values.{fail-lowers, quiet-same, success-lowers, value}

-- The pod is a new success.
abbrev pub is_new : Job → Pod → Bool
is_new job pod = is_candidate job pod && same_outcome (outcome_of job.spec pod) Succeeded

pub new-mid : (job : Job) (front back : List Pod) (p : Pod) → new_successes job (front ++ p ∷ back) ≡ new_successes job front ++ cond (is_new job p) (p ∷ new_successes job back) (new_successes job back)
new-mid job front back p =
    ap (filter succeeds) (filter-append (is_candidate job) front (p ∷ back))
    ∙ filter-append succeeds (candidates job front) (candidates job (p ∷ back))
    ∙ ap (λ pods. new_successes job front ++ pods) (by (is_candidate job p))
  where
    succeeds : Pod → Bool
    succeeds pod = same_outcome (outcome_of job.spec pod) Succeeded

    by : (c : Bool) → filter succeeds (cond c (p ∷ candidates job back) (candidates job back)) ≡ cond (c && succeeds p) (p ∷ new_successes job back) (new_successes job back)
    by true = refl
    by false = refl

pub tracked-mid : (front back : List Pod) (p : Pod) → tracked_active_pods (front ++ p ∷ back) ≡ tracked_active_pods front ++ cond (is_tracked_active p) (p ∷ tracked_active_pods back) (tracked_active_pods back)
tracked-mid front back p = filter-append is_tracked_active front (p ∷ back)

module _ (job : Job) where
  -- The places that nobody runs towards.
  abbrev pub unmet : List Pod → ℕ
  unmet own = places job own - min (length (of_use job own)) job.spec.parallelism

  abbrev pub valued : List Pod → List Pod → ℕ
  valued news tracked =
      value job.spec.completions job.spec.parallelism job.spec.per_index job.status.completed job.status.index_failures
      (job.status.succeeded + length job.status.uncounted_succeeded) job.spec.mode news tracked

  -- Two lists of own pods, of which the same ones are new successes and the same ones are active.
  pub same-unmet : (own others : List Pod) → new_successes job own ≡ new_successes job others → tracked_active_pods own ≡ tracked_active_pods others → unmet own ≡ unmet others
  same-unmet own others news tracked = λ i. valued (news i) (tracked i)

  module _ (front back : List Pod) where
    -- A pod that neither has succeeded anew nor is active counts for nothing.
    pub nothing : (p : Pod) → is_new job p ≡ false → is_tracked_active p ≡ false → unmet (front ++ p ∷ back) ≡ unmet (front ++ back)
    nothing p new idle =
        same-unmet (front ++ p ∷ back) (front ++ back)
        (new-mid job front back p ∙ ap (λ b. new_successes job front ++ cond b (p ∷ new_successes job back) (new_successes job back)) new ∙ sym both)
        (tracked-mid front back p ∙ ap (λ b. tracked_active_pods front ++ cond b (p ∷ tracked_active_pods back) (tracked_active_pods back)) idle ∙ sym (filter-append is_tracked_active front back))
      where
        both : new_successes job (front ++ back) ≡ new_successes job front ++ new_successes job back
        both =
            ap (filter (λ pod. same_outcome (outcome_of job.spec pod) Succeeded)) (filter-append (is_candidate job) front back)
            ∙ filter-append (λ pod. same_outcome (outcome_of job.spec pod) Succeeded) (candidates job front) (candidates job back)

    module _ (x y : Pod) (counted : IsCounted job (front ++ x ∷ back)) where
      abbrev news : List Pod
      news = new_successes job front ++ new_successes job back

      abbrev before : List Pod
      before = tracked_active_pods front

      abbrev behind : List Pod
      behind = tracked_active_pods back

      unnew : (p : Pod) → is_new job p ≡ false → new_successes job (front ++ p ∷ back) ≡ news
      unnew p e = new-mid job front back p ∙ ap (λ b. new_successes job front ++ cond b (p ∷ new_successes job back) (new_successes job back)) e

      active : (p : Pod) (b : Bool) → is_tracked_active p ≡ b → tracked_active_pods (front ++ p ∷ back) ≡ before ++ cond b (p ∷ behind) behind
      active p b e = tracked-mid front back p ∙ ap (λ b. before ++ cond b (p ∷ behind) behind) e

      up : is_tracked_active x ≡ true → RisesFrom 0 (before ++ x ∷ behind)
      up e = subst (RisesFrom 0) (active x true e) (rises_filter 0 is_tracked_active (front ++ x ∷ back) counted.rising)

      numbered : is_tracked_active x ≡ true → job.spec.mode ≡ Indexed → Each (λ pod. IsSome pod.index) (before ++ x ∷ behind)
      numbered e is = subst (Each (λ pod. IsSome pod.index)) (active x true e) (Each-filter (λ pod. IsSome pod.index) is_tracked_active (front ++ x ∷ back) (counted.numbered is))

      left-is : (p : Pod) (ns ts : List Pod) → new_successes job (front ++ p ∷ back) ≡ ns → tracked_active_pods (front ++ p ∷ back) ≡ ts → unmet (front ++ p ∷ back) ≡ valued ns ts
      left-is p ns ts n t = λ i. valued (n i) (t i)

      -- It goes on.
      pub goes-on : y.uid ≡ x.uid → y.index ≡ x.index → is_new job x ≡ false → is_new job y ≡ false → is_tracked_active x ≡ true → is_tracked_active y ≡ true
          → unmet (front ++ y ∷ back) ≡ unmet (front ++ x ∷ back)
      goes-on uid index ox oy ax ay =
          left-is y news (before ++ y ∷ behind) (unnew y oy) (active y true ay)
          ∙ quiet-same job.spec.completions job.spec.parallelism job.spec.per_index job.status.completed
          job.status.index_failures (job.status.succeeded + length job.status.uncounted_succeeded) before
          behind x y uid index job.spec.mode news
          ∙ sym (left-is x news (before ++ x ∷ behind) (unnew x ox) (active x true ax))

      -- It fails, and something else becomes less.
      pub fails-now : (m n : ℕ) → n + 1 ≤ m → is_new job x ≡ false → is_new job y ≡ false → is_tracked_active x ≡ true → is_tracked_active y ≡ false
          → unmet (front ++ y ∷ back) + n ≤ unmet (front ++ x ∷ back) + m
      fails-now m n less ox oy ax ay =
          let now = left-is y news (before ++ behind) (unnew y oy) (active y false ay) in
          let was = left-is x news (before ++ x ∷ behind) (unnew x ox) (active x true ax) in
          let lower = fail-lowers job.spec.completions job.spec.parallelism job.spec.per_index job.status.completed
          job.status.index_failures (job.status.succeeded + length job.status.uncounted_succeeded) before
          behind x job.spec.mode news m n less (up ax) (numbered ax) in
          omega (arith, now, was, lower)

      -- It succeeds, and something else becomes no more.
      pub succeeds-now : (m n : ℕ) → n ≤ m → y.index ≡ x.index → is_new job x ≡ false → is_new job y ≡ true → is_tracked_active x ≡ true → is_tracked_active y ≡ false
          → unmet (front ++ y ∷ back) + n ≤ unmet (front ++ x ∷ back) + m
      succeeds-now m n less index ox oy ax ay =
          let now = left-is y (new_successes job front ++ y ∷ new_successes job back) (before ++ behind)
          (new-mid job front back y ∙ ap (λ b. new_successes job front ++ cond b (y ∷ new_successes job back) (new_successes job back)) oy) (active y false ay) in
          let was = left-is x news (before ++ x ∷ behind) (unnew x ox) (active x true ax) in
          let lower = success-lowers job.spec.completions job.spec.parallelism job.spec.per_index job.status.completed
          job.status.index_failures (job.status.succeeded + length job.status.uncounted_succeeded) before
          behind x (new_successes job front) (new_successes job back) y index job.spec.mode m n less (up ax) (numbered ax) in
          omega (arith, now, was, lower)
