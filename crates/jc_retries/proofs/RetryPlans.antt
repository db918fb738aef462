-- A plan uses up what may be made where pods fail.
use Rattle.std.proofs.Common.{◌≡◌, ℕ, ◌+◌, ◌≤◌, Bool, true, false, cond, ◌||◌, List, filter, length, Some, is_some, refl, sym, ap, ◌∙◌, arith, true≢false}
use Rattle.std.specs.List.{AllByRecursion as Each}
use Rattle.std.proofs.lemmas.Bool.{or_left, or_right}
use Rattle.std.proofs.lemmas.List.{length-append}
use Rattle.std.proofs.lemmas.List.Elements.{filter-append}
use Rattle.jc_types.specs.declared.actions.End.{End}
use Rattle.jc_types.specs.declared.objects.Job.{Job}
use Rattle.jc_types.specs.declared.objects.Pod.{Pod}
use Rattle.jc_states.specs.declared.bases.Basis.{Basis}
use Rattle.jc_states.specs.Bases.{own_pods}
use Rattle.jc_states.specs.Conditions.{has_target}
use Rattle.jc_states.specs.PodLists.{IsRising}
use Rattle.jc_plan.specs.Plans.{planned}
use Rattle.jc_plan.specs.Statuses.{decided_in, is_end_decided}
use Rattle.jc_making.specs.Grants.{AllGranted, LooksNew, job_left}
use Rattle.jc_making.specs.Making.{IsCounted}
use Rattle.jc_making.proofs.CreationFacts.{kept, kept-few, tracked-now}
use Rattle.jc_making.proofs.LowerFacts.{no-more, none-left, none-made, places-fall, target-then}
use Rattle.jc_retries.specs.Retries.{CountsAtLast, creations_allowed, failures_left, ignored_left, is_spent, may_be_retried, will_be_ignored}
use Rattle.jc_retries.proofs.FailureFacts.{failures-stay, spent-decided}
use Rattle.jc_retries.proofs.IgnoredFacts.{new-ignored}

module _ (ends : List End) (made : ℕ) (job : Job) (basis : Basis) (this : basis.job ≡ Some job) (rises : IsRising basis.pods)
    (counted : IsCounted job (own_pods job basis.pods)) (last : CountsAtLast ends job.spec) (now : List Pod)
    (is : AllGranted (planned basis) made (own_pods job basis.pods) now) (looks : Each (LooksNew job.spec.template) is.fresh) where
  abbrev own : List Pod
  own = own_pods job basis.pods

  abbrev new : ℕ
  new = length (planned basis).creates

  abbrev later : Job
  later = job_left (planned basis) job

  abbrev Lower : Type 0
  Lower = creations_allowed ends (made + new) later now + new ≤ creations_allowed ends made job own

  abbrev over : Bool
  over = has_target later.status.conditions || job.spec.suspend

  -- None is left, and none is made.
  quiet : over ≡ true → new ≡ 0 → Lower
  quiet e none =
      let left = none-left (over || is_spent later now) (may_be_retried ends (made + new) later now) (or_left over (is_spent later now) e) in
      omega (arith, left, none)

  module _ (undecided : is_end_decided job (decided_in job basis) ≡ false) (running : job.spec.suspend ≡ false) where
    -- No more are ignored.
    ignored-few : ignored_left ends (made + new) later now ≤ ignored_left ends made job own
    ignored-few =
        let stay = kept made job basis this rises counted now is undecided running in
        let both = ap (λ pods. length (filter (will_be_ignored ends job) pods)) (tracked-now made job basis this rises counted now is undecided running) in
        let apart = ap length (filter-append (will_be_ignored ends job) stay is.fresh) in
        let parts = length-append (filter (will_be_ignored ends job) stay) (filter (will_be_ignored ends job) is.fresh) in
        let few = kept-few made job basis this rises counted now is undecided running (will_be_ignored ends job) in
        let fresh = new-ignored ends job last made (planned basis).creates is.fresh is.new looks in
        omega (arith, both, apart, parts, few, fresh)

    lower : may_be_retried ends (made + new) later now + new ≤ may_be_retried ends made job own
    lower =
        places-fall made job basis this rises counted now is undecided running (failures_left job own + ignored_left ends made job own)
        (failures_left later now + ignored_left ends (made + new) later now)
        (let more = failures-stay job basis this rises made now is in let few = ignored-few in omega (arith, more, few))

    -- Not more have failed than the limit allows, since else that were decided.
    unspent : is_spent job own ≡ false
    unspent = by (is_spent job own) refl
      where
        by : (b : Bool) → is_spent job own ≡ b → b ≡ false
        by true e = absurd (true≢false (sym (spent-decided job basis this rises e) ∙ undecided))
        by false e = refl

    busy : Lower
    busy =
        let left = no-more (over || is_spent later now) (may_be_retried ends (made + new) later now) in
        let was = ap (λ b. cond b 0 (may_be_retried ends made job own)) (λ i. (first (has_target job.status.conditions) (is_some (decided_in job basis)) undecided i || running i) || unspent i) in
        let less = lower in
        omega (arith, left, was, less)
      where
        first : (a b : Bool) → (a || b) ≡ false → a ≡ false
        first true b e = absurd (true≢false e)
        first false b e = refl

  pub uses-up : Lower
  uses-up = by (is_end_decided job (decided_in job basis)) refl job.spec.suspend refl
    where
      by : (b : Bool) → is_end_decided job (decided_in job basis) ≡ b → (s : Bool) → job.spec.suspend ≡ s → Lower
      by true e s f =
          quiet (or_left (has_target later.status.conditions) job.spec.suspend (target-then made job basis this rises counted now is e))
          (none-made made job basis this rises counted now is (or_left (is_end_decided job (decided_in job basis)) job.spec.suspend e))
      by false e true f =
          quiet (or_right (has_target later.status.conditions) job.spec.suspend f)
          (none-made made job basis this rises counted now is (or_right (is_end_decided job (decided_in job basis)) job.spec.suspend f))
      by false e false f = busy e f
