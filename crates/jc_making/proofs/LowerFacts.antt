-- No plan leaves more to be made than there was, less what it makes.
use Rattle.std.proofs.Common.{◌≡◌, ℕ, ◌+◌, ◌≤◌, Bool, true, false, cond, ◌||◌, List, [], filter, length, Some, IfSome, is_some, refl, ap, ◌∙◌, arith, true≢false}
use Rattle.std.proofs.lemmas.Bool.{or_left, or_right}
use Rattle.std.proofs.lemmas.List.{length-append}
use Rattle.std.proofs.lemmas.List.Elements.{filter-append}
use Rattle.jc_types.specs.declared.actions.End.{End}
use Rattle.jc_types.specs.declared.objects.Job.{Job}
use Rattle.jc_types.specs.declared.objects.Pod.{Pod}
use Rattle.jc_types.specs.declared.specifications.Mode.{Mode}
use Rattle.jc_types.specs.declared.specifications.Mode.TheVariants.{NonIndexed, Indexed}
use Rattle.jc_types.specs.declared.statuses.JobStatus.{JobStatus}
use Rattle.jc_states.specs.declared.bases.Basis.{Basis}
use Rattle.jc_states.specs.Bases.{own_pods}
use Rattle.jc_states.specs.Conditions.{has_target}
use Rattle.jc_states.specs.PodLists.{IsRising}
use Rattle.jc_account.specs.Accounts.{counted_out}
use Rattle.jc_manage.specs.Backoffs.{backoff_after, is_delayed_until, opening}
use Rattle.jc_manage.specs.Creations.{free, job_lacks, keepers, new_pods}
use Rattle.jc_history.specs.Nodes.{last_end}
use Rattle.jc_plan.specs.Plans.{planned}
use Rattle.jc_plan.specs.Statuses.{accounted, decided_in, first_status_of, is_second_due, is_end_decided, second_value, wants_in}
use Rattle.jc_plan.proofs.PlanFacts.{plan-creates}
use Rattle.jc_plan.proofs.Targets.{target-kind}
use Rattle.jc_plan.proofs.ValueFacts.{settled-target}
use Rattle.jc_making.specs.Grants.{AllGranted, job_left}
use Rattle.jc_making.specs.Making.{IsCounted, creations_left, fails, may_be_made, misses, will_fail}
use Rattle.jc_making.proofs.CreationFacts.{kept, kept-few, plain-places, tracked-now}
use Rattle.jc_making.proofs.IndexedFacts.{indexed-places}
use Rattle.jc_making.proofs.MissFacts.{new-misses}
use Rattle.jc_making.proofs.PodFacts.{unmet}
use Rattle.jc_making.proofs.StatusFacts.{left-is}

-- What is left, where the Job makes none, and where it may.
pub none-left : (b : Bool) (m : ℕ) → b ≡ true → cond b 0 m ≡ 0
none-left b m e = ap (λ x. cond x 0 m) e

pub no-more : (b : Bool) (m : ℕ) → cond b 0 m ≤ m
no-more true m = omega arith
no-more false m = omega arith

module _ (made : ℕ) (job : Job) (basis : Basis) (this : basis.job ≡ Some job) (rises : IsRising basis.pods)
    (counted : IsCounted job (own_pods job basis.pods)) (now : List Pod)
    (is : AllGranted (planned basis) made (own_pods job basis.pods) now) where
  abbrev own : List Pod
  own = own_pods job basis.pods

  abbrev new : ℕ
  new = length (planned basis).creates

  abbrev later : Job
  later = job_left (planned basis) job

  -- A plan makes none where how the Job ends is decided, or it is suspended.
  pub none-made : (is_end_decided job (decided_in job basis) || job.spec.suspend) ≡ true → new ≡ 0
  none-made h =
      ap length (plan-creates basis job this)
      ∙ ap (λ b. length (cond (is_delayed_until (opening (backoff_after basis.backoff (accounted job basis) basis.now)) basis.now) []
      (cond b [] (new_pods job.spec.mode (job_lacks job own (accounted job basis)) (free (Rattle.std.specs.Prelude.unwrap_or job.spec.completions 0) (accounted job basis) (keepers job.spec.replacement own)))))) h
      ∙ by (is_delayed_until (opening (backoff_after basis.backoff (accounted job basis) basis.now)) basis.now)
    where
      by : (b : Bool) → length (cond b [] (cond true []
          (new_pods job.spec.mode (job_lacks job own (accounted job basis))
          (free (Rattle.std.specs.Prelude.unwrap_or job.spec.completions 0) (accounted job basis)
          (keepers job.spec.replacement own))))) ≡ 0
      by true = refl
      by false = refl

  -- Where it is decided, a target stands then.
  pub target-then : is_end_decided job (decided_in job basis) ≡ true → has_target later.status.conditions ≡ true
  unfolding second_value counted_out
  target-then h =
      ap (λ (s : JobStatus). has_target s.conditions) (left-is job basis this rises)
      ∙ settled-target basis.now job (decided_in job basis)
      (is_second_due (is_end_decided job (decided_in job basis)) own (accounted job basis) (counted_out (first_status_of basis.now job own (accounted job basis) (decided_in job basis) (wants_in job basis)) (accounted job basis).releases))
      (target-kind (accounted job basis) basis.now job own) h

  -- Where it is not, and the Job is not suspended, the places that nobody runs towards become fewer by as many as are made.
  pub places-fall : is_end_decided job (decided_in job basis) ≡ false → job.spec.suspend ≡ false → (m n : ℕ) → n ≤ m → unmet later now + n + new ≤ unmet job own + m
  places-fall undecided running m n less = by job.spec.mode refl
    where
      by : (mode : Mode) → job.spec.mode ≡ mode → unmet later now + n + new ≤ unmet job own + m
      by NonIndexed at = plain-places made job basis this rises counted now is undecided running at m n less
      by Indexed at = indexed-places made job basis this rises counted now is undecided running at m n less

  -- ---- the ends to come

  module _ (ends : List End) (last : IfSome (last_end ends) (λ end. fails end ≡ false)) where
    abbrev Lower : Type 0
    Lower = creations_left ends (made + new) later now + new ≤ creations_left ends made job own

    -- The misses are no more.
    misses-few : is_end_decided job (decided_in job basis) ≡ false → job.spec.suspend ≡ false → misses ends (made + new) now ≤ misses ends made own
    misses-few undecided running =
        let stay = kept made job basis this rises counted now is undecided running in
        let both = ap (λ pods. length (filter (will_fail ends) pods)) (tracked-now made job basis this rises counted now is undecided running) in
        let apart = ap length (filter-append (will_fail ends) stay is.fresh) in
        let parts = length-append (filter (will_fail ends) stay) (filter (will_fail ends) is.fresh) in
        let few = kept-few made job basis this rises counted now is undecided running (will_fail ends) in
        let fresh = new-misses ends last made (planned basis).creates is.fresh is.new in
        omega (arith, both, apart, parts, few, fresh)

    -- None is left, and none is made.
    quiet : (has_target later.status.conditions || job.spec.suspend) ≡ true → new ≡ 0 → Lower
    quiet over none =
        let left = none-left (has_target later.status.conditions || job.spec.suspend) (may_be_made ends (made + new) later now) over in
        omega (arith, left, none)

    busy : (has_target job.status.conditions || job.spec.suspend) ≡ false → may_be_made ends (made + new) later now + new ≤ may_be_made ends made job own → Lower
    busy open_still less =
        let left = no-more (has_target later.status.conditions || job.spec.suspend) (may_be_made ends (made + new) later now) in
        let was = ap (λ b. cond b 0 (may_be_made ends made job own)) open_still in
        omega (arith, left, was, less)

    fewer-left : Lower
    fewer-left = by (is_end_decided job (decided_in job basis)) refl job.spec.suspend refl
      where
        first : (a b : Bool) → (a || b) ≡ false → a ≡ false
        first true b e = absurd (true≢false e)
        first false b e = refl

        by : (b : Bool) → is_end_decided job (decided_in job basis) ≡ b → (s : Bool) → job.spec.suspend ≡ s → Lower
        by true e s f =
            quiet (or_left (has_target later.status.conditions) job.spec.suspend (target-then e))
            (none-made (or_left (is_end_decided job (decided_in job basis)) job.spec.suspend e))
        by false e true f =
            quiet (or_right (has_target later.status.conditions) job.spec.suspend f)
            (none-made (or_right (is_end_decided job (decided_in job basis)) job.spec.suspend f))
        by false e false f =
            busy ((λ i. first (has_target job.status.conditions) (is_some (decided_in job basis)) e i || f i))
            (places-fall e f (misses ends made own) (misses ends (made + new) now) (misses-few e f))

pub lowers : (ends : List End) (made : ℕ) (job : Job) (basis : Basis) (this : basis.job ≡ Some job) (rises : IsRising basis.pods)
    (counted : IsCounted job (own_pods job basis.pods)) (last : IfSome (last_end ends) (λ end. fails end ≡ false))
    (now : List Pod) (is : AllGranted (planned basis) made (own_pods job basis.pods) now)
    → creations_left ends (made + length (planned basis).creates) (job_left (planned basis) job) now + length (planned basis).creates ≤ creations_left ends made job (own_pods job basis.pods)
lowers ends made job basis this rises counted last now is = fewer-left made job basis this rises counted now is ends last
