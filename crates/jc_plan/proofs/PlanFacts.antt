-- The parts of the plan of a basis with a Job.
use Rattle.std.proofs.Common.{◌≡◌, Option, Some, None, refl, sym, ap}
use Rattle.jc_types.specs.declared.objects.Job.{Job}
use Rattle.jc_states.specs.declared.bases.Basis.{Basis}
use Rattle.jc_plan.specs.declared.plans.Planned.{Planned}
use Rattle.jc_plan.specs.Plans.{changed, planned}
use Rattle.jc_plan.specs.Releases.{releases_of}
use Rattle.jc_plan.specs.Statuses.{first_value, second_value, wants_in}
use Rattle.jc_plan.proofs.PartFacts.{planned-here}

module _ (basis : Basis) (job : Job) (this : basis.job ≡ Some job) where
  pub plan-first : (planned basis).first ≡ changed job.status (first_value job basis)
  plan-first = ap (λ (p : Planned). p.first) (sym (planned-here basis (Some job) this))

  pub plan-second : (planned basis).second ≡ changed (first_value job basis) (second_value job basis)
  plan-second = ap (λ (p : Planned). p.second) (sym (planned-here basis (Some job) this))

  pub plan-backoff : (planned basis).backoff ≡ (wants_in job basis).backoff
  plan-backoff = ap (λ (p : Planned). p.backoff) (sym (planned-here basis (Some job) this))

  pub plan-marks : (planned basis).marks ≡ (wants_in job basis).marks
  plan-marks = ap (λ (p : Planned). p.marks) (sym (planned-here basis (Some job) this))

  pub plan-let_goes : (planned basis).let_goes ≡ (wants_in job basis).let_goes
  plan-let_goes = ap (λ (p : Planned). p.let_goes) (sym (planned-here basis (Some job) this))

  pub plan-creates : (planned basis).creates ≡ (wants_in job basis).creates
  plan-creates = ap (λ (p : Planned). p.creates) (sym (planned-here basis (Some job) this))

-- What loses its finalizer is the same with a Job and without.
pub plan-releases : (basis : Basis) → (planned basis).releases ≡ releases_of basis
plan-releases basis = by basis.job refl
  where
    by : (o : Option Job) → basis.job ≡ o → (planned basis).releases ≡ releases_of basis
    by None h = ap (λ (p : Planned). p.releases) (sym (planned-here basis None h))
    by (Some job) h = ap (λ (p : Planned). p.releases) (sym (planned-here basis (Some job) h))
