-- The parts of a plan that a sync asks for.
use Rattle.std.proofs.Common.{◌≡◌, Bool, true, false, cond, Option, Some, None, is_some, refl, sym, ap, true≢false}
use Rattle.jc_types.specs.declared.statuses.JobStatus.{JobStatus}
use Rattle.jc_states.specs.declared.bases.Basis.{Basis}
use Rattle.jc_types.specs.Equality.{same_status}
use Rattle.jc_plan.specs.declared.plans.Planned.{Planned}
use Rattle.jc_plan.specs.Plans.{changed, planned}
use Rattle.jc_plan.proofs.PartFacts.{planned-here}

pub plan-no_first : (basis : Basis) → basis.job ≡ None → (planned basis).first ≡ None
plan-no_first basis h = ap (λ (p : Planned). p.first) (sym (planned-here basis None h))

pub plan-no_second : (basis : Basis) → basis.job ≡ None → (planned basis).second ≡ None
plan-no_second basis h = ap (λ (p : Planned). p.second) (sym (planned-here basis None h))

-- A status that is to be written is the new one, and differs from the old one.
pub record IsChange (old new status : JobStatus) : Type 0 where
  pub is : status ≡ new
  pub differs : same_status old new ≡ false

pub changed-some : (old new status : JobStatus) → changed old new ≡ Some status → IsChange old new status
changed-some old new status h = by (same_status old new) refl h
  where
    by : (b : Bool) → same_status old new ≡ b → cond b None (Some new) ≡ Some status → IsChange old new status
    by true s g = absurd (true≢false (sym (ap is_some g)))
    by false s g = record { is = ap (λ (o : Option JobStatus). elim o [ None ↦ status | Some x ↦ x ]) (sym g); differs = s }
