-- A success is no failure that a policy ignores.
use Rattle.std.proofs.Common.{◌≡◌, Bool, true, false, not, cond, List, Option, Some, None, IfSome, pos, refl, ap, true≢false}
use Rattle.std.specs.Ordering.{int_eq}
use Rattle.jc_types.specs.declared.actions.End.{End}
use Rattle.jc_types.specs.declared.objects.Phase.TheVariants as phase
use Rattle.jc_types.specs.declared.objects.Pod.{Pod}
use Rattle.jc_types.specs.declared.specifications.JobSpec.{JobSpec}
use Rattle.jc_failpol.specs.declared.outcomes.Outcome.TheVariants.{Ignored}
use Rattle.jc_failpol.specs.Outcomes.{outcome_of, same_outcome}
use Rattle.jc_making.specs.Grants.{as_new}
use Rattle.jc_making.specs.Making.{fails}
use Rattle.jc_making.specs.Nodes.{last_end}
use Rattle.jc_retries.specs.Retries.{CountsAtLast, ended_by, is_ignored_end}

pub success-not-ignored : (spec : JobSpec) (end : End) (pod : Pod) → fails end ≡ false → is_ignored_end spec end pod ≡ false
success-not-ignored spec end pod h = by (int_eq end.exit (pos 0)) refl h
  where
    by : (b : Bool) → int_eq end.exit (pos 0) ≡ b → not b ≡ false → is_ignored_end spec end pod ≡ false
    by true e h = ap (λ b. same_outcome (outcome_of spec (record (ended_by end pod) { phase = cond b phase.Succeeded phase.Failed })) Ignored) e
    by false e h = absurd (true≢false h)

-- So where the last of the ends is one, it counts.
pub success-counts : (ends : List End) (spec : JobSpec) → IfSome (last_end ends) (λ end. fails end ≡ false) → CountsAtLast ends spec
success-counts ends spec h = by (last_end ends) h
  where
    by : (o : Option End) → IfSome o (λ end. fails end ≡ false) → IfSome o (λ end. (any : Pod) → is_ignored_end spec end (as_new spec.template any) ≡ false)
    by None h = tt
    by (Some end) h = λ any. success-not-ignored spec end (as_new spec.template any) h
