-- Policies of a Job, and what they make of its pods.
--     WaitsForEnd spec           a failure policy stands only where a pod is replaced once it has ended
--     SamePolicies spec other    both have the same replacement policy and the same failure policy
--     HasEnded spec pod          the pod has come to an outcome
use Rattle.std.specs.Prelude.{◌≡◌, ◌≢◌, IsSome}
use Rattle.jc_types.specs.declared.objects.Pod.{Pod}
use Rattle.jc_types.specs.declared.specifications.JobSpec.{JobSpec}
use Rattle.jc_types.specs.declared.specifications.Replacement.TheVariants.{FailedOnly}
use Rattle.jc_failpol.specs.declared.outcomes.Outcome.TheVariants.{Alive}
use Rattle.jc_failpol.specs.Outcomes.{outcome_of}

-- A failure policy stands only where a pod is replaced once it has ended.
abbrev pub WaitsForEnd : JobSpec → Type 0
WaitsForEnd spec = IsSome spec.failure → spec.replacement ≡ FailedOnly

-- Both have the same replacement policy and the same failure policy.
pub record SamePolicies (spec other : JobSpec) : Type 0 where
  pub replacement : other.replacement ≡ spec.replacement
  pub failure : other.failure ≡ spec.failure

-- The pod has come to an outcome.
abbrev pub HasEnded : JobSpec → Pod → Type 0
HasEnded spec pod = outcome_of spec pod ≢ Alive
