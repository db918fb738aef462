-- When a specification of a Job is valid (batch/v1, KEP-2214, KEP-3329, KEP-3998, KEP-3850, with the bounds
-- of this project).
--     IsSuccessCount rule     its count, if it has one, is one that a success policy may ask for
--     FailsNoIndex policy     no rule of the failure policy fails an index
--     IsValidSpec spec        the specification is valid
use Rattle.std.specs.Prelude.{◌≡◌, ◌+◌, ◌<◌, ◌≤◌, ◌≢◌, ◌++◌, length, IfSome, IsSome, None, All, AllPairs}
use Rattle.jc_types.specs.declared.limits.TheConstants.{GREATEST_COMPLETIONS, GREATEST_LIMIT, GREATEST_PARALLELISM, MOST_CONTAINERS}
use Rattle.jc_types.specs.declared.policies.Action.TheVariants.{FailIndex}
use Rattle.jc_types.specs.declared.policies.FailurePolicy.{FailurePolicy}
use Rattle.jc_types.specs.declared.policies.SuccessRule.{SuccessRule}
use Rattle.jc_types.specs.declared.specifications.JobSpec.{JobSpec}
use Rattle.jc_types.specs.declared.specifications.Mode.TheVariants.{Indexed}
use Rattle.jc_types.specs.declared.specifications.Replacement.TheVariants.{FailedOnly}
use Rattle.jc_types.specs.declared.specifications.Restart.TheVariants.{Never}

-- A count of succeeded indexes that a success policy may ask for.
abbrev pub IsSuccessCount : SuccessRule → Type 0
IsSuccessCount rule = IfSome rule.count (λ count. (1 ≤ count) × (count ≤ GREATEST_COMPLETIONS))

-- No rule of the failure policy fails an index (KEP-3850).
abbrev pub FailsNoIndex : FailurePolicy → Type 0
FailsNoIndex policy = All (λ rule. rule.action ≢ FailIndex) policy.rules

-- The numbers are in their ranges, there are containers with names of their own, and each policy
-- stands only where it may.
pub record IsValidSpec (spec : JobSpec) : Type 0 where
  pub parallelism : spec.parallelism ≤ GREATEST_PARALLELISM
  pub completions : IfSome spec.completions (λ completions. completions ≤ GREATEST_COMPLETIONS)
  pub backoff_limit : spec.backoff_limit ≤ GREATEST_LIMIT
  pub deadline : IfSome spec.deadline (λ seconds. seconds ≤ GREATEST_LIMIT)
  pub counts : IfSome spec.success (λ policy. All IsSuccessCount policy.rules)
  pub some : 0 < length spec.template.containers
  pub few : length spec.template.containers + length spec.template.inits ≤ MOST_CONTAINERS
  pub distinct :
      AllPairs (λ name other. name ≢ other) (spec.template.containers ++ spec.template.inits)
  pub indexed : spec.mode ≡ Indexed → IsSome spec.completions
  pub failure :
      IsSome spec.failure → (spec.template.restart ≡ Never) × (spec.replacement ≡ FailedOnly)
  pub success : IsSome spec.success → spec.mode ≡ Indexed
  pub per_index : IfSome spec.per_index (λ limit. limit ≤ GREATEST_LIMIT)
  pub max_failed : IfSome spec.max_failed (λ most. most ≤ GREATEST_COMPLETIONS)
  pub by_index : IsSome spec.per_index → (spec.mode ≡ Indexed) × (spec.template.restart ≡ Never)
  pub beside : IsSome spec.max_failed → IsSome spec.per_index
  pub fail_index : spec.per_index ≡ None → IfSome spec.failure FailsNoIndex
