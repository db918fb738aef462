-- When a specification is such as the table of manifests allows.
--     are_new_labels others earlier names     each name is a label, and none of the others and the earlier ones
--     IsAllowedRule, IsAllowedSuccess         one rule of a policy
--     IsAllowedSpec spec                      the specification
--     IsAllowedKey key                        the names of a Job
--     is_allowed_key key                      a test for that
use Rattle.std.specs.Prelude.{◌≡◌, ◌≤◌, ℕ, ℤ, pos, negsuc, int_le, ◌+◌, List, [], ◌∷◌, ◌++◌, length, Bool, true, false, not, ◌&&◌, ◌||◌, nat_lt, nat_le, IfSome, is_none, is_some, Some, Option, unwrap_or}
use Rattle.std.specs.List.{AllByRecursion as Each}
use Rattle.std.specs.Option.{option_map_or}
use Rattle.jc_ranges.specs.Texts.{ranges_text}
use Rattle.jc_types.specs.declared.limits.TheConstants.{GREATEST_COMPLETIONS, GREATEST_LIMIT, GREATEST_PARALLELISM, MOST_CONTAINERS}
use Rattle.jc_types.specs.declared.objects.KeyNames.{KeyNames as Key}
use Rattle.jc_types.specs.declared.policies.FailurePolicy.{FailurePolicy}
use Rattle.jc_types.specs.declared.policies.FailureRule.{FailureRule}
use Rattle.jc_types.specs.declared.policies.Pattern.{Pattern}
use Rattle.jc_types.specs.declared.policies.Requirement.{Requirement}
use Rattle.jc_types.specs.declared.policies.Requirement.TheVariants.{ExitCodes, Conditions}
use Rattle.jc_types.specs.declared.policies.SuccessPolicy.{SuccessPolicy}
use Rattle.jc_types.specs.declared.policies.SuccessRule.{SuccessRule}
use Rattle.jc_types.specs.declared.specifications.JobSpec.{JobSpec}
use Rattle.jc_types.specs.declared.specifications.Template.{Template}
use Rattle.jc_log.specs.Requests.{is_indexed}
use Rattle.jc_manifest.specs.FailurePolicies.{are_codes, is_fail_index, is_type}
use Rattle.jc_manifest.specs.IndexSets.{set_of}
use Rattle.jc_manifest.specs.Manifests.{is_early}
use Rattle.jc_manifest.specs.SuccessPolicies.{are_indexes, is_reachable}
use Rattle.jc_rows.specs.Templates.{is_among, is_new_label, never_restarts}
use Rattle.jc_rows.specs.NameForms.{is_label, is_subdomain}

-- ---- names

abbrev pub are_new_labels : List (List ℕ) → List (List ℕ) → List (List ℕ) → Bool
are_new_labels others earlier [] = true
are_new_labels others earlier (name ∷ names) =
    is_new_label others earlier name && are_new_labels others (earlier ++ name ∷ []) names

pub record IsAllowedKey (key : Key) : Type 0 where
  pub name : is_subdomain key.name ≡ true
  pub namespace : is_label key.namespace ≡ true

-- A test for that.
abbrev pub is_allowed_key : Key → Bool
is_allowed_key key = is_subdomain key.name && is_label key.namespace

-- ---- a failure policy, where these are the names of all containers

-- an exit code is a number of 32 bits
pub record IsCode (code : ℤ) : Type 0 where
  pub least : int_le (negsuc 2147483647) code ≡ true
  pub greatest : int_le code (pos 2147483647) ≡ true

abbrev pub IsAllowedRequirement : List (List ℕ) → Requirement → Type 0
IsAllowedRequirement names (ExitCodes container operator values) =
    IfSome container (λ name. is_among names name ≡ true) × (are_codes operator values ≡ true) × Each IsCode values
IsAllowedRequirement names (Conditions patterns) =
    (nat_lt 0 (length patterns) ≡ true) × (nat_le (length patterns) 20 ≡ true)
    × Each (λ (pattern : Pattern). is_type pattern.kind ≡ true) patterns

-- an index fails by itself only where failures are limited by index
pub record IsAllowedRule (by_index : Bool) (names : List (List ℕ)) (rule : FailureRule) : Type 0 where
  pub action : (by_index || not (is_fail_index rule.action)) ≡ true
  pub requirement : IsAllowedRequirement names rule.requirement

pub record IsAllowedFailure (by_index : Bool) (template : Template) (policy : FailurePolicy) : Type 0 where
  pub never : never_restarts template.restart ≡ true
  pub few : nat_le (length policy.rules) 20 ≡ true
  pub rules : Each (IsAllowedRule by_index (template.containers ++ template.inits)) policy.rules

-- ---- a success policy of a Job with so many completions

pub record IsAllowedSet (completions : ℕ) (set : List ℕ) : Type 0 where
  pub indexes : are_indexes completions set ≡ true
  pub told : set_of (ranges_text set) ≡ Some set

pub record IsAllowedCount (completions : ℕ) (indexes : Option (List ℕ)) (count : ℕ) : Type 0 where
  pub some : 1 ≤ count
  pub few : count ≤ GREATEST_COMPLETIONS
  pub reachable : is_reachable completions indexes count ≡ true

pub record IsAllowedSuccessRule (completions : ℕ) (rule : SuccessRule) : Type 0 where
  pub something : (is_some rule.indexes || is_some rule.count) ≡ true
  pub indexes : IfSome rule.indexes (IsAllowedSet completions)
  pub count : IfSome rule.count (IsAllowedCount completions rule.indexes)

pub record IsAllowedSuccess (spec : JobSpec) (policy : SuccessPolicy) : Type 0 where
  pub indexed : is_indexed spec.mode ≡ true
  pub few : (nat_lt 0 (length policy.rules) && nat_le (length policy.rules) 20) ≡ true
  pub rules : Each (IsAllowedSuccessRule (unwrap_or spec.completions 0)) policy.rules

-- ---- limits for each index

-- a greatest number of failed indexes stands beside a limit for each, and is at most that of all indexes
abbrev pub fails_indexes : Option ℕ → Option ℕ → Option ℕ → Bool
fails_indexes per_index completions max_failed =
    option_map_or (λ most. is_some per_index && nat_le most (unwrap_or completions 0)) max_failed true

pub record IsAllowedByIndex (spec : JobSpec) : Type 0 where
  pub per_index : IfSome spec.per_index (λ n. n ≤ GREATEST_LIMIT)
  pub max_failed : IfSome spec.max_failed (λ n. n ≤ GREATEST_COMPLETIONS)
  pub indexed : (not (is_some spec.per_index) || is_indexed spec.mode) ≡ true
  pub failing : fails_indexes spec.per_index spec.completions spec.max_failed ≡ true
  pub never : (not (is_some spec.per_index) || never_restarts spec.template.restart) ≡ true

-- ---- all together

pub record IsAllowedSpec (spec : JobSpec) : Type 0 where
  pub parallelism : spec.parallelism ≤ GREATEST_PARALLELISM
  pub completions : IfSome spec.completions (λ n. n ≤ GREATEST_COMPLETIONS)
  pub indexed : (is_indexed spec.mode && is_none spec.completions) ≡ false
  pub backoff_limit : spec.backoff_limit ≤ GREATEST_LIMIT
  pub deadline : IfSome spec.deadline (λ n. n ≤ GREATEST_LIMIT)
  pub many : (nat_lt 0 (length spec.template.containers)
      && nat_le (length spec.template.containers + length spec.template.inits) MOST_CONTAINERS) ≡ true
  pub containers : are_new_labels [] [] spec.template.containers ≡ true
  pub inits : are_new_labels spec.template.containers [] spec.template.inits ≡ true
  pub by_index : IsAllowedByIndex spec
  pub failure : IfSome spec.failure (IsAllowedFailure (is_some spec.per_index) spec.template)
  pub replacement : (is_some spec.failure && is_early spec.replacement) ≡ false
  pub success : IfSome spec.success (IsAllowedSuccess spec)
