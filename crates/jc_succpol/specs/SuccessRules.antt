-- Which rule of a success policy decides (KEP-3998). `completed` is the set of the indexes that have
-- succeeded, `indexes` that which a rule names.
--     includes completed indexes       each of the indexes is completed
--     count_within indexes completed   how many completed indexes are among the indexes
--     is_met rule completed            the rule is met
--     met_place policy completed        the least place of a rule that is met
use Rattle.std.specs.Prelude.{ℕ, nat_le, Bool, false, List, length, Option, Some, None, count_by, position}
use Rattle.std.specs.List.{list_all}
use Rattle.jc_types.specs.declared.policies.SuccessPolicy.{SuccessPolicy}
use Rattle.jc_types.specs.declared.policies.SuccessRule.{SuccessRule}
use Rattle.jc_ranges.specs.Sets.{has}

-- Each of the indexes is completed.
abbrev pub includes : List ℕ → List ℕ → Bool
includes completed indexes = list_all (λ n. has n completed) indexes

-- How many completed indexes are among the indexes.
abbrev pub count_within : List ℕ → List ℕ → ℕ
count_within indexes completed = count_by (λ n. has n indexes) completed

-- Indexes alone need all of them. A count alone needs that many completed indexes, and both need that many
-- within the indexes. A rule with neither is never met.
abbrev pub is_met_by : Option (List ℕ) → Option ℕ → List ℕ → Bool
is_met_by None None completed = false
is_met_by (Some indexes) None completed = includes completed indexes
is_met_by None (Some count) completed = nat_le count (length completed)
is_met_by (Some indexes) (Some count) completed = nat_le count (count_within indexes completed)

-- The rule is met.
abbrev pub is_met : SuccessRule → List ℕ → Bool
is_met rule completed = is_met_by rule.indexes rule.count completed

-- The least place of a rule that is met.
abbrev pub met_place : SuccessPolicy → List ℕ → Option ℕ
met_place policy completed = position (λ rule. is_met rule completed) policy.rules
