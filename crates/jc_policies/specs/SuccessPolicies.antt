-- What a manifest says of a Job's success policy (KEP-3998).
use Rattle.std.specs.Prelude.{ℕ, ◌+◌, pos, nat_abs, List, [], ◌∷◌, Bool, true, ◌&&◌, ◌||◌, nat_lt, nat_le, length, codes, Option, Some, None, is_some, option_and_then, option_map, if◌then◌else◌}
use Rattle.std.specs.List.{list_all}
use Rattle.std.specs.Option.{option_map_or}
use Rattle.std.specs.Result.{result_unwrap_or}
use Rattle.serde_json.specs.Data.{Data}
use Rattle.jc_json.specs.Place.{path_to, path_at}
use Rattle.jc_json.specs.Field.{member_of, needed_list, optional_text, optional_number, optional_object}
use Rattle.jc_types.specs.declared.limits.TheConstants.{GREATEST_COMPLETIONS}
use Rattle.jc_types.specs.declared.policies.SuccessPolicy.{SuccessPolicy}
use Rattle.jc_types.specs.declared.policies.SuccessRule.{SuccessRule}
use Rattle.jc_rows.specs.declared.counts.Counts.{Counts}
use Rattle.jc_log.specs.Requests.{is_indexed}
use Rattle.jc_rows.specs.PodCountRows.{completions_of}
use Rattle.jc_policies.specs.IndexSets.{set_of}
use Rattle.jc_rows.specs.ManifestRows.{Row, first_refusal, each, rule_row, reads, passes, given_text_row, rows_of_given, given_in}
use Rattle.jc_rows.specs.Templates.{objects_row, list_in}

-- ---- indexes

-- the text names a set that is not empty, and whose members are all completed indexes of a Job with so many
abbrev pub are_indexes : ℕ → List ℕ → Bool
are_indexes completions set = nat_lt 0 (length set) && list_all (λ n. nat_lt n completions) set

abbrev pub indexes_read : ℕ → List ℕ → Option (List ℕ)
indexes_read completions text =
    option_and_then (λ set. if are_indexes completions set then Some set else None) (set_of text)

abbrev pub names_indexes : ℕ → List ℕ → Bool
names_indexes completions text = is_some (indexes_read completions text)

unfoldable pub indexes_row : ℕ → List ℕ → Data → Row
indexes_row completions path rule =
    given_text_row path rule (codes "succeededIndexes") 24 (names_indexes completions)

unfoldable pub succeeded_indexes_in : ℕ → List ℕ → Data → Option (List ℕ)
succeeded_indexes_in completions path rule =
    option_and_then (indexes_read completions) (result_unwrap_or (optional_text path (codes "succeededIndexes") rule) None)

-- ---- counts

-- a count is at most the number of indexes that can succeed
abbrev pub is_reachable : ℕ → Option (List ℕ) → ℕ → Bool
is_reachable completions indexes count =
    nat_le count completions && option_map_or (λ set. nat_le count (length set)) indexes true

unfoldable pub count_in : List ℕ → Data → Option ℕ
count_in path rule =
    option_map nat_abs
    (result_unwrap_or (optional_number path (codes "succeededCount") (pos 1) (pos GREATEST_COMPLETIONS) rule) None)

unfoldable pub count_row : List ℕ → Data → Row
count_row path rule =
    reads (optional_number path (codes "succeededCount") (pos 1) (pos GREATEST_COMPLETIONS) rule)

unfoldable pub count_refusal : ℕ → List ℕ → Data → Row
count_refusal completions path rule = first_refusal
    (count_row path rule
    ∷ rule_row (path_to path (codes "succeededCount")) 25
    (option_map_or (is_reachable completions (succeeded_indexes_in completions path rule)) (count_in path rule) true)
    ∷ [])

-- ---- one rule, whose path is `path`: rules 23 to 25

unfoldable pub says_something : Data → Bool
says_something rule =
    is_some (member_of (codes "succeededIndexes") rule) || is_some (member_of (codes "succeededCount") rule)

unfoldable pub success_rule_refusal : ℕ → List ℕ → Data → Row
success_rule_refusal completions path rule = first_refusal
    (rule_row path 23 (says_something rule)
    ∷ indexes_row completions path rule
    ∷ count_refusal completions path rule
    ∷ [])

unfoldable pub success_rule_in : ℕ → List ℕ → Data → SuccessRule
success_rule_in completions path rule =
    record { indexes = succeeded_indexes_in completions path rule; count = count_in path rule }

-- ---- the policy

unfoldable pub success_rule_row : ℕ → List ℕ → ℕ → Data → Row
success_rule_row completions path place rule = success_rule_refusal completions (path_at path place) rule

abbrev pub success_rules_from : ℕ → List ℕ → ℕ → List Data → List SuccessRule
success_rules_from completions path place [] = []
success_rules_from completions path place (d ∷ ds) =
    success_rule_in completions (path_at path place) d ∷ success_rules_from completions path (place + 1) ds

-- 1 to 20 rules: rule 22
unfoldable pub success_rules_refusal : ℕ → List ℕ → Data → Row
success_rules_refusal completions path policy = first_refusal
    (passes (path_to path (codes "rules")) 22 (λ rules. nat_lt 0 (length rules) && nat_le (length rules) 20)
    (needed_list path (codes "rules") policy)
    ∷ objects_row (path_to path (codes "rules")) (list_in path policy (codes "rules"))
    ∷ each (success_rule_row completions (path_to path (codes "rules"))) 0 (list_in path policy (codes "rules"))
    ∷ [])

unfoldable pub success_rules_in : ℕ → List ℕ → Data → SuccessPolicy
success_rules_in completions path policy =
    record { rules = success_rules_from completions (path_to path (codes "rules")) 0 (list_in path policy (codes "rules")) }

-- only an Indexed Job has a success policy: rule 21. The policy's path is `path`
unfoldable pub given_success_refusal : Counts → List ℕ → Data → Row
given_success_refusal counts path policy = first_refusal
    (rule_row path 21 (is_indexed counts.mode)
    ∷ success_rules_refusal (completions_of counts) path policy
    ∷ [])

unfoldable pub success_refusal : Counts → List ℕ → Data → Row
success_refusal counts path spec = rows_of_given (optional_object path (codes "successPolicy") spec)
    (given_success_refusal counts (path_to path (codes "successPolicy")))

unfoldable pub success_in : Counts → List ℕ → Data → Option SuccessPolicy
success_in counts path spec =
    option_map (success_rules_in (completions_of counts) (path_to path (codes "successPolicy")))
    (given_in path spec (codes "successPolicy"))
