-- What a manifest says of a Job's pod failure policy (KEP-3329).
use Rattle.std.specs.Prelude.{ℕ, ◌+◌, ℤ, pos, negsuc, int_lt, List, [], ◌∷◌, ◌++◌, Bool, true, false, not, ◌&&◌, ◌||◌, nat_lt, nat_le, length, bytes_eq, codes, Option, Some, None, is_some, option_and_then, option_map, unwrap_or, if◌then◌else◌}
use Rattle.std.specs.List.{list_any}
use Rattle.std.specs.Option.{option_map_or}
use Rattle.std.specs.Ordering.{int_eq}
use Rattle.std.specs.Result.{result_unwrap_or}
use Rattle.serde_json.specs.Data.{Data}
use Rattle.serde_json.specs.Events.{items_len}
use Rattle.serde_json.specs.Find.{as_array}
use Rattle.jc_json.specs.Place.{path_to, path_at}
use Rattle.jc_json.specs.Field.{member_of, needed_text, needed_list, optional_text, optional_object, item_number}
use Rattle.jc_types.specs.declared.policies.Action.{Action}
use Rattle.jc_types.specs.declared.policies.Action.TheVariants.{FailJob, Ignore, Count, FailIndex}
use Rattle.jc_types.specs.declared.policies.FailurePolicy.{FailurePolicy}
use Rattle.jc_types.specs.declared.policies.FailureRule.{FailureRule}
use Rattle.jc_types.specs.declared.policies.Operator.{Operator}
use Rattle.jc_types.specs.declared.policies.Operator.TheVariants.{Within, NotWithin}
use Rattle.jc_types.specs.declared.policies.Pattern.{Pattern}
use Rattle.jc_types.specs.declared.policies.Requirement.{Requirement}
use Rattle.jc_types.specs.declared.policies.Requirement.TheVariants.{ExitCodes, Conditions}
use Rattle.jc_types.specs.declared.policies.Truth.{Truth}
use Rattle.jc_types.specs.declared.policies.Truth.TheVariants.{True, False, Unknown}
use Rattle.jc_types.specs.declared.specifications.Template.{Template}
use Rattle.jc_rows.specs.ManifestRows.{Row, first_refusal, each, rule_row, reads, passes, text_row, given_text_row, object_row, object_in, rows_of_given, given_in}
use Rattle.jc_rows.specs.Templates.{never_restarts, objects_row, list_in, is_among}

-- ---- words

abbrev pub action_named : List ℕ → Option Action
action_named s =
    if bytes_eq s (codes "FailJob") then Some FailJob
    else if bytes_eq s (codes "Ignore") then Some Ignore
    else if bytes_eq s (codes "Count") then Some Count
    else if bytes_eq s (codes "FailIndex") then Some FailIndex
    else None

abbrev pub operator_of : List ℕ → Option Operator
operator_of s =
    if bytes_eq s (codes "In") then Some Within
    else if bytes_eq s (codes "NotIn") then Some NotWithin
    else None

abbrev pub truth_of : List ℕ → Option Truth
truth_of s =
    if bytes_eq s (codes "True") then Some True
    else if bytes_eq s (codes "False") then Some False
    else if bytes_eq s (codes "Unknown") then Some Unknown
    else None

abbrev pub is_action : List ℕ → Bool
is_action s = is_some (action_named s)

abbrev pub is_operator : List ℕ → Bool
is_operator s = is_some (operator_of s)

abbrev pub is_truth : List ℕ → Bool
is_truth s = is_some (truth_of s)

-- ---- exit codes, of the member at `path`

unfoldable pub operator_in : List ℕ → Data → Operator
operator_in path d =
    unwrap_or (operator_of (result_unwrap_or (needed_text path (codes "operator") d) [])) Within

unfoldable pub container_in : List ℕ → Data → Option (List ℕ)
container_in path d = result_unwrap_or (optional_text path (codes "containerName") d) None

-- the list at `path` has numbers of 32 bits
unfoldable pub number_at : List ℕ → ℕ → Data → ℤ
number_at path place d =
    result_unwrap_or (item_number path place (negsuc 2147483647) (pos 2147483647) d) (pos 0)

unfoldable pub code_row : List ℕ → ℕ → Data → Row
code_row path place d = reads (item_number path place (negsuc 2147483647) (pos 2147483647) d)

abbrev pub codes_from : List ℕ → ℕ → List Data → List ℤ
codes_from path place [] = []
codes_from path place (d ∷ ds) = number_at path place d ∷ codes_from path (place + 1) ds

unfoldable pub codes_in : List ℕ → List Data → List ℤ
codes_in path items = codes_from path 0 items

-- each number is above the one before it, the first above `low` where that is given
abbrev pub rises_from : Option ℤ → List ℤ → Bool
rises_from low [] = true
rises_from None (z ∷ zs) = rises_from (Some z) zs
rises_from (Some low) (z ∷ zs) = int_lt low z && rises_from (Some z) zs

abbrev pub has_zero : List ℤ → Bool
has_zero zs = list_any (λ z. int_eq z (pos 0)) zs

abbrev pub is_operator_within : Operator → Bool
is_operator_within Within = true
is_operator_within NotWithin = false

-- 1 to 255 codes that rise, and no 0 among those that a code may be
abbrev pub are_codes : Operator → List ℤ → Bool
are_codes operator zs =
    (nat_lt 0 (length zs) && nat_le (length zs) 255) && (rises_from None zs && not (is_operator_within operator && has_zero zs))

unfoldable pub values_refusal : List ℕ → Data → Row
values_refusal path d = first_refusal
    (reads (needed_list path (codes "values") d)
    ∷ each (code_row (path_to path (codes "values"))) 0 (list_in path d (codes "values"))
    ∷ rule_row (path_to path (codes "values")) 17
    (are_codes (operator_in path d) (codes_in (path_to path (codes "values")) (list_in path d (codes "values"))))
    ∷ [])

unfoldable pub exit_codes_refusal : List (List ℕ) → List ℕ → Data → Row
exit_codes_refusal names path d = first_refusal
    (given_text_row path d (codes "containerName") 18 (is_among names)
    ∷ text_row path d (codes "operator") 16 is_operator
    ∷ values_refusal path d
    ∷ [])

unfoldable pub exit_codes_in : List ℕ → Data → Requirement
exit_codes_in path d = ExitCodes (container_in path d) (operator_in path d)
    (codes_in (path_to path (codes "values")) (list_in path d (codes "values")))

-- ---- patterns of conditions

-- the type of a condition has 1 to 316 bytes
abbrev pub is_type : List ℕ → Bool
is_type s = nat_lt 0 (length s) && nat_le (length s) 316

unfoldable pub pattern_refusal : List ℕ → Data → Row
pattern_refusal path d = first_refusal
    (text_row path d (codes "type") 30 is_type
    ∷ given_text_row path d (codes "status") 20 is_truth
    ∷ [])

unfoldable pub type_in : List ℕ → Data → List ℕ
type_in path d = result_unwrap_or (needed_text path (codes "type") d) []

unfoldable pub truth_in : List ℕ → Data → Truth
truth_in path d =
    unwrap_or (option_and_then truth_of (result_unwrap_or (optional_text path (codes "status") d) None)) True

unfoldable pub pattern_in : List ℕ → Data → Pattern
pattern_in path d = record { kind = type_in path d; truth = truth_in path d }

unfoldable pub pattern_row : List ℕ → ℕ → Data → Row
pattern_row path place d = pattern_refusal (path_at path place) d

abbrev pub patterns_from : List ℕ → ℕ → List Data → List Pattern
patterns_from path place [] = []
patterns_from path place (d ∷ ds) = pattern_in (path_at path place) d ∷ patterns_from path (place + 1) ds

-- the list `items` of patterns stands at `path`
unfoldable pub patterns_refusal : List ℕ → List Data → Row
patterns_refusal path items = first_refusal
    (rule_row path 19 (nat_le (length items) 20)
    ∷ objects_row path items
    ∷ each (pattern_row path) 0 items
    ∷ [])

-- ---- one rule

abbrev pub is_fail_index : Action → Bool
is_fail_index FailJob = false
is_fail_index Ignore = false
is_fail_index Count = false
is_fail_index FailIndex = true

unfoldable pub action_in : List ℕ → Data → Action
action_in path rule =
    unwrap_or (action_named (result_unwrap_or (needed_text path (codes "action") rule) [])) Count

-- an empty list counts as absent
abbrev pub is_no_empty_list : Data → Bool
is_no_empty_list d = option_map_or (λ items. nat_lt 0 (items_len items)) (as_array d) true

unfoldable pub has_exit_codes : Data → Bool
has_exit_codes rule = is_some (member_of (codes "onExitCodes") rule)

unfoldable pub has_patterns : Data → Bool
has_patterns rule = option_map_or is_no_empty_list (member_of (codes "onPodConditions") rule) false

abbrev pub is_just_one : Bool → Bool → Bool
is_just_one true other = not other
is_just_one false other = other

unfoldable pub given_exit_codes_refusal : List (List ℕ) → List ℕ → Data → Row
given_exit_codes_refusal names path rule = first_refusal
    (object_row path rule (codes "onExitCodes")
    ∷ exit_codes_refusal names (path_to path (codes "onExitCodes")) (object_in path rule (codes "onExitCodes"))
    ∷ [])

unfoldable pub given_patterns_refusal : List ℕ → Data → Row
given_patterns_refusal path rule = first_refusal
    (reads (needed_list path (codes "onPodConditions") rule)
    ∷ patterns_refusal (path_to path (codes "onPodConditions")) (list_in path rule (codes "onPodConditions"))
    ∷ [])

unfoldable pub requirement_refusal : List (List ℕ) → List ℕ → Data → Row
requirement_refusal names path rule =
    if has_exit_codes rule then given_exit_codes_refusal names path rule else given_patterns_refusal path rule

unfoldable pub requirement_in : List ℕ → Data → Requirement
requirement_in path rule =
    if has_exit_codes rule
    then exit_codes_in (path_to path (codes "onExitCodes")) (object_in path rule (codes "onExitCodes"))
    else Conditions
    (patterns_from (path_to path (codes "onPodConditions")) 0 (list_in path rule (codes "onPodConditions")))

-- an index fails by itself only where failures are limited by index: rule 27
abbrev pub action_row : Bool → List ℕ → Action → Row
action_row by_index path action =
    rule_row (path_to path (codes "action")) 27 (by_index || not (is_fail_index action))

-- rules 14 and 27
unfoldable pub action_refusal : Bool → List ℕ → Data → Row
action_refusal by_index path rule = first_refusal
    (text_row path rule (codes "action") 14 is_action
    ∷ action_row by_index path (action_in path rule)
    ∷ [])

-- the rule's path is `path`: rules 14 to 20, and 27
unfoldable pub failure_rule_refusal : Bool → List (List ℕ) → List ℕ → Data → Row
failure_rule_refusal by_index names path rule = first_refusal
    (action_refusal by_index path rule
    ∷ rule_row path 15 (is_just_one (has_exit_codes rule) (has_patterns rule))
    ∷ requirement_refusal names path rule
    ∷ [])

unfoldable pub failure_rule_in : List ℕ → Data → FailureRule
failure_rule_in path rule = record { action = action_in path rule; requirement = requirement_in path rule }

-- ---- the policy

unfoldable pub failure_rule_row : Bool → List (List ℕ) → List ℕ → ℕ → Data → Row
failure_rule_row by_index names path place rule = failure_rule_refusal by_index names (path_at path place) rule

abbrev pub failure_rules_from : List ℕ → ℕ → List Data → List FailureRule
failure_rules_from path place [] = []
failure_rules_from path place (d ∷ ds) =
    failure_rule_in (path_at path place) d ∷ failure_rules_from path (place + 1) ds

-- at most 20 rules: rule 12
unfoldable pub failure_rules_refusal : Bool → List (List ℕ) → List ℕ → Data → Row
failure_rules_refusal by_index names path policy = first_refusal
    (passes (path_to path (codes "rules")) 12 (λ rules. nat_le (length rules) 20)
    (needed_list path (codes "rules") policy)
    ∷ objects_row (path_to path (codes "rules")) (list_in path policy (codes "rules"))
    ∷ each (failure_rule_row by_index names (path_to path (codes "rules"))) 0 (list_in path policy (codes "rules"))
    ∷ [])

unfoldable pub failure_rules_in : List ℕ → Data → FailurePolicy
failure_rules_in path policy =
    record { rules = failure_rules_from (path_to path (codes "rules")) 0 (list_in path policy (codes "rules")) }

-- only containers that are not restarted have a failure policy: rule 13. The policy's path is `path`
unfoldable pub given_failure_refusal : Bool → Template → List ℕ → Data → Row
given_failure_refusal by_index template path policy = first_refusal
    (rule_row path 13 (never_restarts template.restart)
    ∷ failure_rules_refusal by_index (template.containers ++ template.inits) path policy
    ∷ [])

unfoldable pub failure_refusal : Bool → Template → List ℕ → Data → Row
failure_refusal by_index template path spec = rows_of_given (optional_object path (codes "podFailurePolicy") spec)
    (given_failure_refusal by_index template (path_to path (codes "podFailurePolicy")))

unfoldable pub failure_in : List ℕ → Data → Option FailurePolicy
failure_in path spec =
    option_map (failure_rules_in (path_to path (codes "podFailurePolicy")))
    (given_in path spec (codes "podFailurePolicy"))
