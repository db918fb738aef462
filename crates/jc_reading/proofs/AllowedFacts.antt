-- The specification that an accepted manifest says is such as its table allows.
use Rattle.std.proofs.Common.{◌≡◌, ℕ, ℤ, pos, negsuc, ◌+◌, List, [], ◌∷◌, ◌++◌, length, Bool, true, false, not, ◌&&◌, cond, codes, Option, Some, None, option_map, IfSome, Result, Ok, Err, refl, sym, ap, ap₂, ◌∙◌, arith, true≢false}
use Rattle.std.specs.List.{AllByRecursion as Each}
use Rattle.std.specs.Prelude.{int_le, nat_lt, nat_le, ok_or, option_and_then}
use Rattle.std.specs.Option.{option_or, option_map_or}
use Rattle.std.specs.Result.{result_unwrap_or}
use Rattle.serde_json.specs.Data.{Data, null, boolean, number, string, array, object, Items, no_items, item}
use Rattle.serde_json.specs.Events.{items_len}
use Rattle.serde_json.specs.Find.{as_integer, as_number}
use Rattle.jc_json.specs.Place.{path_to, path_at}
use Rattle.jc_json.specs.Field.{Refusal, missing, wrong_type, out_of_range, ◌>>=◌, member_of, within_bounds, listed_items, list_of, item_number, optional_object, optional_text, needed_text, needed_list}
use Rattle.jc_types.specs.declared.policies.Pattern.{Pattern}
use Rattle.jc_types.specs.declared.policies.Requirement.TheVariants.{Conditions}
use Rattle.jc_types.specs.declared.specifications.Template.{Template}
use Rattle.jc_manifest.specs.FailurePolicies.{container_in, number_at, code_row, codes_from, codes_in, values_refusal, exit_codes_refusal, exit_codes_in, is_type, pattern_refusal, type_in, pattern_in, pattern_row, patterns_from}
use Rattle.jc_manifest.specs.FailurePolicies.{patterns_refusal, is_no_empty_list, has_exit_codes, has_patterns, is_just_one, given_exit_codes_refusal, given_patterns_refusal, requirement_refusal, requirement_in, action_refusal}
use Rattle.jc_manifest.specs.FailurePolicies.{failure_rule_refusal, failure_rule_in, failure_rule_row, failure_rules_from, failure_rules_refusal, failure_rules_in, given_failure_refusal, failure_refusal, failure_in}
use Rattle.jc_rows.specs.ManifestRows.{Row, rule_row, each, reads, passes, given_text_row, text_row, rows_of_given, object_in}
use Rattle.jc_rows.specs.Templates.{list_in, is_among, is_new_label, name_row, container_name, names_row, names_in}
use Rattle.jc_reading.specs.Allowed.{are_new_labels, IsCode, IsAllowedRequirement, IsAllowedRule, IsAllowedFailure}
use Rattle.jc_manifest.proofs.AcceptedFacts.{parts, kept, passed, items_counted_in as listed_count}

-- ---- rows that refuse nothing

-- a test of what may be given
given_passed : (path : List ℕ) (rule : ℕ) (test : List ℕ → Bool) (read : Result (Option (List ℕ)) Refusal)
    → passes path rule (λ o. option_map_or test o true) read ≡ None → IfSome (result_unwrap_or read None) (λ s. test s ≡ true)
given_passed path rule test (Ok None) e = tt
given_passed path rule test (Ok (Some s)) e = kept path rule (test s) e
given_passed path rule test (Err refusal) e = absurd (cc (e))

-- ---- names

pub labels : (path : List ℕ) (others earlier : List (List ℕ)) (place : ℕ) (ds : List Data) → names_row path others earlier place ds ≡ None
    → are_new_labels others earlier (names_in path place ds) ≡ true
unfolding name_row text_row container_name
labels path others earlier place [] e = refl
labels path others earlier place (d ∷ ds) e =
    let rows = parts (name_row others earlier (path_at path place) d) _ e in
    let name = container_name (path_at path place) d in
    ap₂ (λ a b. a && b) (passed _ 11 (is_new_label others earlier) (needed_text (path_at path place) (codes "name") d) [] rows.0)
    (labels path others (earlier ++ name ∷ []) (place + 1) ds rows.1)

-- ---- exit codes

in_bounds : (path : List ℕ) (w : Option ℤ) → reads (ok_or w (wrong_type path) >>= within_bounds path (negsuc 2147483647) (pos 2147483647)) ≡ None
    → IsCode (result_unwrap_or (ok_or w (wrong_type path) >>= within_bounds path (negsuc 2147483647) (pos 2147483647)) (pos 0))
in_bounds path None e = absurd (cc (e))
in_bounds path (Some z) e = by (int_le (negsuc 2147483647) z) (int_le z (pos 2147483647)) refl refl e
  where
    by : (a b : Bool) → int_le (negsuc 2147483647) z ≡ a → int_le z (pos 2147483647) ≡ b → reads (cond (a && b) (Ok z) (Err (out_of_range path))) ≡ None
        → IsCode (result_unwrap_or (cond (a && b) (Ok z) (Err (out_of_range path))) (pos 0))
    by true true low high e = record { least = low; greatest = high }
    by true false low high e = absurd (cc (e))
    by false b low high e = absurd (cc (e))

code_fits : (path : List ℕ) (place : ℕ) (d : Data) → code_row path place d ≡ None → IsCode (number_at path place d)
unfolding code_row number_at item_number
code_fits path place d e = in_bounds (path_at path place) (option_and_then as_integer (as_number d)) e

codes_fit : (path : List ℕ) (place : ℕ) (ds : List Data) → each (code_row path) place ds ≡ None → Each IsCode (codes_from path place ds)
codes_fit path place [] e = tt
codes_fit path place (d ∷ ds) e = let rows = parts (code_row path place d) _ e in (code_fits path place d rows.0, codes_fit path (place + 1) ds rows.1)

exit_codes_allowed : (names : List (List ℕ)) (path : List ℕ) (d : Data) → exit_codes_refusal names path d ≡ None → IsAllowedRequirement names (exit_codes_in path d)
unfolding exit_codes_refusal values_refusal exit_codes_in container_in given_text_row codes_in
exit_codes_allowed names path d e =
    let rows = parts _ _ e in
    let later = parts _ _ rows.1 in
    let values = parts _ _ (parts _ _ later.1).0 in
    let numbers = parts _ _ values.1 in (
      given_passed _ 18 (is_among names) (optional_text path (codes "containerName") d) rows.0,
      kept _ 17 _ (parts _ _ numbers.1).0,
      codes_fit (path_to path (codes "values")) 0 (list_in path d (codes "values")) numbers.0,
    )

-- ---- patterns

patterns_typed : (path : List ℕ) (place : ℕ) (ds : List Data) → each (pattern_row path) place ds ≡ None → Each (λ (p : Pattern). is_type p.kind ≡ true) (patterns_from path place ds)
unfolding pattern_row pattern_refusal pattern_in type_in text_row
patterns_typed path place [] e = tt
patterns_typed path place (d ∷ ds) e =
    let rows = parts (pattern_row path place d) _ e in
    (passed _ 30 is_type (needed_text (path_at path place) (codes "type") d) [] (parts _ _ rows.0).0, patterns_typed path (place + 1) ds rows.1)

patterns_counted : (path : List ℕ) (place : ℕ) (ds : List Data) → length (patterns_from path place ds) ≡ length ds
patterns_counted path place [] = refl
patterns_counted path place (d ∷ ds) = let more = patterns_counted path (place + 1) ds in omega (arith, more)

-- a list that is there and is not empty
some_listed : (path : List ℕ) (found : Option Data) → option_map_or is_no_empty_list found false ≡ true → reads (ok_or found (missing path) >>= list_of path) ≡ None
    → nat_lt 0 (length (result_unwrap_or (ok_or found (missing path) >>= list_of path) [])) ≡ true
some_listed path None some e = absurd (true≢false (sym some))
some_listed path (Some null) some e = absurd (cc (e))
some_listed path (Some (boolean b)) some e = absurd (cc (e))
some_listed path (Some (number n)) some e = absurd (cc (e))
some_listed path (Some (string s)) some e = absurd (cc (e))
some_listed path (Some (array items)) some e = ap (nat_lt 0) (listed_count items) ∙ some
some_listed path (Some (object ms)) some e = absurd (cc (e))

patterns_allowed : (names : List (List ℕ)) (path : List ℕ) (rule : Data) → has_patterns rule ≡ true → given_patterns_refusal path rule ≡ None
    → IsAllowedRequirement names (Conditions (patterns_from (path_to path (codes "onPodConditions")) 0 (list_in path rule (codes "onPodConditions"))))
unfolding has_patterns given_patterns_refusal patterns_refusal list_in needed_list
patterns_allowed names path rule some e =
    let at = path_to path (codes "onPodConditions") in
    let ds = list_in path rule (codes "onPodConditions") in
    let rows = parts _ _ e in
    let later = parts _ _ (parts _ _ rows.1).0 in
    let count = patterns_counted at 0 ds in (
      ap (nat_lt 0) count ∙ some_listed at (member_of (codes "onPodConditions") rule) some rows.0,
      ap (λ n. nat_le n 20) count ∙ kept at 19 (nat_le (length ds) 20) later.0,
      patterns_typed at 0 ds (parts _ _ (parts _ _ later.1).1).0,
    )

-- ---- failure rules

requirement_allowed : (names : List (List ℕ)) (path : List ℕ) (rule : Data) → is_just_one (has_exit_codes rule) (has_patterns rule) ≡ true → requirement_refusal names path rule ≡ None
    → IsAllowedRequirement names (requirement_in path rule)
unfolding requirement_refusal requirement_in given_exit_codes_refusal
requirement_allowed names path rule one e = by (has_exit_codes rule) one e
  where
    by : (b : Bool) → is_just_one b (has_patterns rule) ≡ true → cond b (given_exit_codes_refusal names path rule) (given_patterns_refusal path rule) ≡ None
        → IsAllowedRequirement names (cond b (exit_codes_in (path_to path (codes "onExitCodes")) (object_in path rule (codes "onExitCodes")))
        (Conditions (patterns_from (path_to path (codes "onPodConditions")) 0 (list_in path rule (codes "onPodConditions")))))
    by true one e = exit_codes_allowed names (path_to path (codes "onExitCodes")) (object_in path rule (codes "onExitCodes")) (parts _ _ (parts _ _ e).1).0
    by false one e = patterns_allowed names path rule one e

rule_allowed : (by_index : Bool) (names : List (List ℕ)) (path : List ℕ) (rule : Data) → failure_rule_refusal by_index names path rule ≡ None → IsAllowedRule by_index names (failure_rule_in path rule)
unfolding failure_rule_refusal action_refusal failure_rule_in
rule_allowed by_index names path rule e =
    let rows = parts _ _ e in
    let action = parts _ _ rows.0 in
    let later = parts _ _ rows.1 in
    record {
      action = kept _ 27 _ (parts _ _ action.1).0;
      requirement = requirement_allowed names path rule (kept path 15 _ later.0) (parts _ _ later.1).0;
    }

rules_allowed : (by_index : Bool) (names : List (List ℕ)) (path : List ℕ) (place : ℕ) (ds : List Data) → each (failure_rule_row by_index names path) place ds ≡ None
    → Each (IsAllowedRule by_index names) (failure_rules_from path place ds)
unfolding failure_rule_row
rules_allowed by_index names path place [] e = tt
rules_allowed by_index names path place (d ∷ ds) e =
    let rows = parts (failure_rule_row by_index names path place d) _ e in
    (rule_allowed by_index names (path_at path place) d rows.0, rules_allowed by_index names path (place + 1) ds rows.1)

rules_counted : (path : List ℕ) (place : ℕ) (ds : List Data) → length (failure_rules_from path place ds) ≡ length ds
rules_counted path place [] = refl
rules_counted path place (d ∷ ds) = let more = rules_counted path (place + 1) ds in omega (arith, more)

policy_allowed : (by_index : Bool) (template : Template) (path : List ℕ) (policy : Data) → given_failure_refusal by_index template path policy ≡ None → IsAllowedFailure by_index template (failure_rules_in path policy)
unfolding given_failure_refusal failure_rules_refusal failure_rules_in list_in
policy_allowed by_index template path policy e =
    let at = path_to path (codes "rules") in
    let ds = list_in path policy (codes "rules") in
    let rows = parts _ _ e in
    let inner = parts _ _ (parts _ _ rows.1).0 in
    let later = parts _ _ inner.1 in
    record {
      never = kept path 13 _ rows.0;
      few = ap (λ n. nat_le n 20) (rules_counted at 0 ds) ∙ passed at 12 (λ (rules : List Data). nat_le (length rules) 20) (needed_list path (codes "rules") policy) [] inner.0;
      rules = rules_allowed by_index (template.containers ++ template.inits) at 0 ds (parts _ _ later.1).0;
    }

pub failure_allowed : (by_index : Bool) (template : Template) (path : List ℕ) (spec : Data) → failure_refusal by_index template path spec ≡ None → IfSome (failure_in path spec) (IsAllowedFailure by_index template)
unfolding failure_refusal failure_in
failure_allowed by_index template path spec e = by (optional_object path (codes "podFailurePolicy") spec) e
  where
    by : (r : Result (Option Data) Refusal) → rows_of_given r (given_failure_refusal by_index template (path_to path (codes "podFailurePolicy"))) ≡ None
        → IfSome (option_map (failure_rules_in (path_to path (codes "podFailurePolicy"))) (result_unwrap_or r None)) (IsAllowedFailure by_index template)
    by (Ok None) e = tt
    by (Ok (Some d)) e = policy_allowed by_index template (path_to path (codes "podFailurePolicy")) d e
    by (Err refusal) e = absurd (cc (e))
