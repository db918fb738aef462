-- A printed failure policy is read back.
use Rattle.std.proofs.Common.{◌≡◌, ℕ, ℤ, pos, negsuc, ◌+◌, List, [], ◌∷◌, ◌++◌, map, length, Bool, true, false, not, ◌&&◌, ◌||◌, cond, codes, Option, Some, None, option_map, is_some, IfSome, Ok, Err, refl, ap, ap₂, ◌∙◌, arith}
use Rattle.std.specs.List.{AllByRecursion as Each}
use Rattle.std.specs.Prelude.{int_le, nat_le, nat_lt, option_and_then, unwrap_or}
use Rattle.std.specs.Option.{option_or, option_map_or}
use Rattle.std.specs.Result.{result_unwrap_or}
use Rattle.std.proofs.lemmas.List.{length-map}
use Rattle.serde_json.specs.Data.{Data, string, number, array, object}
use Rattle.serde_json.specs.Events.{items_len}
use Rattle.serde_json.specs.Find.{of_integer}
use Rattle.serde_json.specs.View.{items_of}
use Rattle.jc_json.specs.Place.{path_to, path_at}
use Rattle.jc_json.specs.Field.{member_of, unless_null, listed_items, out_of_range, item_number, item_object, needed_text, optional_text}
use Rattle.jc_types.specs.declared.policies.Action.{Action}
use Rattle.jc_types.specs.declared.policies.Action.TheVariants.{FailJob, Ignore, Count, FailIndex}
use Rattle.jc_types.specs.declared.policies.FailurePolicy.{FailurePolicy}
use Rattle.jc_types.specs.declared.policies.FailureRule.{FailureRule}
use Rattle.jc_types.specs.declared.policies.Operator.{Operator}
use Rattle.jc_types.specs.declared.policies.Operator.TheVariants.{Within, NotWithin}
use Rattle.jc_types.specs.declared.policies.Pattern.{Pattern}
use Rattle.jc_types.specs.declared.policies.Requirement.{Requirement}
use Rattle.jc_types.specs.declared.policies.Requirement.TheVariants.{ExitCodes, Conditions}
use Rattle.jc_types.specs.declared.policies.Truth.{Truth}
use Rattle.jc_types.specs.declared.policies.Truth.TheVariants.{True, False, Unknown}
use Rattle.jc_types.specs.declared.specifications.Template.{Template}
use Rattle.jc_reading.specs.Allowed.{IsCode, IsAllowedRequirement, IsAllowedRule, IsAllowedFailure}
use Rattle.jc_manifest.specs.FailurePolicies.{action_named, operator_of, truth_of, is_action, is_operator, is_truth, operator_in, container_in, number_at, code_row, codes_from, codes_in, are_codes, values_refusal, exit_codes_refusal}
use Rattle.jc_manifest.specs.FailurePolicies.{exit_codes_in, is_type, pattern_refusal, type_in, truth_in, pattern_in, pattern_row, patterns_from, patterns_refusal, is_fail_index, action_in, is_no_empty_list, has_exit_codes, has_patterns}
use Rattle.jc_manifest.specs.FailurePolicies.{is_just_one, given_exit_codes_refusal, given_patterns_refusal, requirement_refusal, requirement_in, action_refusal, failure_rule_refusal, failure_rule_in, failure_rule_row, failure_rules_from}
use Rattle.jc_manifest.specs.FailurePolicies.{failure_rules_refusal, failure_rules_in, given_failure_refusal}
use Rattle.jc_print.specs.PrintedMembers.{with_json_member, list_data}
use Rattle.jc_print.specs.PrintedSpecs.{action_word, operator_word, truth_word, pattern_data, exit_codes_data, failure_rule_data, failure_data, rules_data}
use Rattle.jc_rows.specs.ManifestRows.{Row, rule_row, each, reads, passes, given_text_row, object_in}
use Rattle.jc_rows.specs.Templates.{objects_row, list_in, is_among}
use Rattle.jc_reading.proofs.AgainHead.{given_text, no_text, text_passes, no_text_passes}
use Rattle.jc_reading.proofs.AgainTemplate.{text_needed, list_needed, text_row_passes, object_row_passes, object_read, list_read}
use Rattle.jc_reading.proofs.Found.{puts, member_found}
use Rattle.jc_rows.proofs.RowFacts.{none_or}
use Rattle.jc_json.proofs.Items.{items_listed as listed}

counted : (ds : List Data) → items_len (items_of ds) ≡ length ds
counted [] = refl
counted (d ∷ ds) = let more = counted ds in omega (arith, more)

-- a text that may be given is never null
whole_text : (o : Option (List ℕ)) → option_and_then unless_null (option_or (option_map string o) None) ≡ option_map string o
whole_text None = refl
whole_text (Some s) = refl

-- ---- exit codes

code_again : (path : List ℕ) (place : ℕ) (z : ℤ) → IsCode z → item_number path place (negsuc 2147483647) (pos 2147483647) (number (of_integer z)) ≡ Ok z
unfolding item_number
code_again path place (pos n) code =
    let fits : int_le (pos n) (pos 2147483647) ≡ true = code.greatest in
    ap (λ b. cond b (Ok (pos n)) (Err (out_of_range (path_at path place)))) fits
code_again path place (negsuc n) code =
    let fits : int_le (negsuc 2147483647) (negsuc n) ≡ true = code.least in
    ap (λ b. cond (b && true) (Ok (negsuc n)) (Err (out_of_range (path_at path place)))) fits

abbrev code_data : ℤ → Data
code_data z = number (of_integer z)

codes_again : (path : List ℕ) (place : ℕ) (zs : List ℤ) → Each IsCode zs → codes_from path place (map code_data zs) ≡ zs
unfolding number_at
codes_again path place [] all = refl
codes_again path place (z ∷ zs) all =
    ap₂ (λ y ys. y ∷ ys) (ap (λ r. result_unwrap_or r (pos 0)) (code_again path place z all.0)) (codes_again path (place + 1) zs all.1)

codes_pass : (path : List ℕ) (place : ℕ) (zs : List ℤ) → Each IsCode zs → each (code_row path) place (map code_data zs) ≡ None
unfolding code_row
codes_pass path place [] all = refl
codes_pass path place (z ∷ zs) all = none_or _ _ (ap reads (code_again path place z all.0)) (codes_pass path (place + 1) zs all.1)

module _ (path : List ℕ) (container : Option (List ℕ)) (operator : Operator) (values : List ℤ) where
  abbrev code_rows : List (List ℕ × Option Data)
  code_rows =
      (codes "values", Some (list_data (map code_data values)))
      ∷ (codes "operator", Some (string (operator_word operator)))
      ∷ (codes "containerName", option_map string container) ∷ []

  abbrev data_of : Data
  data_of = object (puts code_rows)

  code_puts : exit_codes_data container operator values ≡ data_of
  unfolding exit_codes_data with_json_member
  code_puts = refl

  operator_found : member_of (codes "operator") data_of ≡ Some (string (operator_word operator))
  operator_found = member_found (codes "operator") code_rows

  values_found : member_of (codes "values") data_of ≡ Some (array (items_of (map code_data values)))
  values_found = member_found (codes "values") code_rows

  container_found : member_of (codes "containerName") data_of ≡ option_map string container
  container_found = member_found (codes "containerName") code_rows ∙ whole_text container

  operator_again : operator_in path data_of ≡ operator
  unfolding operator_in
  operator_again =
      ap (λ r. unwrap_or (operator_of (result_unwrap_or r [])) Within) (text_needed path (codes "operator") data_of (operator_word operator) operator_found) ∙ told operator
    where
      told : (o : Operator) → unwrap_or (operator_of (operator_word o)) Within ≡ o
      told Within = refl
      told NotWithin = refl

  values_listed : list_in path data_of (codes "values") ≡ map code_data values
  values_listed = list_read path (codes "values") data_of _ values_found ∙ listed (map code_data values)

  values_again : Each IsCode values → codes_in (path_to path (codes "values")) (list_in path data_of (codes "values")) ≡ values
  unfolding codes_in
  values_again all = ap (codes_from (path_to path (codes "values")) 0) values_listed ∙ codes_again (path_to path (codes "values")) 0 values all

  container_again : container_in path data_of ≡ container
  unfolding container_in
  container_again = by container container_found
    where
      by : (o : Option (List ℕ)) → member_of (codes "containerName") data_of ≡ option_map string o → result_unwrap_or (optional_text path (codes "containerName") data_of) None ≡ o
      by None is = ap (λ r. result_unwrap_or r None) (no_text path (codes "containerName") data_of is)
      by (Some s) is = ap (λ r. result_unwrap_or r None) (given_text path (codes "containerName") data_of s is)

  container_passes : (names : List (List ℕ)) → IfSome container (λ name. is_among names name ≡ true) → given_text_row path data_of (codes "containerName") 18 (is_among names) ≡ None
  container_passes names among = by container container_found among
    where
      by : (o : Option (List ℕ)) → member_of (codes "containerName") data_of ≡ option_map string o → IfSome o (λ name. is_among names name ≡ true) → given_text_row path data_of (codes "containerName") 18 (is_among names) ≡ None
      by None is among = no_text_passes path (codes "containerName") data_of 18 (is_among names) (no_text path (codes "containerName") data_of is)
      by (Some s) is among = text_passes path (codes "containerName") data_of 18 (is_among names) s (given_text path (codes "containerName") data_of s is) among

  exit_codes_pass : (names : List (List ℕ)) → IsAllowedRequirement names (ExitCodes container operator values) → exit_codes_refusal names path data_of ≡ None
  unfolding exit_codes_refusal values_refusal
  exit_codes_pass names allowed =
      none_or _ _ (container_passes names allowed.0)
      (none_or _ _ (text_row_passes path (codes "operator") data_of 16 is_operator (operator_word operator) operator_found (is_word operator))
      (none_or _ _
      (none_or _ _ (ap reads (list_needed path (codes "values") data_of _ values_found))
      (none_or _ _ (ap (each (code_row (path_to path (codes "values"))) 0) values_listed ∙ codes_pass (path_to path (codes "values")) 0 values allowed.2)
      (none_or _ _
      (ap₂ (λ o zs. rule_row (path_to path (codes "values")) 17 (are_codes o zs)) operator_again (values_again allowed.2)
      ∙ ap (rule_row (path_to path (codes "values")) 17) allowed.1)
      refl)))
      refl))
    where
      is_word : (o : Operator) → is_operator (operator_word o) ≡ true
      is_word Within = refl
      is_word NotWithin = refl

  pub exit_codes_again : Each IsCode values → exit_codes_in path data_of ≡ ExitCodes container operator values
  unfolding exit_codes_in
  exit_codes_again all = let zs = values_again all in (λ i. ExitCodes (container_again i) (operator_again i) (zs i))

-- ---- patterns

abbrev pattern_rows : Pattern → List (List ℕ × Option Data)
pattern_rows p = (codes "type", Some (string p.kind)) ∷ (codes "status", Some (string (truth_word p.truth))) ∷ []

pattern_puts : (p : Pattern) → pattern_data p ≡ object (puts (pattern_rows p))
unfolding pattern_data with_json_member
pattern_puts p = refl

pattern_again : (path : List ℕ) (p : Pattern) → pattern_in path (pattern_data p) ≡ p
unfolding pattern_in type_in truth_in
pattern_again path p =
    let d = object (puts (pattern_rows p)) in
    let kind : result_unwrap_or (needed_text path (codes "type") d) [] ≡ p.kind =
    ap (λ r. result_unwrap_or r []) (text_needed path (codes "type") d p.kind (member_found (codes "type") (pattern_rows p))) in
    let truth : unwrap_or (option_and_then truth_of (result_unwrap_or (optional_text path (codes "status") d) None)) True ≡ p.truth =
    ap (λ r. unwrap_or (option_and_then truth_of (result_unwrap_or r None)) True) (given_text path (codes "status") d (truth_word p.truth) (member_found (codes "status") (pattern_rows p)))
    ∙ told p.truth in
    ap (pattern_in path) (pattern_puts p) ∙ (λ i. record { kind = kind i; truth = truth i })
  where
    told : (t : Truth) → unwrap_or (truth_of (truth_word t)) True ≡ t
    told True = refl
    told False = refl
    told Unknown = refl

pattern_passes : (path : List ℕ) (p : Pattern) → is_type p.kind ≡ true → pattern_refusal path (pattern_data p) ≡ None
unfolding pattern_refusal
pattern_passes path p good =
    let d = object (puts (pattern_rows p)) in
    ap (pattern_refusal path) (pattern_puts p)
    ∙ none_or _ _ (text_row_passes path (codes "type") d 30 is_type p.kind (member_found (codes "type") (pattern_rows p)) good)
    (none_or _ _ (text_passes path (codes "status") d 20 is_truth (truth_word p.truth) (given_text path (codes "status") d (truth_word p.truth) (member_found (codes "status") (pattern_rows p))) (is_word p.truth)) refl)
  where
    is_word : (t : Truth) → is_truth (truth_word t) ≡ true
    is_word True = refl
    is_word False = refl
    is_word Unknown = refl

patterns_again : (path : List ℕ) (place : ℕ) (ps : List Pattern) → patterns_from path place (map pattern_data ps) ≡ ps
patterns_again path place [] = refl
patterns_again path place (p ∷ ps) = ap₂ (λ q qs. q ∷ qs) (pattern_again (path_at path place) p) (patterns_again path (place + 1) ps)

patterns_pass : (path : List ℕ) (place : ℕ) (ps : List Pattern) → Each (λ (p : Pattern). is_type p.kind ≡ true) ps → each (pattern_row path) place (map pattern_data ps) ≡ None
unfolding pattern_row
patterns_pass path place [] all = refl
patterns_pass path place (p ∷ ps) all = none_or _ _ (pattern_passes (path_at path place) p all.0) (patterns_pass path (place + 1) ps all.1)

-- each of them is an object
abbrev object_row_at : List ℕ → ℕ → Data → Row
object_row_at path place d = reads (item_object path place d)

patterns_are_objects : (path : List ℕ) (place : ℕ) (ps : List Pattern) → each (object_row_at path) place (map pattern_data ps) ≡ None
unfolding item_object pattern_data
patterns_are_objects path place [] = refl
patterns_are_objects path place (p ∷ ps) = patterns_are_objects path (place + 1) ps

-- ---- one rule

abbrev rule_rows : Action → Requirement → List (List ℕ × Option Data)
rule_rows action (ExitCodes container operator values) =
    (codes "onExitCodes", Some (exit_codes_data container operator values)) ∷ (codes "action", Some (string (action_word action))) ∷ []
rule_rows action (Conditions patterns) =
    (codes "onPodConditions", Some (list_data (map pattern_data patterns))) ∷ (codes "action", Some (string (action_word action))) ∷ []

abbrev rule_object : Action → Requirement → Data
rule_object action requirement = object (puts (rule_rows action requirement))

rule_puts : (rule : FailureRule) → failure_rule_data rule ≡ rule_object rule.action rule.requirement
unfolding failure_rule_data with_json_member
rule_puts rule = by rule.action rule.requirement
  where
    by : (a : Action) (r : Requirement) → failure_rule_data (record { action = a; requirement = r }) ≡ rule_object a r
    by a (ExitCodes container operator values) = refl
    by a (Conditions patterns) = refl

action_found : (a : Action) (r : Requirement) → member_of (codes "action") (rule_object a r) ≡ Some (string (action_word a))
action_found a (ExitCodes container operator values) = member_found (codes "action") (rule_rows a (ExitCodes container operator values))
action_found a (Conditions patterns) = member_found (codes "action") (rule_rows a (Conditions patterns))

action_again : (path : List ℕ) (a : Action) (r : Requirement) → action_in path (rule_object a r) ≡ a
unfolding action_in
action_again path a r =
    ap (λ e. unwrap_or (action_named (result_unwrap_or e [])) Count) (text_needed path (codes "action") (rule_object a r) (action_word a) (action_found a r)) ∙ told a
  where
    told : (a : Action) → unwrap_or (action_named (action_word a)) Count ≡ a
    told FailJob = refl
    told Ignore = refl
    told Count = refl
    told FailIndex = refl

action_passes : (by_index : Bool) (path : List ℕ) (a : Action) (r : Requirement) → (by_index || not (is_fail_index a)) ≡ true → action_refusal by_index path (rule_object a r) ≡ None
unfolding action_refusal
action_passes by_index path a r good =
    none_or _ _ (text_row_passes path (codes "action") (rule_object a r) 14 is_action (action_word a) (action_found a r) (is_word a))
    (none_or _ _
    (ap (λ b. rule_row (path_to path (codes "action")) 27 (by_index || not (is_fail_index b))) (action_again path a r)
    ∙ ap (rule_row (path_to path (codes "action")) 27) good) refl)
  where
    is_word : (a : Action) → is_action (action_word a) ≡ true
    is_word FailJob = refl
    is_word Ignore = refl
    is_word Count = refl
    is_word FailIndex = refl

-- where a rule has exit codes
codes_there : (a : Action) (c : Option (List ℕ)) (o : Operator) (zs : List ℤ) → member_of (codes "onExitCodes") (rule_object a (ExitCodes c o zs)) ≡ Some (data_of [] c o zs)
codes_there a c o zs =
    member_found (codes "onExitCodes") (rule_rows a (ExitCodes c o zs))
    ∙ ap (λ d. option_and_then unless_null (Some d)) (code_puts [] c o zs)

no_patterns : (a : Action) (c : Option (List ℕ)) (o : Operator) (zs : List ℤ) → member_of (codes "onPodConditions") (rule_object a (ExitCodes c o zs)) ≡ None
no_patterns a c o zs = member_found (codes "onPodConditions") (rule_rows a (ExitCodes c o zs))

no_codes : (a : Action) (ps : List Pattern) → member_of (codes "onExitCodes") (rule_object a (Conditions ps)) ≡ None
no_codes a ps = member_found (codes "onExitCodes") (rule_rows a (Conditions ps))

patterns_there : (a : Action) (ps : List Pattern) → member_of (codes "onPodConditions") (rule_object a (Conditions ps)) ≡ Some (array (items_of (map pattern_data ps)))
patterns_there a ps = member_found (codes "onPodConditions") (rule_rows a (Conditions ps))

module _ (names : List (List ℕ)) (path : List ℕ) where
  patterns_kept : (ps : List Pattern) → IsAllowedRequirement names (Conditions ps) → patterns_refusal path (map pattern_data ps) ≡ None
  unfolding patterns_refusal objects_row
  patterns_kept ps allowed =
      none_or _ _ (ap (λ n. rule_row path 19 (nat_le n 20)) (length-map ps pattern_data) ∙ ap (rule_row path 19) allowed.1)
      (none_or _ _ (patterns_are_objects path 0 ps) (none_or _ _ (patterns_pass path 0 ps allowed.2) refl))

rule_passes : (by_index : Bool) (names : List (List ℕ)) (path : List ℕ) (a : Action) (r : Requirement) → (by_index || not (is_fail_index a)) ≡ true → IsAllowedRequirement names r
    → failure_rule_refusal by_index names path (rule_object a r) ≡ None
unfolding failure_rule_refusal requirement_refusal has_exit_codes has_patterns given_exit_codes_refusal given_patterns_refusal
rule_passes by_index names path a (ExitCodes c o zs) good allowed =
    let d = rule_object a (ExitCodes c o zs) in
    let there = codes_there a c o zs in
    none_or _ _ (action_passes by_index path a (ExitCodes c o zs) good)
    (none_or _ _
    (ap₂ (λ e p. rule_row path 15 (is_just_one (is_some e) (option_map_or is_no_empty_list p false))) there (no_patterns a c o zs))
    (none_or _ _
    (ap (λ e. cond (is_some e) (given_exit_codes_refusal names path d) (given_patterns_refusal path d)) there
    ∙ none_or _ _ (object_row_passes path (codes "onExitCodes") d _ there)
    (none_or _ _
    (ap (exit_codes_refusal names (path_to path (codes "onExitCodes"))) (object_read path (codes "onExitCodes") d _ there)
    ∙ exit_codes_pass (path_to path (codes "onExitCodes")) c o zs names allowed) refl))
    refl))
rule_passes by_index names path a (Conditions ps) good allowed =
    let d = rule_object a (Conditions ps) in
    let there = patterns_there a ps in
    let at = path_to path (codes "onPodConditions") in
    none_or _ _ (action_passes by_index path a (Conditions ps) good)
    (none_or _ _
    (ap₂ (λ e p. rule_row path 15 (is_just_one (is_some e) (option_map_or is_no_empty_list p false))) (no_codes a ps) there
    ∙ ap (λ n. rule_row path 15 (is_just_one false (nat_lt 0 n))) (counted (map pattern_data ps) ∙ length-map ps pattern_data)
    ∙ ap (λ b. rule_row path 15 (is_just_one false b)) allowed.0)
    (none_or _ _
    (ap (λ e. cond (is_some e) (given_exit_codes_refusal names path d) (given_patterns_refusal path d)) (no_codes a ps)
    ∙ none_or _ _ (ap reads (list_needed path (codes "onPodConditions") d _ there))
    (none_or _ _
    (ap (patterns_refusal at) (list_read path (codes "onPodConditions") d _ there ∙ listed (map pattern_data ps))
    ∙ patterns_kept names at ps allowed) refl))
    refl))

abbrev AreCodes : Requirement → Type 0
AreCodes (ExitCodes c o zs) = Each IsCode zs
AreCodes (Conditions ps) = Unit {0}

rule_again : (path : List ℕ) (a : Action) (r : Requirement) → AreCodes r → failure_rule_in path (rule_object a r) ≡ record { action = a; requirement = r }
unfolding failure_rule_in requirement_in has_exit_codes
rule_again path a (ExitCodes c o zs) all =
    let d = rule_object a (ExitCodes c o zs) in
    let at = path_to path (codes "onExitCodes") in
    let there = codes_there a c o zs in
    let requirement : requirement_in path d ≡ ExitCodes c o zs =
    ap (λ e. cond (is_some e) (exit_codes_in at (object_in path d (codes "onExitCodes"))) (Conditions (patterns_from (path_to path (codes "onPodConditions")) 0 (list_in path d (codes "onPodConditions"))))) there
    ∙ ap (exit_codes_in at) (object_read path (codes "onExitCodes") d _ there) ∙ exit_codes_again at c o zs all in
    (λ i. record { action = action_again path a (ExitCodes c o zs) i; requirement = requirement i })
rule_again path a (Conditions ps) all =
    let d = rule_object a (Conditions ps) in
    let at = path_to path (codes "onPodConditions") in
    let there = patterns_there a ps in
    let requirement : requirement_in path d ≡ Conditions ps =
    ap (λ e. cond (is_some e) (exit_codes_in (path_to path (codes "onExitCodes")) (object_in path d (codes "onExitCodes"))) (Conditions (patterns_from at 0 (list_in path d (codes "onPodConditions"))))) (no_codes a ps)
    ∙ ap (λ ds. Conditions (patterns_from at 0 ds)) (list_read path (codes "onPodConditions") d _ there ∙ listed (map pattern_data ps))
    ∙ ap Conditions (patterns_again at 0 ps) in
    (λ i. record { action = action_again path a (Conditions ps) i; requirement = requirement i })

-- ---- the rules

only_codes : (names : List (List ℕ)) (r : Requirement) → IsAllowedRequirement names r → AreCodes r
only_codes names (ExitCodes c o zs) allowed = allowed.2
only_codes names (Conditions ps) allowed = tt

rules_again : (by_index : Bool) (names : List (List ℕ)) (path : List ℕ) (place : ℕ) (rules : List FailureRule) → Each (IsAllowedRule by_index names) rules → failure_rules_from path place (map failure_rule_data rules) ≡ rules
rules_again by_index names path place [] all = refl
rules_again by_index names path place (rule ∷ rules) all =
    ap₂ (λ r rs. r ∷ rs)
    (ap (failure_rule_in (path_at path place)) (rule_puts rule)
    ∙ rule_again (path_at path place) rule.action rule.requirement (only_codes names rule.requirement all.0.requirement))
    (rules_again by_index names path (place + 1) rules all.1)

rules_pass : (by_index : Bool) (names : List (List ℕ)) (path : List ℕ) (place : ℕ) (rules : List FailureRule) → Each (IsAllowedRule by_index names) rules → each (failure_rule_row by_index names path) place (map failure_rule_data rules) ≡ None
unfolding failure_rule_row
rules_pass by_index names path place [] all = refl
rules_pass by_index names path place (rule ∷ rules) all =
    none_or _ _ (ap (failure_rule_refusal by_index names (path_at path place)) (rule_puts rule) ∙ rule_passes by_index names (path_at path place) rule.action rule.requirement all.0.action all.0.requirement)
    (rules_pass by_index names path (place + 1) rules all.1)

rules_are_objects : (path : List ℕ) (place : ℕ) (rules : List FailureRule) → each (object_row_at path) place (map failure_rule_data rules) ≡ None
unfolding item_object failure_rule_data
rules_are_objects path place [] = refl
rules_are_objects path place (rule ∷ rules) = rules_are_objects path (place + 1) rules

pub rules_puts : (rules : List Data) → rules_data rules ≡ object (puts ((codes "rules", Some (list_data rules)) ∷ []))
unfolding rules_data with_json_member
rules_puts rules = refl

pub rules_found : (rules : List Data) → member_of (codes "rules") (rules_data rules) ≡ Some (array (items_of rules))
rules_found rules = ap (member_of (codes "rules")) (rules_puts rules) ∙ member_found (codes "rules") ((codes "rules", Some (list_data rules)) ∷ [])

pub rules_listed : (path : List ℕ) (rules : List Data) → list_in path (rules_data rules) (codes "rules") ≡ rules
rules_listed path rules = list_read path (codes "rules") (rules_data rules) _ (rules_found rules) ∙ listed rules

module _ (path : List ℕ) (by_index : Bool) (t : Template) (policy : FailurePolicy) (allowed : IsAllowedFailure by_index t policy) where
  abbrev all_names : List (List ℕ)
  all_names = t.containers ++ t.inits

  pub policy_passes : given_failure_refusal by_index t path (failure_data policy) ≡ None
  unfolding given_failure_refusal failure_rules_refusal objects_row
  policy_passes =
      let at = path_to path (codes "rules") in
      let rules = map failure_rule_data policy.rules in
      none_or _ _ (ap (rule_row path 13) allowed.never)
      (none_or _ _
      (none_or _ _
      (ap (passes at 12 (λ (rules : List Data). nat_le (length rules) 20)) (list_needed path (codes "rules") (rules_data rules) _ (rules_found rules))
      ∙ ap (λ (ds : List Data). rule_row at 12 (nat_le (length ds) 20)) (listed rules)
      ∙ ap (λ n. rule_row at 12 (nat_le n 20)) (length-map policy.rules failure_rule_data) ∙ ap (rule_row at 12) allowed.few)
      (none_or _ _ (ap (each (object_row_at at) 0) (rules_listed path rules) ∙ rules_are_objects at 0 policy.rules)
      (none_or _ _ (ap (each (failure_rule_row by_index all_names at) 0) (rules_listed path rules) ∙ rules_pass by_index all_names at 0 policy.rules allowed.rules) refl)))
      refl)

  pub policy_again : failure_rules_in path (failure_data policy) ≡ policy
  unfolding failure_rules_in
  policy_again =
      let at = path_to path (codes "rules") in
      let rules : failure_rules_from at 0 (list_in path (failure_data policy) (codes "rules")) ≡ policy.rules =
      ap (failure_rules_from at 0) (rules_listed path (map failure_rule_data policy.rules)) ∙ rules_again by_index all_names at 0 policy.rules allowed.rules in
      (λ i. record { rules = rules i })
