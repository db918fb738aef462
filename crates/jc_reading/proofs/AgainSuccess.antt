-- A printed success policy, and when pods are replaced, are read back.
use Rattle.std.proofs.Common.{◌≡◌, ℕ, pos, nat_abs, ◌+◌, List, [], ◌∷◌, map, length, true, ◌&&◌, ◌||◌, cond, codes, Option, Some, None, option_map, is_some, IfSome, Ok, Err, refl, ap, ap₂, ◌∙◌, le-leb}
use Rattle.std.specs.List.{AllByRecursion as Each}
use Rattle.std.specs.Prelude.{nat_le, nat_lt, option_and_then, unwrap_or}
use Rattle.std.specs.Option.{option_or, option_map_or}
use Rattle.std.specs.Result.{result_unwrap_or}
use Rattle.std.proofs.lemmas.List.{length-map}
use Rattle.serde_json.specs.Data.{Data, string, object}
use Rattle.jc_ranges.specs.Texts.{ranges_text}
use Rattle.jc_json.specs.Place.{path_to, path_at}
use Rattle.jc_json.specs.Field.{◌>>=◌, member_of, unless_null, out_of_range, bounded_number, may_be, item_object, optional_number}
use Rattle.jc_types.specs.declared.limits.TheConstants.{GREATEST_COMPLETIONS}
use Rattle.jc_types.specs.declared.policies.SuccessPolicy.{SuccessPolicy}
use Rattle.jc_types.specs.declared.policies.SuccessRule.{SuccessRule}
use Rattle.jc_types.specs.declared.specifications.JobSpec.{JobSpec}
use Rattle.jc_rows.specs.declared.counts.Counts.{Counts}
use Rattle.jc_reading.specs.Allowed.{IsAllowedCount, IsAllowedSet, IsAllowedSuccess, IsAllowedSuccessRule}
use Rattle.jc_log.specs.Requests.{is_indexed}
use Rattle.jc_rows.specs.PodCountRows.{completions_of}
use Rattle.jc_print.specs.PrintedMembers.{with_json_member, number_data}
use Rattle.jc_print.specs.PrintedSpecs.{rules_data, success_data, success_rule_data, with_success_rule}
use Rattle.jc_rows.specs.ManifestRows.{rule_row, each, reads, passes}
use Rattle.jc_manifest.specs.SuccessPolicies.{are_indexes, indexes_read, names_indexes, indexes_row, succeeded_indexes_in, is_reachable, count_in, count_row, count_refusal, says_something, success_rule_refusal, success_rule_in}
use Rattle.jc_manifest.specs.SuccessPolicies.{success_rule_row, success_rules_from, success_rules_refusal, success_rules_in, given_success_refusal}
use Rattle.jc_rows.specs.Templates.{objects_row, list_in}
use Rattle.jc_reading.proofs.AgainFailures.{rules_found, rules_listed}
use Rattle.jc_reading.proofs.AgainHead.{given_text, no_text, text_passes, no_text_passes, whole as whole_count}
use Rattle.jc_reading.proofs.AgainTemplate.{list_needed}
use Rattle.jc_reading.proofs.Found.{puts, member_found}
use Rattle.jc_rows.proofs.RowFacts.{none_or}
use Rattle.jc_json.proofs.Items.{items_listed as listed}

abbrev set_data : List ℕ → Data
set_data set = string (ranges_text set)

-- what may be given is never null
whole_set : (o : Option (List ℕ)) → option_and_then unless_null (option_or (option_map set_data o) None) ≡ option_map set_data o
whole_set None = refl
whole_set (Some s) = refl

abbrev rule_rows : SuccessRule → List (List ℕ × Option Data)
rule_rows rule = (codes "succeededIndexes", option_map set_data rule.indexes) ∷ (codes "succeededCount", option_map number_data rule.count) ∷ []

abbrev rule_object : SuccessRule → Data
rule_object rule = object (puts (rule_rows rule))

rule_puts : (rule : SuccessRule) → success_rule_data rule ≡ rule_object rule
unfolding success_rule_data with_success_rule with_json_member
rule_puts rule = refl

indexes_found : (rule : SuccessRule) → member_of (codes "succeededIndexes") (rule_object rule) ≡ option_map set_data rule.indexes
indexes_found rule = member_found (codes "succeededIndexes") (rule_rows rule) ∙ whole_set rule.indexes

count_found : (rule : SuccessRule) → member_of (codes "succeededCount") (rule_object rule) ≡ option_map number_data rule.count
count_found rule = member_found (codes "succeededCount") (rule_rows rule) ∙ whole_count rule.count

said_set : (completions : ℕ) (set : List ℕ) → IsAllowedSet completions set → indexes_read completions (ranges_text set) ≡ Some set
said_set completions set allowed =
    ap (option_and_then (λ found. cond (are_indexes completions found) (Some found) None)) allowed.told
    ∙ ap (λ b. cond b (Some set) None) allowed.indexes

module _ (completions : ℕ) (path : List ℕ) (d : Data) where
  set_passes : (o : Option (List ℕ)) → member_of (codes "succeededIndexes") d ≡ option_map set_data o → IfSome o (IsAllowedSet completions) → indexes_row completions path d ≡ None
  unfolding indexes_row
  set_passes None is allowed = no_text_passes path (codes "succeededIndexes") d 24 (names_indexes completions) (no_text path (codes "succeededIndexes") d is)
  set_passes (Some set) is allowed =
      text_passes path (codes "succeededIndexes") d 24 (names_indexes completions) (ranges_text set) (given_text path (codes "succeededIndexes") d (ranges_text set) is)
      (ap is_some (said_set completions set allowed))

  set_again : (o : Option (List ℕ)) → member_of (codes "succeededIndexes") d ≡ option_map set_data o → IfSome o (IsAllowedSet completions) → succeeded_indexes_in completions path d ≡ o
  unfolding succeeded_indexes_in
  set_again None is allowed = ap (λ r. option_and_then (indexes_read completions) (result_unwrap_or r None)) (no_text path (codes "succeededIndexes") d is)
  set_again (Some set) is allowed =
      ap (λ r. option_and_then (indexes_read completions) (result_unwrap_or r None)) (given_text path (codes "succeededIndexes") d (ranges_text set) is)
      ∙ said_set completions set allowed

  count_at : (indexes : Option (List ℕ)) (o : Option ℕ) → member_of (codes "succeededCount") d ≡ option_map number_data o → IfSome o (IsAllowedCount completions indexes)
      → optional_number path (codes "succeededCount") (pos 1) (pos GREATEST_COMPLETIONS) d ≡ Ok (option_map pos o)
  unfolding optional_number
  count_at indexes None is allowed = ap (may_be (bounded_number (path_to path (codes "succeededCount")) (pos 1) (pos GREATEST_COMPLETIONS))) is
  count_at indexes (Some n) is allowed =
      ap (may_be (bounded_number (path_to path (codes "succeededCount")) (pos 1) (pos GREATEST_COMPLETIONS))) is
      ∙ ap₂ (λ a b. cond (a && b) (Ok (pos n)) (Err (out_of_range (path_to path (codes "succeededCount")))) >>= (λ a. Ok (Some a))) (le-leb 1 n allowed.some) (le-leb n GREATEST_COMPLETIONS allowed.few)

  count_again : (indexes : Option (List ℕ)) (o : Option ℕ) → member_of (codes "succeededCount") d ≡ option_map number_data o → IfSome o (IsAllowedCount completions indexes) → count_in path d ≡ o
  unfolding count_in
  count_again indexes None is allowed = ap (λ r. option_map nat_abs (result_unwrap_or r None)) (count_at indexes None is allowed)
  count_again indexes (Some n) is allowed = ap (λ r. option_map nat_abs (result_unwrap_or r None)) (count_at indexes (Some n) is allowed)

  reaches : (indexes : Option (List ℕ)) (o : Option ℕ) → IfSome o (IsAllowedCount completions indexes) → option_map_or (is_reachable completions indexes) o true ≡ true
  reaches indexes None allowed = refl
  reaches indexes (Some n) allowed = allowed.reachable

  count_passes : (indexes : Option (List ℕ)) (o : Option ℕ) → member_of (codes "succeededCount") d ≡ option_map number_data o → succeeded_indexes_in completions path d ≡ indexes → IfSome o (IsAllowedCount completions indexes)
      → count_refusal completions path d ≡ None
  unfolding count_refusal count_row
  count_passes indexes o is same allowed =
      none_or _ _ (ap reads (count_at indexes o is allowed))
      (none_or _ _
      (ap₂ (λ i c. rule_row (path_to path (codes "succeededCount")) 25 (option_map_or (is_reachable completions i) c true)) same (count_again indexes o is allowed)
      ∙ ap (rule_row (path_to path (codes "succeededCount")) 25) (reaches indexes o allowed)) refl)

given_some : {A : Type 0} (f : A → Data) (o : Option A) → is_some (option_map f o) ≡ is_some o
given_some f None = refl
given_some f (Some a) = refl

module _ (completions : ℕ) (path : List ℕ) (rule : SuccessRule) (allowed : IsAllowedSuccessRule completions rule) where
  rule_passes : success_rule_refusal completions path (rule_object rule) ≡ None
  unfolding success_rule_refusal says_something
  rule_passes =
      let d = rule_object rule in
      none_or _ _
      (ap₂ (λ i c. rule_row path 23 (is_some i || is_some c)) (indexes_found rule) (count_found rule)
      ∙ ap₂ (λ i c. rule_row path 23 (i || c)) (given_some set_data rule.indexes) (given_some number_data rule.count)
      ∙ ap (rule_row path 23) allowed.something)
      (none_or _ _ (set_passes completions path d rule.indexes (indexes_found rule) allowed.indexes)
      (none_or _ _ (count_passes completions path d rule.indexes rule.count (count_found rule) (set_again completions path d rule.indexes (indexes_found rule) allowed.indexes) allowed.count) refl))

  rule_again : success_rule_in completions path (rule_object rule) ≡ rule
  unfolding success_rule_in
  rule_again =
      let indexes = set_again completions path (rule_object rule) rule.indexes (indexes_found rule) allowed.indexes in
      let count = count_again completions path (rule_object rule) rule.indexes rule.count (count_found rule) allowed.count in
      (λ i. record { indexes = indexes i; count = count i })

rules_again : (completions : ℕ) (path : List ℕ) (place : ℕ) (rules : List SuccessRule) → Each (IsAllowedSuccessRule completions) rules → success_rules_from completions path place (map success_rule_data rules) ≡ rules
rules_again completions path place [] all = refl
rules_again completions path place (rule ∷ rules) all =
    ap₂ (λ r rs. r ∷ rs)
    (ap (success_rule_in completions (path_at path place)) (rule_puts rule) ∙ rule_again completions (path_at path place) rule all.0)
    (rules_again completions path (place + 1) rules all.1)

rules_pass : (completions : ℕ) (path : List ℕ) (place : ℕ) (rules : List SuccessRule) → Each (IsAllowedSuccessRule completions) rules → each (success_rule_row completions path) place (map success_rule_data rules) ≡ None
unfolding success_rule_row
rules_pass completions path place [] all = refl
rules_pass completions path place (rule ∷ rules) all =
    none_or _ _ (ap (success_rule_refusal completions (path_at path place)) (rule_puts rule) ∙ rule_passes completions (path_at path place) rule all.0)
    (rules_pass completions path (place + 1) rules all.1)

rules_are_objects : (path : List ℕ) (place : ℕ) (rules : List SuccessRule) → each (λ place d. reads (item_object path place d)) place (map success_rule_data rules) ≡ None
unfolding item_object success_rule_data
rules_are_objects path place [] = refl
rules_are_objects path place (rule ∷ rules) = rules_are_objects path (place + 1) rules

module _ (path : List ℕ) (spec : JobSpec) (counts : Counts) (policy : SuccessPolicy) (allowed : IsAllowedSuccess spec policy)
    (mode : counts.mode ≡ spec.mode) (many : counts.completions ≡ spec.completions) where
  abbrev all_completions : ℕ
  all_completions = unwrap_or spec.completions 0

  pub policy_passes : given_success_refusal counts path (success_data policy) ≡ None
  unfolding given_success_refusal success_rules_refusal objects_row
  policy_passes =
      let at = path_to path (codes "rules") in
      let rules = map success_rule_data policy.rules in
      let count = length-map policy.rules success_rule_data in
      none_or _ _ (ap (λ m. rule_row path 21 (is_indexed m)) mode ∙ ap (rule_row path 21) allowed.indexed)
      (none_or _ _
      (none_or _ _
      (ap (passes at 22 (λ (rules : List Data). nat_lt 0 (length rules) && nat_le (length rules) 20)) (list_needed path (codes "rules") (rules_data rules) _ (rules_found rules))
      ∙ ap (λ (ds : List Data). rule_row at 22 (nat_lt 0 (length ds) && nat_le (length ds) 20)) (listed rules)
      ∙ ap (λ n. rule_row at 22 (nat_lt 0 n && nat_le n 20)) count ∙ ap (rule_row at 22) allowed.few)
      (none_or _ _ (ap (each (λ place d. reads (item_object at place d)) 0) (rules_listed path rules) ∙ rules_are_objects at 0 policy.rules)
      (none_or _ _
      (ap₂ (λ c ds. each (success_rule_row (unwrap_or c 0) at) 0 ds) many (rules_listed path rules) ∙ rules_pass all_completions at 0 policy.rules allowed.rules) refl)))
      refl)

  pub policy_again : success_rules_in (completions_of counts) path (success_data policy) ≡ policy
  unfolding success_rules_in
  policy_again =
      let at = path_to path (codes "rules") in
      let rules : success_rules_from (completions_of counts) at 0 (list_in path (success_data policy) (codes "rules")) ≡ policy.rules =
      ap₂ (λ c ds. success_rules_from (unwrap_or c 0) at 0 ds) many (rules_listed path (map success_rule_data policy.rules)) ∙ rules_again all_completions at 0 policy.rules allowed.rules in
      (λ i. record { rules = rules i })
