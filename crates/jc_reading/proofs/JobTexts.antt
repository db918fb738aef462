-- The texts of an allowed specification are Unicode, so its printed value is spelled; and so are the types of conditions
-- that a spelled manifest says.
use Rattle.std.proofs.Common.{◌≡◌, ℕ, ℤ, ◌+◌, List, [], ◌∷◌, ◌++◌, map, Bool, true, false, cond, ◌||◌, bytes_eq, codes, Option, Some, None, option_map, is_some, IfSome, Result, Ok, Err, IsUtf8, refl, sym, subst, true≢false}
use Rattle.std.proofs.lemmas.Bool.{and_parts}
use Rattle.std.proofs.lemmas.Str.{IsUtf8-nil}
use Rattle.std.specs.Cmp.Lexicographic.{bytes_decides}
use Rattle.std.specs.List.{AllByRecursion as Each}
use Rattle.std.specs.Prelude.{IfOk, unwrap_or}
use Rattle.std.specs.Result.{result_unwrap_or}
use Rattle.json.proofs.Printed.Utf8.{IsUtf8-are_ascii, are_ascii}
use Rattle.serde_json.specs.Data.{Data, null, number, string, Members}
use Rattle.serde_json.specs.Find.{of_integer}
use Rattle.serde_json.specs.View.{items_of}
use Rattle.jc_json.specs.Field.{Refusal, needed_list, needed_object, needed_text, optional_object}
use Rattle.jc_json.specs.Place.{path_at, path_to}
use Rattle.jc_manifest.specs.FailurePolicies.{codes_in, container_in, exit_codes_in, operator_in, failure_in, failure_rule_in, failure_rules_from, failure_rules_in, has_exit_codes, pattern_in, patterns_from, requirement_in, type_in}
use Rattle.jc_manifest.specs.Manifests.{head_in, policies_in, spec_in, spec_of}
use Rattle.jc_print.specs.PrintedMembers.{number_data, texts_data, with_json_member}
use Rattle.jc_print.specs.PrintedSpecs.{action_word, exit_codes_data, failure_data, failure_rule_data, mode_word, operator_word, pattern_data, replacement_word, restart_word, rules_data, spec_data, success_data, success_rule_data}
use Rattle.jc_print.specs.PrintedSpecs.{template_data, truth_word, with_counts, with_index_limits, with_limits, with_policies, with_requirement, with_success_rule, with_template}
use Rattle.jc_ranges.specs.Texts.{ranges_text}
use Rattle.jc_rows.specs.ManifestRows.{object_in}
use Rattle.jc_rows.specs.Templates.{is_among, is_new_label, list_in}
use Rattle.jc_rows.specs.NameForms.{is_label}
use Rattle.jc_types.specs.declared.objects.KeyNames.{KeyNames as Key}
use Rattle.jc_types.specs.declared.policies.Action.{Action}
use Rattle.jc_types.specs.declared.policies.Action.TheVariants.{FailJob, Ignore, Count, FailIndex}
use Rattle.jc_types.specs.declared.policies.FailurePolicy.{FailurePolicy}
use Rattle.jc_types.specs.declared.policies.FailureRule.{FailureRule}
use Rattle.jc_types.specs.declared.policies.Operator.{Operator}
use Rattle.jc_types.specs.declared.policies.Operator.TheVariants.{Within, NotWithin}
use Rattle.jc_types.specs.declared.policies.Pattern.{Pattern}
use Rattle.jc_types.specs.declared.policies.Requirement.{Requirement}
use Rattle.jc_types.specs.declared.policies.Requirement.TheVariants.{ExitCodes, Conditions}
use Rattle.jc_types.specs.declared.policies.SuccessPolicy.{SuccessPolicy}
use Rattle.jc_types.specs.declared.policies.SuccessRule.{SuccessRule}
use Rattle.jc_types.specs.declared.policies.Truth.{Truth}
use Rattle.jc_types.specs.declared.policies.Truth.TheVariants.{True, False, Unknown}
use Rattle.jc_types.specs.declared.specifications.JobSpec.{JobSpec}
use Rattle.jc_types.specs.declared.specifications.Mode.{Mode}
use Rattle.jc_types.specs.declared.specifications.Mode.TheVariants.{NonIndexed, Indexed}
use Rattle.jc_types.specs.declared.specifications.Replacement.{Replacement}
use Rattle.jc_types.specs.declared.specifications.Replacement.TheVariants.{TerminatingOrFailed, FailedOnly}
use Rattle.jc_types.specs.declared.specifications.Restart.{Restart}
use Rattle.jc_types.specs.declared.specifications.Restart.TheVariants.{Never, OnFailure}
use Rattle.jc_types.specs.declared.specifications.Template.{Template}
use Rattle.jc_reading.specs.Allowed.{are_new_labels, IsAllowedFailure, IsAllowedKey, IsAllowedRequirement, IsAllowedRule, IsAllowedSpec}
use Rattle.jc_reading.specs.Proper.{HasUnicode, HasUnicodeTypes}
use Rattle.jc_reading.specs.Spelled.{AreSpelled, HasSpelled, IsSpelled}
use Rattle.jc_reading.proofs.AsciiFacts.{ascii_text, label_ascii, ranges_ascii}
use Rattle.jc_reading.proofs.SpelledMembers.{needed_list_spelled, needed_object_spelled, needed_text_spelled, optional_object_spelled}
use Rattle.jc_reading.proofs.SpelledFacts.{put_spelled}
use Rattle.jc_reading.proofs.ToldFacts.{each}

-- ---- values that are made of members and of items

pub spelled_with : (k : List ℕ) (given : Option Data) (ms : Members) → IsUtf8 k → IfSome given IsSpelled → HasSpelled ms → HasSpelled (with_json_member k given ms)
unfolding with_json_member
spelled_with k None ms name one all = all
spelled_with k (Some d) ms name one all = put_spelled k d ms name one all

-- a name of ASCII
pub named : (s : List ℕ) → are_ascii s ≡ true → IsUtf8 s
named = IsUtf8-are_ascii

pub items_spelled : {X : Type 0} (f : X → Data) (xs : List X) → Each (λ x. IsSpelled (f x)) xs → AreSpelled (items_of (map f xs))
items_spelled f [] all = tt
items_spelled f (x ∷ xs) all = (all.0, items_spelled f xs all.1)

pub given_spelled : {X : Type 0} {P : X → Type 0} (f : X → Data) (h : (x : X) → P x → IsSpelled (f x)) (o : Option X) → IfSome o P → IfSome (option_map f o) IsSpelled
given_spelled f h None one = tt
given_spelled f h (Some x) one = h x one

pub any_spelled : {X : Type 0} (f : X → Data) (h : (x : X) → IsSpelled (f x)) (o : Option X) → IfSome (option_map f o) IsSpelled
any_spelled f h None = tt
any_spelled f h (Some x) = h x

numbers_spelled : (zs : List ℤ) → Each (λ z. IsSpelled (number (of_integer z))) zs
numbers_spelled [] = tt
numbers_spelled (z ∷ zs) = (tt, numbers_spelled zs)

-- ---- words

mode_text : (m : Mode) → IsUtf8 (mode_word m)
mode_text NonIndexed = named _ refl
mode_text Indexed = named _ refl

replacement_text : (r : Replacement) → IsUtf8 (replacement_word r)
replacement_text TerminatingOrFailed = named _ refl
replacement_text FailedOnly = named _ refl

restart_text : (r : Restart) → IsUtf8 (restart_word r)
restart_text Never = named _ refl
restart_text OnFailure = named _ refl

action_text : (a : Action) → IsUtf8 (action_word a)
action_text FailJob = named _ refl
action_text Ignore = named _ refl
action_text Count = named _ refl
action_text FailIndex = named _ refl

operator_text : (o : Operator) → IsUtf8 (operator_word o)
operator_text Within = named _ refl
operator_text NotWithin = named _ refl

pub truth_text : (t : Truth) → IsUtf8 (truth_word t)
truth_text True = named _ refl
truth_text False = named _ refl
truth_text Unknown = named _ refl

-- ---- the texts of an allowed specification are Unicode

abbrev pub HasTextsIn : Requirement → Type 0
HasTextsIn (ExitCodes container operator values) = IfSome container IsUtf8
HasTextsIn (Conditions patterns) = Each (λ (p : Pattern). IsUtf8 p.kind) patterns

pub record HasTexts (spec : JobSpec) : Type 0 where
  pub containers : Each IsUtf8 spec.template.containers
  pub inits : Each IsUtf8 spec.template.inits
  pub failure : IfSome spec.failure (λ (policy : FailurePolicy). Each (λ (rule : FailureRule). HasTextsIn rule.requirement) policy.rules)

labels_text : (others earlier names : List (List ℕ)) → are_new_labels others earlier names ≡ true → Each IsUtf8 names
labels_text others earlier [] all = tt
labels_text others earlier (name ∷ names) all =
    let both = and_parts (is_new_label others earlier name) (are_new_labels others (earlier ++ name ∷ []) names) all in
    let label = (and_parts (is_label name) _ both.0).0 in
    (ascii_text name (label_ascii name label), labels_text others (earlier ++ name ∷ []) names both.1)

both_texts : (names more : List (List ℕ)) → Each IsUtf8 names → Each IsUtf8 more → Each IsUtf8 (names ++ more)
both_texts [] more first second = second
both_texts (name ∷ names) more first second = (first.0, both_texts names more first.1 second)

-- one of the names is a text as they are
among_text : (names : List (List ℕ)) (name : List ℕ) → Each IsUtf8 names → is_among names name ≡ true → IsUtf8 name
among_text [] name all is = absurd (true≢false (sym is))
among_text (first ∷ names) name all is = by (among_text names name all.1) (bytes_eq first name) refl is
  where
    by : (is_among names name ≡ true → IsUtf8 name) → (b : Bool) → bytes_eq first name ≡ b → (b || is_among names name) ≡ true → IsUtf8 name
    by rest true same e = subst IsUtf8 ((bytes_decides first name).0 same) all.0
    by rest false same e = rest e

requirement_texts : (names : List (List ℕ)) → Each IsUtf8 names → (r : Requirement) → IsAllowedRequirement names r → HasUnicode r → HasTextsIn r
requirement_texts names all (ExitCodes None operator values) allowed types = tt
requirement_texts names all (ExitCodes (Some container) operator values) allowed types = among_text names container all allowed.0
requirement_texts names all (Conditions patterns) allowed types = types

rules_texts : (by_index : Bool) (names : List (List ℕ)) → Each IsUtf8 names → (rules : List FailureRule) → Each (IsAllowedRule by_index names) rules
    → Each (λ (rule : FailureRule). HasUnicode rule.requirement) rules → Each (λ (rule : FailureRule). HasTextsIn rule.requirement) rules
rules_texts by_index names all [] allowed types = tt
rules_texts by_index names all (rule ∷ rules) allowed types =
    (requirement_texts names all rule.requirement allowed.0.requirement types.0, rules_texts by_index names all rules allowed.1 types.1)

pub allowed_texts : (spec : JobSpec) → IsAllowedSpec spec → HasUnicodeTypes spec → HasTexts spec
allowed_texts spec allowed types =
    let containers = labels_text [] [] spec.template.containers allowed.containers in
    let inits = labels_text spec.template.containers [] spec.template.inits allowed.inits in
    record { containers = containers; inits = inits; failure = by (both_texts spec.template.containers spec.template.inits containers inits) spec.failure allowed.failure types }
  where
    by : Each IsUtf8 (spec.template.containers ++ spec.template.inits) → (o : Option FailurePolicy) → IfSome o (IsAllowedFailure (is_some spec.per_index) spec.template)
        → IfSome o (λ (policy : FailurePolicy). Each (λ (rule : FailureRule). HasUnicode rule.requirement) policy.rules)
        → IfSome o (λ (policy : FailurePolicy). Each (λ (rule : FailureRule). HasTextsIn rule.requirement) policy.rules)
    by all None allowed types = tt
    by all (Some policy) allowed types = rules_texts (is_some spec.per_index) (spec.template.containers ++ spec.template.inits) all policy.rules allowed.rules types

-- ---- a Job as a script may create it

abbrev pub IsAllowedJob : Key × JobSpec → Type 0
IsAllowedJob job = IsAllowedKey job.0 × IsAllowedSpec job.1 × HasUnicodeTypes job.1

-- ---- the printed value

pattern_spelled : (p : Pattern) → IsUtf8 p.kind → IsSpelled (pattern_data p)
unfolding pattern_data
pattern_spelled p text =
    spelled_with _ _ _ (named (codes "type") refl) text (spelled_with _ _ _ (named (codes "status") refl) (truth_text p.truth) tt)

codes_spelled : (container : Option (List ℕ)) (operator : Operator) (values : List ℤ) → IfSome container IsUtf8 → IsSpelled (exit_codes_data container operator values)
unfolding exit_codes_data
codes_spelled container operator values text =
    spelled_with _ _ _ (named (codes "values") refl) (items_spelled (λ z. number (of_integer z)) values (numbers_spelled values))
    (spelled_with _ _ _ (named (codes "operator") refl) (operator_text operator)
    (spelled_with _ _ _ (named (codes "containerName") refl) (given_spelled string (λ s u. u) container text) tt))

requirement_spelled : (r : Requirement) (ms : Members) → HasTextsIn r → HasSpelled ms → HasSpelled (with_requirement r ms)
requirement_spelled (ExitCodes container operator values) ms text rest =
    spelled_with _ _ ms (named (codes "onExitCodes") refl) (codes_spelled container operator values text) rest
requirement_spelled (Conditions patterns) ms text rest =
    spelled_with _ _ ms (named (codes "onPodConditions") refl) (items_spelled pattern_data patterns (each pattern_spelled patterns text)) rest

rule_spelled : (rule : FailureRule) → HasTextsIn rule.requirement → IsSpelled (failure_rule_data rule)
unfolding failure_rule_data
rule_spelled rule text = requirement_spelled rule.requirement _ text (spelled_with _ _ _ (named (codes "action") refl) (action_text rule.action) tt)

rules_spelled : (rules : List Data) → AreSpelled (items_of rules) → IsSpelled (rules_data rules)
unfolding rules_data
rules_spelled rules all = spelled_with _ _ _ (named (codes "rules") refl) all tt

failure_spelled : (policy : FailurePolicy) → Each (λ (rule : FailureRule). HasTextsIn rule.requirement) policy.rules → IsSpelled (failure_data policy)
failure_spelled policy text = rules_spelled _ (items_spelled failure_rule_data policy.rules (each rule_spelled policy.rules text))

success_rule_spelled : (rule : SuccessRule) → IsSpelled (success_rule_data rule)
unfolding success_rule_data with_success_rule
success_rule_spelled rule =
    spelled_with _ _ _ (named (codes "succeededIndexes") refl) (any_spelled (λ set. string (ranges_text set)) (λ set. ascii_text (ranges_text set) (ranges_ascii set)) rule.indexes)
    (spelled_with _ _ _ (named (codes "succeededCount") refl) (any_spelled number_data (λ n. tt) rule.count) tt)

all_rules_spelled : (rules : List SuccessRule) → Each (λ rule. IsSpelled (success_rule_data rule)) rules
all_rules_spelled [] = tt
all_rules_spelled (rule ∷ rules) = (success_rule_spelled rule, all_rules_spelled rules)

success_spelled : (policy : SuccessPolicy) → IsSpelled (success_data policy)
success_spelled policy = rules_spelled _ (items_spelled success_rule_data policy.rules (all_rules_spelled policy.rules))

texts_spelled : (texts : List (List ℕ)) → Each IsUtf8 texts → IsSpelled (texts_data texts)
texts_spelled texts all = items_spelled string texts (each (λ s u. u) texts all)

template_spelled : (template : Template) → Each IsUtf8 template.containers → Each IsUtf8 template.inits → IsSpelled (template_data template)
unfolding template_data with_template
template_spelled template containers inits =
    spelled_with _ _ _ (named (codes "restartPolicy") refl) (restart_text template.restart)
    (spelled_with _ _ _ (named (codes "initContainers") refl) (texts_spelled template.inits inits)
    (spelled_with _ _ _ (named (codes "containers") refl) (texts_spelled template.containers containers) tt))

pub spec_spelled : (spec : JobSpec) → HasTexts spec → IsSpelled (spec_data spec)
unfolding spec_data with_policies with_counts with_index_limits with_limits
spec_spelled spec text =
    spelled_with _ _ _ (named (codes "template") refl) (template_spelled spec.template text.containers text.inits)
    (spelled_with _ _ _ (named (codes "successPolicy") refl) (any_spelled success_data success_spelled spec.success)
    (spelled_with _ _ _ (named (codes "podReplacementPolicy") refl) (replacement_text spec.replacement)
    (spelled_with _ _ _ (named (codes "podFailurePolicy") refl) (given_spelled failure_data failure_spelled spec.failure text.failure)
    (spelled_with _ _ _ (named (codes "suspend") refl) tt
    (spelled_with _ _ _ (named (codes "parallelism") refl) tt
    (spelled_with _ _ _ (named (codes "completions") refl) (any_spelled number_data (λ n. tt) spec.completions)
    (spelled_with _ _ _ (named (codes "maxFailedIndexes") refl) (any_spelled number_data (λ n. tt) spec.max_failed)
    (spelled_with _ _ _ (named (codes "backoffLimitPerIndex") refl) (any_spelled number_data (λ n. tt) spec.per_index)
    (spelled_with _ _ _ (named (codes "completionMode") refl) (mode_text spec.mode)
    (spelled_with _ _ _ (named (codes "backoffLimit") refl) tt
    (spelled_with _ _ _ (named (codes "activeDeadlineSeconds") refl) (any_spelled number_data (λ n. tt) spec.deadline) tt)))))))))))

-- ---- what a spelled manifest says

object_read : (path name : List ℕ) (d : Data) → IsSpelled d → IsSpelled (object_in path d name)
unfolding object_in
object_read path name d h = by (needed_object path name d) (needed_object_spelled path name d h)
  where
    by : (r : Result Data Refusal) → IfOk r IsSpelled → IsSpelled (result_unwrap_or r null)
    by (Ok e) h = h
    by (Err refusal) h = tt

list_read : (path name : List ℕ) (d : Data) → IsSpelled d → Each IsSpelled (list_in path d name)
unfolding list_in
list_read path name d h = by (needed_list path name d) (needed_list_spelled path name d h)
  where
    by : (r : Result (List Data) Refusal) → IfOk r (Each IsSpelled) → Each IsSpelled (result_unwrap_or r [])
    by (Ok e) h = h
    by (Err refusal) h = tt

text_read : (path name : List ℕ) (d : Data) → IsSpelled d → IsUtf8 (result_unwrap_or (needed_text path name d) [])
text_read path name d h = by (needed_text path name d) (needed_text_spelled path name d h)
  where
    by : (r : Result (List ℕ) Refusal) → IfOk r IsUtf8 → IsUtf8 (result_unwrap_or r [])
    by (Ok e) h = h
    by (Err refusal) h = IsUtf8-nil

patterns_read : (path : List ℕ) (place : ℕ) (ds : List Data) → Each IsSpelled ds → Each (λ (p : Pattern). IsUtf8 p.kind) (patterns_from path place ds)
unfolding pattern_in type_in
patterns_read path place [] all = tt
patterns_read path place (d ∷ ds) all = (text_read (path_at path place) (codes "type") d all.0, patterns_read path (place + 1) ds all.1)

requirement_read : (path : List ℕ) (rule : Data) → IsSpelled rule → HasUnicode (requirement_in path rule)
unfolding requirement_in exit_codes_in
requirement_read path rule h = by (has_exit_codes rule)
  where
    at : List ℕ
    at = path_to path (codes "onExitCodes")

    inner : Data
    inner = object_in path rule (codes "onExitCodes")

    by : (b : Bool) → HasUnicode (cond b (ExitCodes (container_in at inner) (operator_in at inner) (codes_in (path_to at (codes "values")) (list_in at inner (codes "values"))))
        (Conditions (patterns_from (path_to path (codes "onPodConditions")) 0 (list_in path rule (codes "onPodConditions")))))
    by true = tt
    by false = patterns_read (path_to path (codes "onPodConditions")) 0 (list_in path rule (codes "onPodConditions")) (list_read path (codes "onPodConditions") rule h)

rules_read : (path : List ℕ) (place : ℕ) (ds : List Data) → Each IsSpelled ds → Each (λ (rule : FailureRule). HasUnicode rule.requirement) (failure_rules_from path place ds)
unfolding failure_rule_in
rules_read path place [] all = tt
rules_read path place (d ∷ ds) all = (requirement_read (path_at path place) d all.0, rules_read path (place + 1) ds all.1)

failure_read : (path : List ℕ) (spec : Data) → IsSpelled spec
    → IfSome (failure_in path spec) (λ (policy : FailurePolicy). Each (λ (rule : FailureRule). HasUnicode rule.requirement) policy.rules)
unfolding failure_in failure_rules_in
failure_read path spec h = by (optional_object path (codes "podFailurePolicy") spec) (optional_object_spelled path (codes "podFailurePolicy") spec h)
  where
    at : List ℕ
    at = path_to path (codes "podFailurePolicy")

    by : (r : Result (Option Data) Refusal) → IfOk r (λ o. IsSpelled (unwrap_or o null))
        → IfSome (option_map (failure_rules_in at) (result_unwrap_or r None)) (λ (policy : FailurePolicy). Each (λ (rule : FailureRule). HasUnicode rule.requirement) policy.rules)
    by (Ok None) h = tt
    by (Ok (Some d)) h = rules_read (path_to at (codes "rules")) 0 (list_in at d (codes "rules")) (list_read at (codes "rules") d h)
    by (Err refusal) h = tt

pub types_in : (path : List ℕ) (job : Data) → IsSpelled (object_in path job (codes "spec")) → HasUnicodeTypes (spec_of path job)
unfolding spec_of spec_in policies_in head_in
types_in path job h = failure_read (path_to path (codes "spec")) (object_in path job (codes "spec")) h

pub spec_types : (path : List ℕ) (job : Data) → IsSpelled job → HasUnicodeTypes (spec_of path job)
spec_types path job h = types_in path job (object_read path (codes "spec") job h)
