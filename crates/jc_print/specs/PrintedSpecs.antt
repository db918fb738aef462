-- The JSON value that a Job's specification is printed as.
use Rattle.std.specs.Prelude.{ℕ, ℤ, List, codes, map, option_map, Option, Some}
use Rattle.serde_json.specs.Data.{Data, boolean, number, string, object, Members, no_members}
use Rattle.serde_json.specs.Find.{of_integer}
use Rattle.jc_ranges.specs.Texts.{ranges_text}
use Rattle.jc_types.specs.declared.actions.SpecChange.{SpecChange}
use Rattle.jc_types.specs.declared.policies.Action.{Action}
use Rattle.jc_types.specs.declared.policies.Action.TheVariants.{FailJob, Ignore, Count, FailIndex}
use Rattle.jc_types.specs.declared.policies.FailurePolicy.{FailurePolicy}
use Rattle.jc_types.specs.declared.policies.FailureRule.{FailureRule}
use Rattle.jc_types.specs.declared.policies.Operator.{Operator}
use Rattle.jc_types.specs.declared.policies.Operator.TheVariants.{Within, NotWithin}
use Rattle.jc_types.specs.declared.policies.Pattern.{Pattern}
use Rattle.jc_types.specs.declared.policies.Requirement.{Requirement}
use Rattle.jc_types.specs.declared.policies.Requirement.TheVariants.{ExitCodes, Conditions}
use Rattle.jc_types.specs.declared.policies.SuccessPolicy.{SuccessPolicy}
use Rattle.jc_types.specs.declared.policies.SuccessRule.{SuccessRule}
use Rattle.jc_types.specs.declared.policies.Truth.{Truth}
use Rattle.jc_types.specs.declared.policies.Truth.TheVariants.{True, False, Unknown}
use Rattle.jc_types.specs.declared.specifications.JobSpec.{JobSpec}
use Rattle.jc_types.specs.declared.specifications.Mode.{Mode}
use Rattle.jc_types.specs.declared.specifications.Mode.TheVariants.{NonIndexed, Indexed}
use Rattle.jc_types.specs.declared.specifications.Replacement.{Replacement}
use Rattle.jc_types.specs.declared.specifications.Replacement.TheVariants.{TerminatingOrFailed, FailedOnly}
use Rattle.jc_types.specs.declared.specifications.Restart.{Restart}
use Rattle.jc_types.specs.declared.specifications.Restart.TheVariants.{Never, OnFailure}
use Rattle.jc_types.specs.declared.specifications.Template.{Template}
use Rattle.jc_print.specs.PrintedMembers.{with_json_member, number_data, list_data, texts_data}

-- ---- words

abbrev pub mode_word : Mode → List ℕ
mode_word NonIndexed = codes "NonIndexed"
mode_word Indexed = codes "Indexed"

abbrev pub replacement_word : Replacement → List ℕ
replacement_word TerminatingOrFailed = codes "TerminatingOrFailed"
replacement_word FailedOnly = codes "Failed"

abbrev pub restart_word : Restart → List ℕ
restart_word Never = codes "Never"
restart_word OnFailure = codes "OnFailure"

abbrev pub action_word : Action → List ℕ
action_word FailJob = codes "FailJob"
action_word Ignore = codes "Ignore"
action_word Count = codes "Count"
action_word FailIndex = codes "FailIndex"

abbrev pub operator_word : Operator → List ℕ
operator_word Within = codes "In"
operator_word NotWithin = codes "NotIn"

abbrev pub truth_word : Truth → List ℕ
truth_word True = codes "True"
truth_word False = codes "False"
truth_word Unknown = codes "Unknown"

-- ---- policies

-- an object of one member
unfoldable pub rules_data : List Data → Data
rules_data rules = object (with_json_member (codes "rules") (Some (list_data rules)) no_members)

unfoldable pub pattern_data : Pattern → Data
pattern_data pattern = object (with_json_member (codes "type") (Some (string pattern.kind))
    (with_json_member (codes "status") (Some (string (truth_word pattern.truth))) no_members))

unfoldable pub exit_codes_data : Option (List ℕ) → Operator → List ℤ → Data
exit_codes_data container operator values =
    object (with_json_member (codes "values") (Some (list_data (map (λ z. number (of_integer z)) values)))
    (with_json_member (codes "operator") (Some (string (operator_word operator)))
    (with_json_member (codes "containerName") (option_map string container) no_members)))

abbrev pub with_requirement : Requirement → Members → Members
with_requirement (ExitCodes container operator values) ms =
    with_json_member (codes "onExitCodes") (Some (exit_codes_data container operator values)) ms
with_requirement (Conditions patterns) ms =
    with_json_member (codes "onPodConditions") (Some (list_data (map pattern_data patterns))) ms

unfoldable pub failure_rule_data : FailureRule → Data
failure_rule_data rule =
    object (with_requirement rule.requirement
    (with_json_member (codes "action") (Some (string (action_word rule.action))) no_members))

abbrev pub failure_data : FailurePolicy → Data
failure_data policy = rules_data (map failure_rule_data policy.rules)

unfoldable pub with_success_rule : SuccessRule → Members → Members
with_success_rule rule ms =
    with_json_member (codes "succeededIndexes") (option_map (λ set. string (ranges_text set)) rule.indexes)
    (with_json_member (codes "succeededCount") (option_map number_data rule.count) ms)

unfoldable pub success_rule_data : SuccessRule → Data
success_rule_data rule = object (with_success_rule rule no_members)

abbrev pub success_data : SuccessPolicy → Data
success_data policy = rules_data (map success_rule_data policy.rules)

-- ---- the specification

unfoldable pub with_template : Template → Members → Members
with_template template ms =
    with_json_member (codes "restartPolicy") (Some (string (restart_word template.restart)))
    (with_json_member (codes "initContainers") (Some (texts_data template.inits))
    (with_json_member (codes "containers") (Some (texts_data template.containers)) ms))

unfoldable pub template_data : Template → Data
template_data template = object (with_template template no_members)

unfoldable pub with_limits : JobSpec → Members → Members
with_limits spec ms = with_json_member (codes "completionMode") (Some (string (mode_word spec.mode)))
    (with_json_member (codes "backoffLimit") (Some (number_data spec.backoff_limit))
    (with_json_member (codes "activeDeadlineSeconds") (option_map number_data spec.deadline) ms))

unfoldable pub with_index_limits : JobSpec → Members → Members
with_index_limits spec ms = with_json_member (codes "maxFailedIndexes") (option_map number_data spec.max_failed)
    (with_json_member (codes "backoffLimitPerIndex") (option_map number_data spec.per_index) ms)

unfoldable pub with_counts : JobSpec → Members → Members
with_counts spec ms = with_json_member (codes "suspend") (Some (boolean spec.suspend))
    (with_json_member (codes "parallelism") (Some (number_data spec.parallelism))
    (with_json_member (codes "completions") (option_map number_data spec.completions) ms))

unfoldable pub with_policies : JobSpec → Members → Members
with_policies spec ms = with_json_member (codes "successPolicy") (option_map success_data spec.success)
    (with_json_member (codes "podReplacementPolicy") (Some (string (replacement_word spec.replacement)))
    (with_json_member (codes "podFailurePolicy") (option_map failure_data spec.failure) ms))

unfoldable pub spec_data : JobSpec → Data
spec_data spec = object (with_json_member (codes "template") (Some (template_data spec.template))
    (with_policies spec (with_counts spec (with_index_limits spec (with_limits spec no_members)))))

-- ---- changes

unfoldable pub with_changed_limits : SpecChange → Members → Members
with_changed_limits change ms =
    with_json_member (codes "backoffLimit") (option_map number_data change.backoff_limit)
    (with_json_member (codes "activeDeadlineSeconds") (option_map number_data change.deadline) ms)

unfoldable pub with_changed_counts : SpecChange → Members → Members
with_changed_counts change ms = with_json_member (codes "suspend") (option_map boolean change.suspend)
    (with_json_member (codes "parallelism") (option_map number_data change.parallelism)
    (with_json_member (codes "completions") (option_map number_data change.completions) ms))

-- the members that an update gives
unfoldable pub change_data : SpecChange → Data
change_data change = object (with_changed_counts change (with_changed_limits change no_members))
