-- The members of specifications and of changes with their names, the last first.
use Rattle.std.proofs.Common.{ℕ, ℤ, List, [], ◌∷◌, ◌++◌, codes, map, Option, Some, option_map}
use Rattle.serde_json.specs.Data.{Data, boolean, number, string}
use Rattle.serde_json.specs.Find.{of_integer}
use Rattle.jc_ranges.specs.Texts.{ranges_text}
use Rattle.jc_types.specs.declared.actions.SpecChange.{SpecChange}
use Rattle.jc_types.specs.declared.policies.Operator.{Operator}
use Rattle.jc_types.specs.declared.policies.Pattern.{Pattern}
use Rattle.jc_types.specs.declared.policies.SuccessRule.{SuccessRule}
use Rattle.jc_types.specs.declared.specifications.JobSpec.{JobSpec}
use Rattle.jc_types.specs.declared.specifications.Template.{Template}
use Rattle.jc_print.specs.PrintedMembers.{list_data, number_data, texts_data}
use Rattle.jc_print.specs.PrintedSpecs.{failure_data, mode_word, operator_word, replacement_word, restart_word, success_data, template_data, truth_word}
use Rattle.jc_print.proofs.Writing.{Named}

abbrev pub in_pattern : Pattern → Named
in_pattern pattern =
    (codes "type", Some (string pattern.kind)) ∷ (codes "status", Some (string (truth_word pattern.truth))) ∷ []

abbrev pub in_exit_codes : Option (List ℕ) → Operator → List ℤ → Named
in_exit_codes container operator values =
    (codes "values", Some (list_data (map (λ z. number (of_integer z)) values)))
    ∷ (codes "operator", Some (string (operator_word operator)))
    ∷ (codes "containerName", option_map string container) ∷ []

abbrev pub in_rules : List Data → Named
in_rules rules = (codes "rules", Some (list_data rules)) ∷ []

abbrev pub in_success_rule : SuccessRule → Named
in_success_rule rule =
    (codes "succeededIndexes", option_map (λ set. string (ranges_text set)) rule.indexes)
    ∷ (codes "succeededCount", option_map number_data rule.count) ∷ []

abbrev pub in_template : Template → Named
in_template template =
    (codes "restartPolicy", Some (string (restart_word template.restart)))
    ∷ (codes "initContainers", Some (texts_data template.inits))
    ∷ (codes "containers", Some (texts_data template.containers)) ∷ []

abbrev in_limits : JobSpec → Named
in_limits spec =
    (codes "completionMode", Some (string (mode_word spec.mode)))
    ∷ (codes "backoffLimit", Some (number_data spec.backoff_limit))
    ∷ (codes "activeDeadlineSeconds", option_map number_data spec.deadline) ∷ []

abbrev in_index_limits : JobSpec → Named
in_index_limits spec =
    (codes "maxFailedIndexes", option_map number_data spec.max_failed)
    ∷ (codes "backoffLimitPerIndex", option_map number_data spec.per_index) ∷ []

abbrev in_counts : JobSpec → Named
in_counts spec =
    (codes "suspend", Some (boolean spec.suspend)) ∷ (codes "parallelism", Some (number_data spec.parallelism))
    ∷ (codes "completions", option_map number_data spec.completions) ∷ []

abbrev in_policies : JobSpec → Named
in_policies spec =
    (codes "successPolicy", option_map success_data spec.success)
    ∷ (codes "podReplacementPolicy", Some (string (replacement_word spec.replacement)))
    ∷ (codes "podFailurePolicy", option_map failure_data spec.failure) ∷ []

-- All members of a specification, as they are put.
abbrev pub put_in_spec : JobSpec → Named
put_in_spec spec =
    (codes "template", Some (template_data spec.template))
    ∷ (in_policies spec ++ (in_counts spec ++ (in_index_limits spec ++ in_limits spec)))

-- And in order.
abbrev pub in_spec : JobSpec → Named
in_spec spec =
    (codes "template", Some (template_data spec.template))
    ∷ (codes "suspend", Some (boolean spec.suspend))
    ∷ (codes "successPolicy", option_map success_data spec.success)
    ∷ (codes "podReplacementPolicy", Some (string (replacement_word spec.replacement)))
    ∷ (codes "podFailurePolicy", option_map failure_data spec.failure)
    ∷ (codes "parallelism", Some (number_data spec.parallelism))
    ∷ (codes "maxFailedIndexes", option_map number_data spec.max_failed)
    ∷ (codes "completions", option_map number_data spec.completions)
    ∷ (codes "completionMode", Some (string (mode_word spec.mode)))
    ∷ (codes "backoffLimitPerIndex", option_map number_data spec.per_index)
    ∷ (codes "backoffLimit", Some (number_data spec.backoff_limit))
    ∷ (codes "activeDeadlineSeconds", option_map number_data spec.deadline) ∷ []

abbrev pub in_change : SpecChange → Named
in_change change =
    (codes "suspend", option_map boolean change.suspend)
    ∷ (codes "parallelism", option_map number_data change.parallelism)
    ∷ (codes "completions", option_map number_data change.completions)
    ∷ (codes "backoffLimit", option_map number_data change.backoff_limit)
    ∷ (codes "activeDeadlineSeconds", option_map number_data change.deadline) ∷ []
