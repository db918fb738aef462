-- The members of what is reported and of ends with their names, the last first.
use Rattle.std.proofs.Common.{[], ◌∷◌, codes, map, Some, option_map}
use Rattle.serde_json.specs.Data.{string}
use Rattle.jc_types.specs.declared.actions.ContainerChange.{ContainerChange}
use Rattle.jc_types.specs.declared.actions.End.{End}
use Rattle.jc_types.specs.declared.actions.PhaseChange.{PhaseChange}
use Rattle.jc_types.specs.declared.policies.Pattern.{Pattern}
use Rattle.jc_texts.specs.ChangeTexts.{container_data, exit_data, pod_condition_data}
use Rattle.jc_texts.specs.ReportWords.{phase_word}
use Rattle.jc_print.specs.PrintedMembers.{list_data, number_data}
use Rattle.jc_print.specs.PrintedSpecs.{truth_word}
use Rattle.jc_print.proofs.Writing.{Named}

abbrev pub in_container : ContainerChange → Named
in_container change =
    (codes "restartCount", option_map number_data change.restarts) ∷ (codes "name", Some (string change.name))
    ∷ (codes "exitCode", option_map exit_data change.exit) ∷ []

abbrev pub in_condition : Pattern → Named
in_condition condition =
    (codes "type", Some (string condition.kind)) ∷ (codes "status", Some (string (truth_word condition.truth))) ∷ []

abbrev pub in_phase_change : PhaseChange → Named
in_phase_change change =
    (codes "phase", Some (string (phase_word change.phase)))
    ∷ (codes "containers", Some (list_data (map container_data change.containers)))
    ∷ (codes "conditions", Some (list_data (map pod_condition_data change.conditions))) ∷ []

abbrev pub in_end : End → Named
in_end end =
    (codes "restarts", Some (number_data end.restarts)) ∷ (codes "exitCode", Some (exit_data end.exit))
    ∷ (codes "condition", option_map string end.condition) ∷ []
