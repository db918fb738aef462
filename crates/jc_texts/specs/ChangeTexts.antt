-- The JSON values that the change of a pod's phase and the ends of pods are printed as.
--     phase_change_data change     an object with the phase, the containers and the conditions
--     ends_data ends               a list of objects, one for each end
use Rattle.std.specs.Prelude.{ℤ, List, map, option_map, Some, codes}
use Rattle.serde_json.specs.Data.{Data, Members, number, object, no_members, string}
use Rattle.serde_json.specs.Find.{of_integer}
use Rattle.jc_print.specs.PrintedMembers.{list_data, number_data, with_json_member}
use Rattle.jc_print.specs.PrintedSpecs.{truth_word}
use Rattle.jc_types.specs.declared.actions.ContainerChange.{ContainerChange}
use Rattle.jc_types.specs.declared.actions.End.{End}
use Rattle.jc_types.specs.declared.actions.PhaseChange.{PhaseChange}
use Rattle.jc_types.specs.declared.policies.Pattern.{Pattern}
use Rattle.jc_texts.specs.ReportWords.{phase_word}

abbrev pub exit_data : ℤ → Data
exit_data exit = number (of_integer exit)

-- ---- the change of a phase

-- The name and the exit code.
unfoldable pub with_exit_member : ContainerChange → Members → Members
with_exit_member change ms = with_json_member (codes "name") (Some (string change.name))
    (with_json_member (codes "exitCode") (option_map exit_data change.exit) ms)

-- And how often it was restarted.
unfoldable pub with_container : ContainerChange → Members → Members
with_container change ms =
    with_json_member (codes "restartCount") (option_map number_data change.restarts) (with_exit_member change ms)

unfoldable pub container_data : ContainerChange → Data
container_data change = object (with_container change no_members)

unfoldable pub pod_condition_data : Pattern → Data
pod_condition_data condition =
    object (with_json_member (codes "type") (Some (string condition.kind))
    (with_json_member (codes "status") (Some (string (truth_word condition.truth))) no_members))

-- All three members stand always.
unfoldable pub phase_change_data : PhaseChange → Data
phase_change_data change =
    object (with_json_member (codes "phase") (Some (string (phase_word change.phase)))
    (with_json_member (codes "containers") (Some (list_data (map container_data change.containers)))
    (with_json_member (codes "conditions") (Some (list_data (map pod_condition_data change.conditions))) no_members)))

-- ---- ends

unfoldable pub end_data : End → Data
end_data end =
    object (with_json_member (codes "restarts") (Some (number_data end.restarts))
    (with_json_member (codes "exitCode") (Some (exit_data end.exit))
    (with_json_member (codes "condition") (option_map string end.condition) no_members)))

unfoldable pub ends_data : List End → Data
ends_data ends = list_data (map end_data ends)
