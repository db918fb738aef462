use Rattle.std.proofs.Common.{◌≡◌, map, take}
use Rattle.serde_json.specs.View.{view}
use Rattle.jc_print.specs.PrintedStatuses.{condition_data}
use Rattle.jc_print.proofs.printed_statuses.condition_values.Given as goal

abbrev pub invariant-loop-condition : goal.invariant-loop-condition
invariant-loop-condition l = map view l.values.items ≡ map condition_data (take l.condition-index l.conditions)
