use Rattle.std.proofs.Common.{◌≡◌, map, take}
use Rattle.serde_json.specs.View.{view}
use Rattle.jc_print.specs.PrintedStatuses.{uid_data}
use Rattle.jc_print.proofs.printed_statuses.uid_values.Given as goal

abbrev pub invariant-loop-uid : goal.invariant-loop-uid
invariant-loop-uid l = map view l.values.items ≡ map uid_data (take l.uid-index l.uids)
