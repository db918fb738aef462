use Rattle.std.proofs.Common.{◌≡◌, ◌++◌, map, take}
use Rattle.serde_json.specs.View.{view}
use Rattle.jc_print.specs.PrintedStatuses.{index_count_data}
use Rattle.jc_print.proofs.printed_statuses.put_index_counts.Given as goal

abbrev pub invariant-loop-count : goal.invariant-loop-count
invariant-loop-count l = map view l.values.items ≡ map view l.initial.values.items ++ map index_count_data (take l.count-index l.counts)
