use Rattle.std.proofs.Common.{◌≡◌, map, take}
use Rattle.std.specs.List.{flat_map}
use Rattle.serde_json.specs.View.{view}
use Rattle.jc_print.specs.PrintedStatuses.{index_count_data}
use Rattle.jc_print.proofs.printed_statuses.index_count_values.Given as goal

abbrev pub invariant-loop-piece : goal.invariant-loop-piece
invariant-loop-piece l = map view l.values.items ≡ map index_count_data (flat_map (λ piece. piece) (take l.piece-index l.pieces))
