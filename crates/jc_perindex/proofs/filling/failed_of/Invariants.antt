use Rattle.std.proofs.Common.{◌≡◌, filter, map, take}
use Rattle.jc_types.specs.declared.statuses.IndexCount.{IndexCount}
use Rattle.jc_types.specs.Pieces.{items_in}
use Rattle.jc_perindex.specs.Failures.{has_failed}
use Rattle.jc_perindex.proofs.filling.failed_of.Given as goal

-- The set so far has the indexes of the counts in the pieces before the index that have failed.
abbrev pub invariant-loop-piece : goal.invariant-loop-piece
invariant-loop-piece l =
    l.set ≡ map (λ (count : IndexCount). count.index) (filter (has_failed l.limit l.completions l.completed) (items_in (take l.piece-index l.pieces)))
