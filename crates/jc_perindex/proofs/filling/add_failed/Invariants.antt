use Rattle.std.proofs.Common.{◌≡◌, ◌++◌, filter, map, take}
use Rattle.jc_types.specs.declared.statuses.IndexCount.{IndexCount}
use Rattle.jc_perindex.specs.Failures.{has_failed}
use Rattle.jc_perindex.proofs.filling.add_failed.Given as goal

-- The set so far has besides the indexes of the counts before the index that have failed.
abbrev pub invariant-loop-count : goal.invariant-loop-count
invariant-loop-count l =
    l.set ≡ l.initial.set ++ map (λ (count : IndexCount). count.index) (filter (has_failed l.limit l.completions l.completed) (take l.count-index l.counts))
