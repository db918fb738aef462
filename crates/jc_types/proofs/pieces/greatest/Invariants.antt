-- The greatest weight of the counts before the index.
use Rattle.std.proofs.Common.{take}
use Rattle.jc_types.specs.Weights.{IsGreatest}
use Rattle.jc_types.proofs.pieces.greatest.Given as goal

abbrev pub invariant-loop-count : goal.invariant-loop-count
invariant-loop-count l = IsGreatest l.most (take l.count-index l.counts)
