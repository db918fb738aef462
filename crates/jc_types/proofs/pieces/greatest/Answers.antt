-- The weight of the next count is among those that the greatest is taken of.
use Rattle.std.proofs.Common.{subst}
use Rattle.std.proofs.lemmas.List.{take_all}
use Rattle.jc_types.specs.Weights.{IsGreatest}
use Rattle.jc_types.proofs.WeightFacts.{greatest-more, greatest-none}
use Rattle.jc_types.proofs.pieces.greatest.Goals as goal

pub loop-count-init : goal.loop-count-init
loop-count-init c = greatest-none

pub loop-count-preserved : goal.loop-count-preserved
loop-count-preserved c =
    greatest-more c.loop-count.most c.weight.result c.max-most.result c.args.counts.now c.loop-count.count-index _ c.loop-count-test.true c.weight.ensures c.max-most.ensures c.loop-count.invariant

pub returns : goal.returns
returns c = subst (IsGreatest c.loop-count.most) (take_all c.loop-count.count-index c.args.counts.now c.loop-count-test.false) c.loop-count.invariant
