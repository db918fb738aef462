use Rattle.std.proofs.Common.{◌&&◌, arith, false, get_or, not}
use Rattle.jc_manage.specs.Creations.{is_done_index}
use Rattle.jc_manage.proofs.Sequences.{free-enough, free-next}
use Rattle.jc_manage.proofs.creations.free_indexes.Goals as goal

pub loop-index-preserved : goal.loop-index-preserved
loop-index-preserved c =
    free-next (λ n. not (is_done_index c.args.counted.now n) && not (get_or c.args.kept.now n false)) c.args.most c.loop-index.index _ _ c.loop-index.invariant c.in_ok-offer.ensures

pub returns-then-len-most : goal.returns-then-len-most
returns-then-len-most c =
    free-enough (λ n. not (is_done_index c.args.counted.now n) && not (get_or c.args.kept.now n false)) c.args.most c.loop-index.index c.args.completions _ (omega (arith, c.loop-index-test.true)) c.loop-index.invariant
    (omega (arith, c.len.ensures, c.if-len-most.true))
