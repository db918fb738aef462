-- What the last turn took follows what was kept before it.
use Rattle.std.proofs.Common.{◌+◌, ◌-◌, arith, vec_len}
use Rattle.std.proofs.lemmas.Result.{err_from_is_err_and}
use Rattle.jc_io.proofs.Bytes.{TakesAtMost-after, TakesCount-after}
use Rattle.jc_io.proofs.all.read_all.Goals as goal

pub returns-in_err-ended-clause-too_long : goal.returns-in_err-ended-clause-too_long
returns-in_err-ended-clause-too_long g c =
    let p = err_from_is_err_and c.from_residual-in_err-ended.result c.from_residual-in_err-ended.ensures.1
    in λ e. TakesCount-after _ _ _ c.reading.bytes.items (c.args.limit + 1 - vec_len c.reading.bytes) _ c.reading.invariant.kept (c.in_err-ended.ensures.too_long (cc (p.1, p.2, e))) (omega (arith, c.reading.invariant.within))

pub returns-in_err-ended-clause-want : goal.returns-in_err-ended-clause-want
returns-in_err-ended-clause-want g c =
    let p = err_from_is_err_and c.from_residual-in_err-ended.result c.from_residual-in_err-ended.ensures.1
    in λ e. TakesAtMost-after _ _ _ c.reading.bytes.items (c.args.limit - vec_len c.reading.bytes) _ c.reading.invariant.kept (c.in_err-ended.ensures.want (cc (p.1, p.2, e))) (omega (arith, c.reading.invariant.within))
