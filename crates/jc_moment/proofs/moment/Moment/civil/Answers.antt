use Rattle.std.proofs.Common.{arith, ap, ◌∙◌, pos}
use Rattle.jc_moment.proofs.Civil.{whole_seconds}
use Rattle.jc_moment.proofs.moment.Moment.civil.Goals as goal

pub returns : goal.returns
returns c =
    let parts = whole_seconds c.from_nanosecond_in_range.result c.seconds.result (omega (arith, c.seconds.ensures.value, c.seconds.ensures.range)) c.from_nanosecond_in_range.ensures in
    record { at = parts.0 ∙ ap pos c.seconds.ensures.value; whole = parts.1 }
