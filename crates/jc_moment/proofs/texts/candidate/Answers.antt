use Rattle.std.proofs.Common.{◌≡◌, ◌∙◌, pos}
use Rattle.jc_moment.proofs.Range.{is_unsigned, is_moment}
use Rattle.jc_moment.proofs.texts.candidate.Goals as goal

pub returns-in_err-civil_in : goal.returns-in_err-civil_in
returns-in_err-civil_in c = λ m t. absurd (c.in_err-civil_in.ensures m t)

pub returns-in-Ok : goal.returns-in-Ok
returns-in-Ok c = λ m t.
    let at : c.to_second.result ≡ pos m = c.to_second.ensures.value ∙ c.in_ok-civil_in.ensures m t in
    is_moment c.to_second.result m c.in-Ok.seconds c.from_seconds.result at c.to_second.ensures.bound.1
    c.in-Ok.ensures.1 c.from_seconds.ensures

pub returns-in-Err : goal.returns-in-Err
returns-in-Err c = λ m t.
    let at : c.to_second.result ≡ pos m = c.to_second.ensures.value ∙ c.in_ok-civil_in.ensures m t in
    absurd (c.in-Err.ensures (is_unsigned c.to_second.result m at c.to_second.ensures.bound.1))
