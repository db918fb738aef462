use Rattle.std.proofs.Common.{◌∙◌}
use Rattle.std.proofs.lemmas.Bool.{false≢true}
use Rattle.jc_moment.proofs.Civil.{parts_are_civil, parts_say_second}
use Rattle.jc_moment.proofs.Spelled.{spelled, parts_read}
use Rattle.jc_moment.proofs.texts.civil_in.Goals as goal

pub returns-then-text-ne20 : goal.returns-then-text-ne20
returns-then-text-ne20 c = λ m t. absurd (c.if-text-ne20.true (spelled m _ t).length_is)

pub returns-in-Ok : goal.returns-in-Ok
returns-in-Ok c = λ m t.
    let parts =
    parts_read m _ t _ _ _ _ _ _ c.year_in-year.ensures c.pair-month.ensures.value c.pair-day.ensures.value
    c.pair-hour.ensures.value c.pair-minute.ensures.value c.pair-second.ensures.value in
    rw c.to_plain.ensures (parts_say_second _ _ _ _ _ _ _ _ parts c.in-Ok.ensures.value ∙ t.at)

pub returns-in-Err : goal.returns-in-Err
returns-in-Err c = λ m t.
    let parts =
    parts_read m _ t _ _ _ _ _ _ c.year_in-year.ensures c.pair-month.ensures.value c.pair-day.ensures.value
    c.pair-hour.ensures.value c.pair-minute.ensures.value c.pair-second.ensures.value in
    absurd (false≢true (c.in-Err.ensures.succeeds.1 (parts_are_civil _ _ _ _ _ _ _ parts)))
