use Rattle.std.proofs.Common.{◌≡◌, ◌∙◌, ◌++◌, ◌∷◌, [], ap}
use Rattle.jiff.specs.Words.{datetime_text}
use Rattle.jiff.specs.Names.{iso_datetime_text}
use Rattle.jc_moment.proofs.Spelled.{ends_in_Z}
use Rattle.jc_moment.proofs.moment.Moment.has_text.Goals as goal

pub returns-then-last-eq90 : goal.returns-then-last-eq90
returns-then-last-eq90 c =
    let ends : c.args.text.now ≡ c.in-Some.civil_part.now ++ 90 ∷ [] =
    c.in-Some.ensures.cases.0 ∙ ap (λ last. c.in-Some.civil_part.now ++ last ∷ []) c.if-last-eq90.true in
    let plain : datetime_text c.new.result.lowercase c.new.result.separator c.new.result.precision c.civil.result ≡ iso_datetime_text c.civil.result =
    ap (λ options. datetime_text options.0 options.1 options.2 c.civil.result) c.new.ensures in
    let writes : c.as_bytes.result.now ≡ iso_datetime_text c.civil.result =
    c.as_bytes.ensures.value ∙ c.as_str.ensures.value ∙ c.datetime_text-civil.ensures ∙ plain in
    ends_in_Z _ c.civil.result c.args.text.now c.in-Some.civil_part.now c.as_bytes.result.now c.eq.result
    c.civil.ensures.at c.civil.ensures.whole ends writes c.eq.ensures
