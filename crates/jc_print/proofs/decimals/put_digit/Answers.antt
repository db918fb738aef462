-- One digit is its own text.
use Rattle.std.proofs.Common.{rules, ◌≡◌, ◌<◌, decimal, encode_utf8, [], ◌∷◌, sym, ap, ◌∙◌, arith}
use Rattle.std.proofs.lemmas.Fmt.{decimal_digit}
use Rattle.jc_print.proofs.decimals.put_digit.Goals as goal

pub returns-clause-digits : goal.returns-clause-digits
returns-clause-digits c =
    let given = c.from.ensures in
    let digit = c.requires in
    let low : c.from.result < 128 = omega (arith, given, digit) in
    let one : encode_utf8 c.from.result ≡ decimal c.args.digit =
    c.push.ensures.ascii low ∙ ap (λ n. n ∷ []) given ∙ sym (decimal_digit c.args.digit digit) in
    search (rules, one)
