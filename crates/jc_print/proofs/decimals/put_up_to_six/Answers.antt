-- Behind the 1 digits begin, and from the place of its first one on they are the number.
use Rattle.std.proofs.Common.{◌≡◌, ◌%◌, arith, rules}
use Rattle.jc_print.proofs.Four.{behind_million, five_alone, four_alone, six_alone}
use Rattle.jc_print.proofs.decimals.put_up_to_six.Goals as goal

pub range_from-requires : goal.range_from-requires
range_from-requires c =
    let text = c.format-digits.ensures.text in
    let small = c.requires.high in
    let same : c.args.number % 1048576 ≡ c.args.number = omega (arith, small) in
    rw (text, same, behind_million c.args.number small) (λ one. (omega arith, λ more high. absurd (omega (arith, high, small))))

pub range_from-requires-then-number-lt100000 : goal.range_from-requires-then-number-lt100000
range_from-requires-then-number-lt100000 c =
    let text = c.format-digits.ensures.text in
    let small = c.requires.high in
    let same : c.args.number % 1048576 ≡ c.args.number = omega (arith, small) in
    rw (text, same, behind_million c.args.number small) (λ one. (omega arith, λ more high. absurd (omega (arith, high, small))))

pub range_from-requires-else-number-lt100000 : goal.range_from-requires-else-number-lt100000
range_from-requires-else-number-lt100000 c =
    let text = c.format-digits.ensures.text in
    let small = c.requires.high in
    let same : c.args.number % 1048576 ≡ c.args.number = omega (arith, small) in
    rw (text, same, behind_million c.args.number small) (λ one. (omega arith, λ more high. absurd (omega (arith, high, small))))

pub returns-then-number-lt10000 : goal.returns-then-number-lt10000
returns-then-number-lt10000 c =
    let text = c.format-digits.ensures.text in
    let same : c.args.number % 1048576 ≡ c.args.number = omega (arith, c.requires.high) in
    let whole = four_alone c.args.number c.requires.low (omega (arith, c.if-number-lt10000.true)) in
    search (rules, text, same, whole)

pub returns-then-number-lt100000 : goal.returns-then-number-lt100000
returns-then-number-lt100000 c =
    let text = c.format-digits.ensures.text in
    let same : c.args.number % 1048576 ≡ c.args.number = omega (arith, c.requires.high) in
    let whole = five_alone c.args.number (omega (arith, c.if-number-lt10000.false)) (omega (arith, c.if-number-lt100000.true)) in
    search (rules, text, same, whole)

pub returns-else-number-lt100000 : goal.returns-else-number-lt100000
returns-else-number-lt100000 c =
    let text = c.format-digits.ensures.text in
    let same : c.args.number % 1048576 ≡ c.args.number = omega (arith, c.requires.high) in
    let whole = six_alone c.args.number (omega (arith, c.if-number-lt100000.false)) c.requires.high in
    search (rules, text, same, whole)
