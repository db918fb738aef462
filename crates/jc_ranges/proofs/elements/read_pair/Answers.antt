use Rattle.std.proofs.Common.{◌∙◌, sym, arith}
use Rattle.std.proofs.lemmas.Fmt.{decimal_injective}
use Rattle.jc_ranges.proofs.Numerals.{few_digits}
use Rattle.jc_ranges.proofs.elements.read_pair.Goals as goal

pub returns-then-last-first : goal.returns-then-last-first
returns-then-last-first c = λ m n lt small e d.
    let first = c.in_ok-first.ensures in
    let last = c.in_ok-last.ensures in
    let m_is = decimal_injective m c.in_ok-first.first (few_digits m (omega arith)) (few_digits _ first.0) (sym e ∙ first.1) in
    let n_is = decimal_injective n c.in_ok-last.last (few_digits n small) (few_digits _ last.0) (sym d ∙ last.1) in
    omega (arith, m_is, n_is)
