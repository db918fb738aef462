use Rattle.jc_ranges.proofs.Named.{names_low}
use Rattle.jc_ranges.proofs.elements.read_element.Goals as goal

pub returns-then-first-low : goal.returns-then-first-low
returns-then-first-low c =
    names_low c.args.low c.args.element.now (record { first = c.in_ok-first.first; last = c.in_ok-first.last }) c.in_ok-first.ensures c.if-first-low.true
