use Rattle.std.proofs.Common.{◌∙◌, ap, arith, sym}
use Rattle.jc_audit.specs.Tails.{at_end, whole_lines}
use Rattle.jc_audit.proofs.TailFacts.{at_last, next_some, other_lines, same_lines}
use Rattle.jc_audit.proofs.tails.lines_compared.Goals as goal

pub comparing-preserved : goal.comparing-preserved
comparing-preserved c =
    same_lines _ _ _ _ _ _ _ c.comparing.invariant c.comparing-test.true _ _ _ _ c.bytes_from-found.ensures c.bytes_from-next.ensures
    c.line_len-found_len.ensures.is c.line_len-next_len.ensures.is (sym c.is_same.ensures ∙ c.if-not-is_same.false)

-- Each line has a byte.
pub comparing-smaller : goal.comparing-smaller
comparing-smaller c =
    let some = next_some _ _ _ _ _ _ _ c.comparing.invariant c.comparing-test.true _ _ _ _ c.bytes_from-found.ensures c.bytes_from-next.ensures
    c.line_len-found_len.ensures.is c.line_len-next_len.ensures.is in
    let due = c.comparing-test.true in
    omega (arith, some, due)

pub returns-then-not-is_same : goal.returns-then-not-is_same
returns-then-not-is_same c =
    other_lines _ _ _ _ _ _ _ c.comparing.invariant c.comparing-test.true _ _ _ _ c.bytes_from-found.ensures c.bytes_from-next.ensures
    c.line_len-found_len.ensures.is c.line_len-next_len.ensures.is (sym c.is_same.ensures ∙ c.if-not-is_same.true)

pub returns : goal.returns
returns c =
    c.at_end.ensures ∙ ap (λ l. at_end c.comparing.line (whole_lines l) c.args.full) c.bytes_from.ensures
    ∙ at_last _ _ _ _ _ _ _ c.comparing.invariant c.comparing-test.false
