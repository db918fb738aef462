-- The number that is written is within the bounds, or no number within them is written.
use Rattle.std.proofs.Common.{◌∙◌, sym, arith}
use Rattle.jc_words.proofs.Decimals.{in_bounds, out_of_bounds, unwritten}
use Rattle.jc_words.proofs.numbers.read_number.Goals as goal
use Rattle.jc_words.proofs.numbers.read_number.Goals.{else-low-number-via-then-low-number+else-number-high, else-low-number-via-else-low-number}

pub returns-in_err-number : goal.returns-in_err-number
returns-in_err-number c =
    c.from_residual.ensures ∙ sym (unwritten c.args.low c.args.high c.args.text.now (omega arith) c.in_err-number.ensures)

pub returns-then-number-high : goal.returns-then-number-high
returns-then-number-high c =
    in_bounds c.args.low c.args.high c.args.text.now (omega arith) c.in_ok-number.number c.if-low-number.true c.if-number-high.true c.in_ok-number.ensures

pub returns : goal.returns
returns c =
    out_of_bounds c.args.low c.args.high c.args.text.now (omega arith) c.in_ok-number.number (omega arith) c.in_ok-number.ensures
    (λ more less. elim c.else-low-number.branch [
      | else-low-number-via-then-low-number+else-number-high w ↦ omega (arith, less, w.if-number-high.false)
      | else-low-number-via-else-low-number w ↦ omega (arith, more, w.if-low-number.false)
    ])
