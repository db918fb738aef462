use Rattle.std.proofs.Common.{ℕ, ap, sym, subst, List, Option, Some, option_copied}
use Rattle.std.proofs.lemmas.Result.{err_from_is_err_and}
use Rattle.jc_reap.proofs.TtlReading.{IsTtlReading, begins, ends_bad, ends_well}
use Rattle.jc_reap.proofs.ttls.read_ttls.Goals as goal

pub lines-init : goal.lines-init
lines-init c =
    let P : List (Option ℕ) → Type 0 = λ ttls. IsTtlReading c.args.shape.now c.args.bytes.now ttls 1 (Some c.args.bytes.now)
    in subst P (sym c.new-ttls.ensures) (begins c.args.shape.now c.args.bytes.now)

pub returns-in_err-take_line-clause-bad_line : goal.returns-in_err-take_line-clause-bad_line
returns-in_err-take_line-clause-bad_line c number cause e =
    let p = err_from_is_err_and c.from_residual.result c.from_residual.ensures.1 in
    ends_bad c.args.shape.now c.args.bytes.now c.lines.ttls c.lines.number (option_copied c.lines.left) c.in-Some.text.now
    c.first_line.result.0.now (option_copied c.first_line.result.1) (record { number = number; cause = cause }) c.lines.invariant
    (ap option_copied c.in-Some.is) c.first_line.ensures.lines (c.in_err-take_line.ensures.bad number cause (cc (p.1, p.2)))

pub returns-clause-ttls : goal.returns-clause-ttls
returns-clause-ttls c =
    ends_well c.args.shape.now c.args.bytes.now c.lines.ttls c.lines.number (option_copied c.lines.left) c.lines.invariant
    (ap option_copied c.in_default.is)
