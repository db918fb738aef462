use Rattle.std.proofs.Common.{ap, sym, subst, List, Some, option_copied}
use Rattle.std.proofs.lemmas.Result.{err_from_is_err_and}
use Rattle.jc_types.specs.declared.actions.Command.{Command}
use Rattle.jc_script.proofs.Reading.{IsReading, begins, ends_bad, ends_well}
use Rattle.jc_script.proofs.scripts.read_script.Goals as goal

pub lines-init : goal.lines-init
lines-init c =
    let P : List Command → Type 0 = λ commands. IsReading c.args.shape.now c.args.bytes.now commands 1 (Some c.args.bytes.now)
    in subst P (sym c.new-commands.ensures) (begins c.args.shape.now c.args.bytes.now)

pub returns-in_err-take_line-clause-bad_line : goal.returns-in_err-take_line-clause-bad_line
returns-in_err-take_line-clause-bad_line c number cause e =
    let p = err_from_is_err_and c.from_residual.result c.from_residual.ensures.1 in
    ends_bad c.args.shape.now c.args.bytes.now c.lines.commands c.lines.number (option_copied c.lines.left) c.in-Some.text.now
    c.first_line.result.0.now (option_copied c.first_line.result.1) (record { number = number; cause = cause }) c.lines.invariant
    (ap option_copied c.in-Some.is) c.first_line.ensures.lines (c.in_err-take_line.ensures.bad number cause (cc (p.1, p.2)))

pub returns-clause-script : goal.returns-clause-script
returns-clause-script c =
    ends_well c.args.shape.now c.args.bytes.now c.lines.commands c.lines.number (option_copied c.lines.left) c.lines.invariant
    (ap option_copied c.in_default.is)
