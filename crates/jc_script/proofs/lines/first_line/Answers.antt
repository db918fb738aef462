use Rattle.jc_script.proofs.FirstLine.{some_line, one_line}
use Rattle.std.proofs.Common.{sym}
use Rattle.jc_script.proofs.lines.first_line.Goals as goal

pub returns-in-Some-clause-lines : goal.returns-in-Some-clause-lines
returns-in-Some-clause-lines c = some_line c.args.text.now c.in-Some.end (sym c.in-Some.ensures)

pub returns-in-None-clause-lines : goal.returns-in-None-clause-lines
returns-in-None-clause-lines c = one_line c.args.text.now (sym c.in-None.ensures)
