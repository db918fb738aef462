use Rattle.std.proofs.Common.{[]}
use Rattle.jc_lines.proofs.Lines.{lines_told}
use Rattle.jc_lines.proofs.laws.lines_tell_histories.Goals as goal

pub returns : goal.returns
returns c = λ script gives events others. lines_told script gives [] events others 1
