use Rattle.jc_lines.proofs.Lines.{line_told}
use Rattle.jc_lines.proofs.laws.lines_tell_events.Goals as goal

pub returns : goal.returns
returns c = line_told
