use Rattle.jc_lines.proofs.Given.{given, histories_follow}
use Rattle.jc_lines.proofs.laws.lines_determine_histories.Goals as goal

pub returns : goal.returns
returns c = λ script shape h k legal other events others few same.
    c.lines_tell_histories.ensures script (given script shape) h.events.items k.events.items few events others
    (histories_follow script shape h legal) (histories_follow script shape k other) same
