use Rattle.jc_history.proofs.BeginSteps.{begun-answer_is, begun-held_is}
use Rattle.jc_history.proofs.laws.begins_follow_the_notes.Goals as goal

pub returns : goal.returns
returns c = record { answer = begun-answer_is; schedule = begun-held_is }
