use Rattle.jc_history.proofs.RequestFacts.{steps-same}
use Rattle.jc_history.proofs.laws.steps_are_those_of_the_table.Goals as goal

pub returns : goal.returns
returns c = λ log now pending sync steps made. steps-same log now pending sync steps made.sends made.next
