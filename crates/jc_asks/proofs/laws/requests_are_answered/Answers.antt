use Rattle.jc_asks.proofs.AnswerFacts.{store_answers}
use Rattle.jc_asks.proofs.laws.requests_are_answered.Goals as goal

pub returns : goal.returns
returns c = store_answers
