use Rattle.jc_order.proofs.PlayFacts.{history-rests}
use Rattle.jc_order.proofs.laws.settled_plays_are_at_rest.Goals as goal

pub returns : goal.returns
returns c = λ script shape proper history is unfull ends. history-rests script shape proper history is unfull ends
