-- The lemmas on what is at rest.
use Rattle.jc_order.proofs.RestFacts.{at-rest, rest-quiet}
use Rattle.jc_order.proofs.laws.quiescent_is_at_rest.Goals as goal

pub returns : goal.returns
returns c = record { rest = at-rest; quiescent = rest-quiet }
