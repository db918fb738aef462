-- The lemmas on the play of the rest.
use Rattle.jc_order.proofs.PlayFacts.{rest-is, rest-used, history-is}
use Rattle.jc_order.proofs.laws.the_rest_is_played.Goals as goal

pub returns : goal.returns
returns c = record { played = rest-is; used = rest-used; history = history-is }
