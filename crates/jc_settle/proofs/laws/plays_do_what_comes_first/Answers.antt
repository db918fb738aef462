-- The lemma on plays.
use Rattle.jc_settle.proofs.TurnFacts.{settles}
use Rattle.jc_settle.proofs.laws.plays_do_what_comes_first.Goals as goal

pub returns : goal.returns
returns c = λ script shape start p h. settles script shape p h.log_is
