-- The lemmas on what comes first.
use Rattle.jc_settle.proofs.ComesFacts.{begin-sees}
use Rattle.jc_settle.proofs.laws.begins_see_all.Goals as goal

pub returns : goal.returns
returns c = begin-sees
