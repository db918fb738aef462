-- The lemmas on what comes first.
use Rattle.jc_settle.proofs.ComesFacts.{first-comes}
use Rattle.jc_settle.proofs.laws.what_comes_first.Goals as goal

pub returns : goal.returns
returns c = first-comes
