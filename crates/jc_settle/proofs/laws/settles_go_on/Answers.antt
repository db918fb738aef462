-- The lemmas on how a settle goes on.
use Rattle.jc_settle.proofs.OnFacts.{next-legal, none-next, on-adds, on-legal, on-settles, rest-before, rest-earlier}
use Rattle.jc_settle.proofs.laws.settles_go_on.Goals as goal

pub returns : goal.returns
returns c = record { next = next-legal; legal = on-legal; settling = on-settles; adds = on-adds; none = none-next; before = rest-before; earlier = rest-earlier }
