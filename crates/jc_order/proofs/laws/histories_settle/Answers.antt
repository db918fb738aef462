-- The lemmas on what settles.
use Rattle.jc_order.proofs.PlayFacts.{settled-is, settled-rests}
use Rattle.jc_order.proofs.laws.histories_settle.Goals as goal

pub returns : goal.returns
returns c = record { settled = settled-is; rests = settled-rests }
