-- The lemmas on syncs in a settle.
use Rattle.jc_settle.proofs.SerialFacts.{one-at-most, serial}
use Rattle.jc_settle.proofs.laws.settles_are_serial.Goals as goal

pub returns : goal.returns
returns c = record { syncs = λ shape run past legal some. serial shape some past run legal; alone = λ shape run past legal some. one-at-most shape some past run legal }
