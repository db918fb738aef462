-- The lemmas on how a settle comes to be calm.
use Rattle.jc_settle.proofs.CalmFacts.{calms-down}
use Rattle.jc_settle.proofs.CatchFacts.{catches-up}
use Rattle.jc_settle.proofs.laws.settles_calm_down.Goals as goal

pub returns : goal.returns
returns c = record { caches = λ shape past legal some. catches-up shape some past legal; calm = λ shape past legal some. calms-down shape some past legal }
