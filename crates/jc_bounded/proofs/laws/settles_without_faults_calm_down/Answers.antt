-- The lemma on histories without faults.
use Rattle.jc_bounded.proofs.FaultFacts.{comes-faultless}
use Rattle.jc_bounded.proofs.laws.settles_without_faults_calm_down.Goals as goal

pub returns : goal.returns
returns c = comes-faultless
