use Rattle.jc_control.proofs.LawFacts.{first-idle}
use Rattle.jc_control.proofs.laws.no_processing_key_is_first.Goals as goal

pub returns : goal.returns
returns c = first-idle
