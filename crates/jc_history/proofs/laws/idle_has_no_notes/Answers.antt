use Rattle.jc_history.proofs.HeldSteps.{held-idle}
use Rattle.jc_history.proofs.laws.idle_has_no_notes.Goals as goal

pub returns : goal.returns
returns c = held-idle
