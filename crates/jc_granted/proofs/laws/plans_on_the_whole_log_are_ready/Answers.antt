-- The lemmas on a plan on the whole log.
use Rattle.jc_granted.proofs.SawFacts.{saw-ready}
use Rattle.jc_granted.proofs.laws.plans_on_the_whole_log_are_ready.Goals as goal

pub returns : goal.returns
returns c = saw-ready
