-- The law on plans that ask for nothing.
use Rattle.jc_idle.proofs.WaitFacts.{waits}
use Rattle.jc_idle.proofs.laws.idle_plans_wait.Goals as goal

pub returns : goal.returns
returns c = waits
