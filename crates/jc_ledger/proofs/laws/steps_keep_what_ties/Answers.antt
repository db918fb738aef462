use Rattle.jc_ledger.proofs.RunFacts.{step_tied}
use Rattle.jc_ledger.proofs.laws.steps_keep_what_ties.Goals as goal

pub returns : goal.returns
returns c = step_tied
