use Rattle.jc_ledger.proofs.QuietFacts.{tied_start}
use Rattle.jc_ledger.proofs.laws.the_start_is_tied.Goals as goal

pub returns : goal.returns
returns c = tied_start
