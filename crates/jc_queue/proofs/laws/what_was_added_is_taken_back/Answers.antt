use Rattle.jc_queue.proofs.BackFacts.{retracted-added}
use Rattle.jc_queue.proofs.laws.what_was_added_is_taken_back.Goals as goal

pub returns : goal.returns
returns c = retracted-added
