use Rattle.jc_queue.proofs.OrderFacts.{due_keys-same}
use Rattle.jc_queue.proofs.laws.equal_moments_are_due_alike.Goals as goal

pub returns : goal.returns
returns c = due_keys-same
