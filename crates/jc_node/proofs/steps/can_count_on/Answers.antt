-- No UID is above the number of births, and no more objects are born than there are entries.
use Rattle.jc_node.proofs.NextFacts.{pods-within}
use Rattle.jc_node.proofs.steps.can_count_on.Goals as goal

pub returns-clause-within : goal.returns-clause-within
returns-clause-within c = pods-within c.args.store.now c.log-log.ensures.stored
