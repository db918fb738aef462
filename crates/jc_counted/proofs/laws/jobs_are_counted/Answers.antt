-- The lemma on Jobs of a legal history.
use Rattle.jc_counted.proofs.CountedFacts.{legal-counted}
use Rattle.jc_counted.proofs.laws.jobs_are_counted.Goals as goal

pub returns : goal.returns
returns c = legal-counted c.allowed_updates_stay_valid.ensures
