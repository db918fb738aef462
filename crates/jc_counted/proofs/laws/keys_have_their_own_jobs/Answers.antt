-- The lemma on the UIDs of Jobs that are there.
use Rattle.jc_counted.proofs.CountedFacts.{legal-one-key}
use Rattle.jc_counted.proofs.laws.keys_have_their_own_jobs.Goals as goal

pub returns : goal.returns
returns c = legal-one-key c.allowed_updates_stay_valid.ensures
