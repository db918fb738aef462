-- The lemma on logs.
use Rattle.jc_cache.proofs.CacheFacts.{owner_stays}
use Rattle.jc_cache.proofs.laws.pods_stay_with_their_owner.Goals as goal

pub returns : goal.returns
returns c = owner_stays
