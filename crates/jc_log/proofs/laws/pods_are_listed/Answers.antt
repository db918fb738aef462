-- The lemmas on the list of pods.
use Rattle.jc_log.proofs.PodFacts.{pods_in-rises, pods_in-among}
use Rattle.jc_log.proofs.laws.pods_are_listed.Goals as goal

pub returns : goal.returns
returns c = record { rising = pods_in-rises; found = pods_in-among }
