use Rattle.jc_reading.proofs.ItemFacts.{all_made}
use Rattle.jc_reading.proofs.manifests.named_list.Goals as goal

pub returns : goal.returns
returns c = all_made _ _ c.loop-name.name-index c.loop-name-test.false c.loop-name.invariant
