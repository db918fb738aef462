-- The lemmas on released pods.
use Rattle.jc_plan.proofs.OrderFacts.{due-released, plan-released, released-seen}
use Rattle.jc_plan.proofs.laws.releases_are_of_pods.Goals as goal

pub returns : goal.returns
returns c = record { member = plan-released; counted = due-released; seen = released-seen }
