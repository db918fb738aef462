-- The lemma on a deed of the node.
use Rattle.std.proofs.Common.{[], ap}
use Rattle.std.specs.Option.{unwrap_or}
use Rattle.jc_bearing.proofs.ReportFacts.{node-turn}
use Rattle.jc_bearing.proofs.laws.the_node_allows_no_more_pods.Goals as goal

pub returns : goal.returns
returns c = λ shape past d ends job act fated counted. node-turn shape past d act ends job (ap (λ o. unwrap_or o []) fated) counted
