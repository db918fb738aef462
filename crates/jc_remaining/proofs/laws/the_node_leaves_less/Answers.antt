-- The lemmas on a deed of the node.
use Rattle.jc_remaining.proofs.NodeLeaves.{node-creations, node-left}
use Rattle.jc_remaining.proofs.laws.the_node_leaves_less.Goals as goal

pub returns : goal.returns
returns c = record { left = node-left; creations = node-creations }
