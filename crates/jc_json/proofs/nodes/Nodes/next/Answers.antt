-- The node at the place stands for the first token that is left.
use Rattle.std.proofs.Common.{sym, ◌∙◌}
use Rattle.jc_json.proofs.NodeFacts.{next_node}
use Rattle.jc_json.proofs.nodes.Nodes.next.Goals as goal

pub returns : goal.returns
returns c = sym c.self.view_is ∙ next_node c.self.inside.nodes.now c.self.inside.at _ c.if-at-nodes.false
