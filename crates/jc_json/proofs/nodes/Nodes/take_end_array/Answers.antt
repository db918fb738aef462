-- Whether the first token that is left closes an array.
use Rattle.std.proofs.Common.{sym, refl, ◌∙◌}
use Rattle.jc_json.proofs.NodeFacts.{closes, goes_on, next_node}
use Rattle.jc_json.proofs.nodes.Nodes.take_end_array.Goals as goal

pub returns-in-EndArray : goal.returns-in-EndArray
returns-in-EndArray c =
    closes c.args.self.now _ _ (sym c.self.view_is ∙ next_node c.self.inside.nodes.now c.self.inside.at _ c.if-at-self.false) c.in-EndArray.is

pub returns : goal.returns
returns c =
    (goes_on c.args.self.now _ _ (sym c.self.view_is ∙ next_node c.self.inside.nodes.now c.self.inside.at _ c.if-at-self.false) c.in_default.not-EndArray, refl)
