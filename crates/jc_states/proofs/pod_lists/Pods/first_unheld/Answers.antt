use Rattle.std.proofs.Common.{ap, sym, ◌∙◌}
use Rattle.std.specs.List.{list_any}
use Rattle.jc_states.specs.Holders.{has_index_in}
use Rattle.jc_states.specs.Pods.{tracked_active_pods}
use Rattle.jc_states.specs.Tallies.{pods_for}
use Rattle.jc_states.proofs.HolderFacts.{held-between}
use Rattle.jc_states.proofs.pod_lists.Pods.first_unheld.Goals as goal

-- A pod of the owner has each index that the row has.
pub returns-clause-held : goal.returns-clause-held
returns-clause-held c n low high =
    sym
    (held-between c.args.owner n n c.self.inside.pods.items c.self.inside.holders c.self.invariant.held
    ∙ ap (λ pods. list_any (has_index_in n n) (tracked_active_pods (pods_for c.args.owner pods))) c.self.view_is)
    ∙ c.first_unheld.ensures.held n low high

pub returns-clause-free : goal.returns-clause-free
returns-clause-free c below =
    let n = c.first_unheld.result in
    sym
    (held-between c.args.owner n n c.self.inside.pods.items c.self.inside.holders c.self.invariant.held
    ∙ ap (λ pods. list_any (has_index_in n n) (tracked_active_pods (pods_for c.args.owner pods))) c.self.view_is)
    ∙ c.first_unheld.ensures.free below
