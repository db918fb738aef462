use Rattle.std.proofs.Common.{ap, ◌∙◌}
use Rattle.std.specs.List.{list_any}
use Rattle.jc_states.specs.Holders.{has_index_in}
use Rattle.jc_states.specs.Pods.{tracked_active_pods}
use Rattle.jc_states.specs.Tallies.{pods_for}
use Rattle.jc_states.proofs.HolderFacts.{held-between}
use Rattle.jc_states.proofs.pod_lists.Pods.holds_between.Goals as goal

pub returns : goal.returns
returns c =
    c.holds_between.ensures
    ∙ held-between c.args.owner c.args.first c.args.last c.self.inside.pods.items c.self.inside.holders c.self.invariant.held
    ∙ ap (λ pods. list_any (has_index_in c.args.first c.args.last) (tracked_active_pods (pods_for c.args.owner pods))) c.self.view_is
