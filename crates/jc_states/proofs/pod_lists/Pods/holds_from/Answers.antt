use Rattle.std.proofs.Common.{ap, nat_le, ◌∙◌, false}
use Rattle.std.specs.List.{list_any}
use Rattle.std.specs.Option.{option_map_or}
use Rattle.jc_states.specs.Pods.{tracked_active_pods}
use Rattle.jc_states.specs.Tallies.{pods_for}
use Rattle.jc_states.proofs.HolderFacts.{held-from}
use Rattle.jc_states.proofs.pod_lists.Pods.holds_from.Goals as goal

pub returns : goal.returns
returns c =
    c.holds_from.ensures
    ∙ held-from c.args.owner c.args.first c.self.inside.pods.items c.self.inside.holders c.self.invariant.held
    ∙ ap (λ pods. list_any (λ pod. option_map_or (λ index. nat_le c.args.first index) pod.index false) (tracked_active_pods (pods_for c.args.owner pods))) c.self.view_is
