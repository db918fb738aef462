use Rattle.std.proofs.Common.{ap, false, ◌∙◌}
use Rattle.std.specs.List.{list_any}
use Rattle.std.specs.Option.{option_map_or}
use Rattle.jc_ranges.specs.Sets.{has}
use Rattle.jc_types.specs.declared.objects.Pod.{Pod}
use Rattle.jc_states.specs.Pods.{tracked_active_pods}
use Rattle.jc_states.specs.Tallies.{pods_for}
use Rattle.jc_manage.proofs.SpareFacts.{any-run}
use Rattle.jc_manage.proofs.spares.has_one_of.Goals as goal

pub returns : goal.returns
returns c =
    let tracked = tracked_active_pods (pods_for c.args.owner c.args.pods.now) in
    c.has_pod_in_run.ensures ∙ any-run c.runs.result.now tracked
    ∙ ap (λ set. list_any (λ (pod : Pod). option_map_or (λ n. has n set) pod.index false) tracked) c.runs.ensures
