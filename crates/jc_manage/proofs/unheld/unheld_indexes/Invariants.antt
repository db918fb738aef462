use Rattle.std.proofs.Common.{◌≡◌, ◌-◌, ◌≤◌, ◌&&◌, filter, map, not, take, Some}
use Rattle.std.specs.List.{list_any, range_with_len}
use Rattle.jc_states.specs.Holders.{has_index_in}
use Rattle.jc_states.specs.Pods.{tracked_active_pods}
use Rattle.jc_states.specs.Tallies.{pods_for}
use Rattle.jc_manage.specs.Creations.{is_done_index}
use Rattle.jc_manage.proofs.unheld.unheld_indexes.Given as goal

-- The indexes so far are the first unheld ones below this one.
abbrev pub invariant-loop-index : goal.invariant-loop-index
invariant-loop-index l =
    (l.index ≤ l.completions)
    × (l.indexes ≡ map (λ n. Some n) (take l.most (filter (λ n. not (is_done_index l.counted n) && not (list_any (has_index_in n n) (tracked_active_pods (pods_for l.owner l.pods)))) (range_with_len 0 l.index))))

-- The indexes that are left.
abbrev pub decreases-loop-index : goal.decreases-loop-index
decreases-loop-index l = l.completions - l.index
