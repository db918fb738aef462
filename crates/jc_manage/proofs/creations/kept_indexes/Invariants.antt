use Rattle.std.proofs.Common.{◌≡◌, ◌<◌, ◌&&◌, ℕ, false, get_or, length, take}
use Rattle.std.specs.List.{list_any}
use Rattle.jc_states.specs.Bases.{is_own}
use Rattle.jc_states.specs.Indexes.{has_index}
use Rattle.jc_manage.specs.Creations.{keeps}
use Rattle.jc_manage.proofs.creations.kept_indexes.Given as goal

-- There is a flag for each index, and so far those are set whose index an own pod before this one keeps.
abbrev pub invariant-loop-pod : goal.invariant-loop-pod
invariant-loop-pod l =
    (length l.kept.items ≡ l.completions)
    × ((n : ℕ) → n < l.completions → get_or l.kept.items n false ≡ list_any (λ pod. is_own l.job pod && (keeps l.job.spec.replacement pod && has_index n pod)) (take l.pod-index l.pods))
