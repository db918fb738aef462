use Rattle.std.proofs.Common.{◌≡◌, ◌&&◌, drop, filter}
use Rattle.jc_states.specs.Bases.{is_own}
use Rattle.jc_states.specs.UidLists.{is_in}
use Rattle.jc_perindex.specs.FillingSteps.{raise_each}
use Rattle.jc_perindex.proofs.counts.raise_each.Given as goal

-- The counts so far have the failures of the pods from the place on.
abbrev pub invariant-loop-place : goal.invariant-loop-place
invariant-loop-place l =
    l.counts ≡ raise_each l.job.spec.failure l.job.status.index_failures (filter (λ pod. is_own l.job pod && is_in pod.uid l.uids) (drop l.place l.pods))
