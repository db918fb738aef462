use Rattle.std.proofs.Common.{◌≡◌, filter, take}
use Rattle.jc_states.specs.UidLists.{uids_of}
use Rattle.jc_plan.specs.Releases.{is_released}
use Rattle.jc_plan.proofs.releases.released_of.Given as goal

-- The UIDs so far are those of the pods before the index that lose their finalizer.
abbrev pub invariant-loop-pod : goal.invariant-loop-pod
invariant-loop-pod l = l.uids ≡ uids_of (filter (is_released l.basis) (take l.pod-index l.pods))
