use Rattle.std.proofs.Common.{◌≡◌, ◌&&◌, filter, take}
use Rattle.jc_states.specs.Bases.{is_own}
use Rattle.jc_states.specs.UidLists.{uids_of}
use Rattle.jc_account.specs.Judgements.{is_to_go}
use Rattle.jc_account.proofs.releases.due.Given as goal

-- The UIDs so far are those of the pods before the index whose finalizer is to go.
abbrev pub invariant-loop-pod : goal.invariant-loop-pod
invariant-loop-pod l = l.uids ≡ uids_of (filter (λ pod. is_own l.job pod && is_to_go l.first l.job pod) (take l.pod-index l.pods))
