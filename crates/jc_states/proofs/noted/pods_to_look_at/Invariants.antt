use Rattle.std.proofs.Common.{◌≡◌, filter, take}
use Rattle.jc_states.specs.Noted.{needs_look}
use Rattle.jc_states.proofs.noted.pods_to_look_at.Given as goal

-- The pods so far are those before the index at which a sync has to look.
abbrev pub invariant-loop-pod : goal.invariant-loop-pod
invariant-loop-pod l = l.noted.items ≡ filter (needs_look l.owner l.uids l.more) (take l.pod-index l.pods)
