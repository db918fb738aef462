use Rattle.std.proofs.Common.{◌≡◌, filter, take}
use Rattle.jc_states.specs.Noted.{is_at_odds}
use Rattle.jc_states.proofs.noted.odd_among.Given as goal

-- The pods so far are those at odds before the index.
abbrev pub invariant-loop-pod : goal.invariant-loop-pod
invariant-loop-pod l = l.odd.items ≡ filter is_at_odds (take l.pod-index l.pods)
