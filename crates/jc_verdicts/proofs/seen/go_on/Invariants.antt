use Rattle.std.proofs.Common.{filter}
use Rattle.jc_states.specs.PodLists.{IsRising}
use Rattle.jc_verdicts.specs.Verdicts.{HasSeen, stays}
use Rattle.jc_verdicts.proofs.seen.go_on.Given as goal

-- The entries at the places before this one are taken in.
abbrev pub invariant-loop-at : goal.invariant-loop-at
invariant-loop-at l = record {
  rising : IsRising l.pods.items;
  seen : HasSeen l.owner l.log l.known.entries (filter (stays l.known.entries) l.pods.items) l.at;
}
