use Rattle.std.proofs.Common.{◌-◌, length}
use Rattle.jc_play.specs.Turns.{next_to_bring}
use Rattle.jc_play.proofs.GoFacts.{IsGoing}
use Rattle.jc_play.proofs.bringing.bring_up.Given as goal

-- What came next has come, one after the other.
abbrev pub invariant-bringing : goal.invariant-bringing
invariant-bringing l = IsGoing (next_to_bring l.controller l.kind) l.initial.machine l.machine

-- How many events there is room for.
abbrev pub decreases-bringing : goal.decreases-bringing
decreases-bringing l = l.machine.shape.events - length l.machine.pasts
