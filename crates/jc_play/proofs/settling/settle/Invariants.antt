use Rattle.std.proofs.Common.{◌-◌, length}
use Rattle.jc_play.specs.Turns.{next_to_settle}
use Rattle.jc_play.proofs.GoFacts.{IsGoing}
use Rattle.jc_play.proofs.settling.settle.Given as goal

-- What came next has come, one after the other.
abbrev pub invariant-settling : goal.invariant-settling
invariant-settling l = IsGoing next_to_settle l.initial.machine l.machine

-- How many events there is room for.
abbrev pub decreases-settling : goal.decreases-settling
decreases-settling l = l.machine.shape.events - length l.machine.pasts
