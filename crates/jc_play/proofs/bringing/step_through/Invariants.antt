use Rattle.std.proofs.Common.{◌-◌, length}
use Rattle.jc_play.specs.Turns.{next_to_step}
use Rattle.jc_play.proofs.GoFacts.{IsGoing}
use Rattle.jc_play.proofs.bringing.step_through.Given as goal

-- What came next has come, one after the other.
abbrev pub invariant-stepping : goal.invariant-stepping
invariant-stepping l = IsGoing (next_to_step l.controller l.worker) l.initial.machine l.machine

-- How many events there is room for.
abbrev pub decreases-stepping : goal.decreases-stepping
decreases-stepping l = l.machine.shape.events - length l.machine.pasts
