use Rattle.std.proofs.Common.{◌-◌, ◌+◌, length}
use Rattle.jc_machine.specs.SyncsSeen.{IsLast, StepsOn}
use Rattle.jc_machine.proofs.machine.Machine.step_through.Given as goal

-- So far the worker made steps alone, and the last reply is the newest one.
abbrev pub invariant-steps : goal.invariant-steps
invariant-steps l = record {
  steps : StepsOn l.controller l.worker l.initial.self l.self;
  last : IsLast l.last l.self.pasts;
}

-- The events that may still come.
abbrev pub decreases-steps : goal.decreases-steps
decreases-steps l = l.self.shape.events + 1 - length l.self.pasts
