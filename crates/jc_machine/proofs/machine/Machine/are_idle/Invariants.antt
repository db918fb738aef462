use Rattle.std.proofs.Common.{◌<◌, ℕ}
use Rattle.jc_runs.specs.Seen.{log_seen}
use Rattle.jc_machine.specs.DiariesSeen.{diary_seen}
use Rattle.jc_machine.specs.Idle.{IsTeamIdle}
use Rattle.jc_machine.proofs.machine.Machine.are_idle.Given as goal

-- The controllers before this one have nothing to do.
abbrev pub invariant-loop-controller : goal.invariant-loop-controller
invariant-loop-controller l = (c : ℕ) → c < l.controller → IsTeamIdle (diary_seen l.self c) (log_seen l.self) l.self.shape.workers
