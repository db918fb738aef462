use Rattle.jc_runs.specs.Seen.{log_seen}
use Rattle.jc_machine.specs.DiariesSeen.{diary_seen}
use Rattle.jc_machine.specs.Idle.{IsTeamIdle}
use Rattle.jc_machine.proofs.IdleFacts.{up_to}
use Rattle.jc_machine.proofs.machine.Machine.are_idle.Goals as goal

pub loop-controller-preserved : goal.loop-controller-preserved
loop-controller-preserved c = up_to (λ k. IsTeamIdle (diary_seen c.args.self.now k) (log_seen c.args.self.now) c.args.self.now.shape.workers) c.loop-controller.controller c.loop-controller.invariant (c.is_idle.ensures.0 c.if-not-is_idle.false)
