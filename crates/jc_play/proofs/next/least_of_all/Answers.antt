use Rattle.std.proofs.Common.{ap, arith}
use Rattle.jc_types.specs.declared.runs.Shape.{Shape}
use Rattle.jc_machine.specs.DiariesSeen.{diary_seen}
use Rattle.jc_history.specs.Delays.{least_delay}
use Rattle.jc_play.proofs.FirstFacts.{least-step}
use Rattle.jc_play.proofs.next.least_of_all.Goals as goal

pub loop-controller-preserved : goal.loop-controller-preserved
loop-controller-preserved c =
    let same = ap (λ (s : Shape). s.controllers) c.shape.ensures in
    let test = c.loop-controller-test.true in
    least-step (λ k. least_delay (diary_seen c.args.machine.now k)) c.loop-controller.found c.next_delay.result
    c.earliest_of-found.result c.loop-controller.controller c.args.machine.now.shape.controllers
    (omega (arith, same, test)) c.next_delay.ensures c.earliest_of-found.ensures _ c.loop-controller.invariant
