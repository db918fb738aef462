use Rattle.std.proofs.Common.{ap, sym, ◌∙◌, arith, below_more}
use Rattle.jc_types.specs.declared.runs.Shape.{Shape}
use Rattle.jc_machine.specs.DiariesSeen.{diary_seen}
use Rattle.jc_history.specs.Available.{step_events}
use Rattle.jc_play.proofs.UnheldFacts.{left-found, left-none}
use Rattle.jc_play.proofs.unheld.first_unheld_step.Goals as goal

pub returns-in-Some : goal.returns-in-Some
returns-in-Some c =
    let same = ap (λ (s : Shape). s.controllers) c.shape.ensures in
    let test = c.loop-controller-test.true in
    sym (left-found c.args.slots.now (λ k. step_events (diary_seen c.args.machine.now k)
    c.args.machine.now.shape.workers k) c.args.machine.now.shape.controllers c.loop-controller.controller
    c.in-Some.event (omega (arith, same, test)) c.loop-controller.invariant
    (sym c.controller_unheld_steps.ensures ∙ c.in-Some.is))

pub loop-controller-preserved : goal.loop-controller-preserved
loop-controller-preserved c = below_more _ _ c.loop-controller.invariant (sym c.controller_unheld_steps.ensures ∙ c.in_default.is)

pub returns : goal.returns
returns c =
    let same = ap (λ (s : Shape). s.controllers) c.shape.ensures in
    let test = c.loop-controller-test.false in
    sym (left-none c.args.slots.now (λ k. step_events (diary_seen c.args.machine.now k) c.args.machine.now.shape.workers k) c.args.machine.now.shape.controllers (λ k lt. c.loop-controller.invariant k (omega (arith, same, test, lt))))
