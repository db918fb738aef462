use Rattle.std.proofs.Common.{ap, sym, ◌∙◌, arith, below_more}
use Rattle.jc_types.specs.declared.runs.Shape.{Shape}
use Rattle.jc_machine.specs.DiariesSeen.{diary_seen}
use Rattle.jc_history.specs.Available.{step_event}
use Rattle.jc_play.proofs.UnheldFacts.{left-found, left-none}
use Rattle.jc_play.proofs.unheld.controller_unheld_steps.Goals as goal

pub returns-in-Some : goal.returns-in-Some
returns-in-Some c =
    let same = ap (λ (s : Shape). s.workers) c.shape.ensures in
    let test = c.loop-worker-test.true in
    sym (left-found c.args.slots.now (step_event (diary_seen c.args.machine.now c.args.controller) c.args.controller)
    c.args.machine.now.shape.workers c.loop-worker.worker c.in-Some.event (omega (arith, same, test))
    c.loop-worker.invariant (sym c.unheld_step.ensures ∙ c.in-Some.is))

pub loop-worker-preserved : goal.loop-worker-preserved
loop-worker-preserved c = below_more _ _ c.loop-worker.invariant (sym c.unheld_step.ensures ∙ c.in_default.is)

pub returns : goal.returns
returns c =
    let same = ap (λ (s : Shape). s.workers) c.shape.ensures in
    let test = c.loop-worker-test.false in
    sym (left-none c.args.slots.now (step_event (diary_seen c.args.machine.now c.args.controller) c.args.controller) c.args.machine.now.shape.workers (λ k lt. c.loop-worker.invariant k (omega (arith, same, test, lt))))
