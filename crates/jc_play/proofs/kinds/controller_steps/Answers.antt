use Rattle.std.proofs.Common.{ap, sym, ◌∙◌, arith, below_more}
use Rattle.jc_types.specs.declared.runs.Shape.{Shape}
use Rattle.jc_machine.specs.DiariesSeen.{diary_seen}
use Rattle.jc_runs.specs.Seen.{log_seen}
use Rattle.jc_play.proofs.KindFacts.{steps-found, steps-none}
use Rattle.jc_play.proofs.kinds.controller_steps.Goals as goal

pub returns-then-not-is_free : goal.returns-then-not-is_free
returns-then-not-is_free c =
    let same = ap (λ (s : Shape). s.workers) c.shape.ensures in
    let test = c.loop-worker-test.true in
    sym (steps-found (diary_seen c.args.machine.now c.args.controller) (log_seen c.args.machine.now)
    c.args.machine.now.shape.workers c.args.controller c.loop-worker.worker (omega (arith, same, test))
    c.loop-worker.invariant (sym c.is_free.ensures ∙ c.if-not-is_free.true))

pub loop-worker-preserved : goal.loop-worker-preserved
loop-worker-preserved c = below_more _ _ c.loop-worker.invariant (sym c.is_free.ensures ∙ c.if-not-is_free.false)

pub returns : goal.returns
returns c =
    let same = ap (λ (s : Shape). s.workers) c.shape.ensures in
    let test = c.loop-worker-test.false in
    sym (steps-none (diary_seen c.args.machine.now c.args.controller) (log_seen c.args.machine.now) c.args.machine.now.shape.workers c.args.controller (λ k lt. c.loop-worker.invariant k (omega (arith, same, test, lt))))
