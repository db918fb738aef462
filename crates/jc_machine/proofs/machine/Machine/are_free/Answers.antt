use Rattle.std.proofs.Common.{◌≡◌, ◌<◌, true, is_none, refl, sym, ap, ◌∙◌, subst, arith, true≢false}
use Rattle.jc_types.specs.declared.runs.Shape.{Shape}
use Rattle.jc_history.specs.Registers.{register}
use Rattle.jc_machine.specs.DiariesSeen.{diary_seen}
use Rattle.jc_machine.proofs.IdleFacts.{up_to}
use Rattle.jc_machine.proofs.machine.Machine.are_free.Goals as goal

pub returns-then-not-is_free : goal.returns-then-not-is_free
returns-then-not-is_free c = (λ t. absurd (true≢false (sym t)), λ free. sym c.if-not-is_free.true ∙ c.is_free.ensures ∙ free c.loop-worker.worker (subst (λ (s : Shape). c.loop-worker.worker < s.workers) c.shape.ensures c.loop-worker-test.true))

pub loop-worker-preserved : goal.loop-worker-preserved
loop-worker-preserved c = up_to (λ w. is_none (register w (diary_seen c.args.self.now c.args.controller)) ≡ true) c.loop-worker.worker c.loop-worker.invariant (sym c.is_free.ensures ∙ c.if-not-is_free.false)

pub returns : goal.returns
returns c = (λ t w lt. c.loop-worker.invariant w (omega (arith, lt, c.loop-worker-test.false, ap (λ (s : Shape). s.workers) c.shape.ensures)), λ free. refl)
