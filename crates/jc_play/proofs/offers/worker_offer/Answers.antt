use Rattle.std.proofs.Common.{ap, sym, ◌∙◌, arith, true≢false}
use Rattle.jc_types.specs.declared.runs.Shape.{Shape}
use Rattle.jc_play.proofs.ActorFacts.{worker-begins, worker-steps, worker-waits}
use Rattle.jc_play.proofs.offers.worker_offer.Goals as goal

pub returns-then-not-is_free : goal.returns-then-not-is_free
returns-then-not-is_free c =
    let controllers = ap (λ (s : Shape). s.controllers) c.shape-shape.ensures in
    let workers = ap (λ (s : Shape). s.workers) c.shape-shape.ensures in
    let controller = c.if-controller-shape.false in
    let worker = c.if-worker-shape.false in
    worker-steps c.args.machine.now c.args.controller c.args.worker (omega (arith, controllers, controller)) (omega (arith, workers, worker)) (sym c.is_free.ensures ∙ c.if-not-is_free.true)

pub returns-then-is_to_begin : goal.returns-then-is_to_begin
returns-then-is_to_begin c =
    let controllers = ap (λ (s : Shape). s.controllers) c.shape-shape.ensures in
    let workers = ap (λ (s : Shape). s.workers) c.shape-shape.ensures in
    let controller = c.if-controller-shape.false in
    let worker = c.if-worker-shape.false in
    let begins = c.is_to_begin.ensures.0 c.if-is_to_begin.true in
    worker-begins c.args.machine.now c.args.controller c.args.worker (omega (arith, controllers, controller)) (omega (arith, workers, worker)) (sym c.is_free.ensures ∙ c.if-not-is_free.false) begins.0 begins.1

pub returns-else-is_to_begin : goal.returns-else-is_to_begin
returns-else-is_to_begin c =
    let controllers = ap (λ (s : Shape). s.controllers) c.shape-shape.ensures in
    let workers = ap (λ (s : Shape). s.workers) c.shape-shape.ensures in
    let controller = c.if-controller-shape.false in
    let worker = c.if-worker-shape.false in
    worker-waits c.args.machine.now c.args.controller c.args.worker (omega (arith, controllers, controller))
    (omega (arith, workers, worker)) (sym c.is_free.ensures ∙ c.if-not-is_free.false)
    (λ begins. true≢false (sym (c.is_to_begin.ensures.1 begins) ∙ c.if-is_to_begin.false))
