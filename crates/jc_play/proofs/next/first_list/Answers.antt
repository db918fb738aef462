use Rattle.std.proofs.Common.{ap, sym, ◌∙◌, arith, below_more}
use Rattle.jc_types.specs.declared.runs.Shape.{Shape}
use Rattle.jc_machine.specs.DiariesSeen.{diary_seen}
use Rattle.jc_history.specs.Available.{list_events}
use Rattle.jc_play.proofs.FirstFacts.{first-found, first-none}
use Rattle.jc_play.proofs.next.first_list.Goals as goal

pub returns-in-Some : goal.returns-in-Some
returns-in-Some c =
    let same = ap (λ (s : Shape). s.controllers) c.shape.ensures in
    let test = c.loop-controller-test.true in
    sym (first-found (λ k. list_events (diary_seen c.args.machine.now k) k) c.args.machine.now.shape.controllers
    c.loop-controller.controller c.in-Some.event (omega (arith, same, test)) c.loop-controller.invariant
    (sym c.controller_lists.ensures ∙ c.in-Some.is))

pub loop-controller-preserved : goal.loop-controller-preserved
loop-controller-preserved c = below_more _ _ c.loop-controller.invariant (sym c.controller_lists.ensures ∙ c.in_default.is)

pub returns : goal.returns
returns c =
    let same = ap (λ (s : Shape). s.controllers) c.shape.ensures in
    let test = c.loop-controller-test.false in
    sym (first-none (λ k. list_events (diary_seen c.args.machine.now k) k) c.args.machine.now.shape.controllers (λ k lt. c.loop-controller.invariant k (omega (arith, same, test, lt))))
