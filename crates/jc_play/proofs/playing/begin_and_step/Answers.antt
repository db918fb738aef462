use Rattle.std.proofs.Common.{sym, ap, ◌∙◌}
use Rattle.std.specs.Prelude.{Err}
use Rattle.std.proofs.lemmas.Result.{err_from_is_err_and}
use Rattle.jc_machine.specs.declared.apply.ApplyFault.{ApplyFault}
use Rattle.jc_play.specs.Turns.{is_quiescent_seen}
use Rattle.jc_play.proofs.GoFacts.{grown-then, ok-err, room-left}
use Rattle.jc_play.proofs.PlayFacts.{begin-ends, begin-steps, begin-stops, came-grown, came-happened, on-ok-of, own-admits, own-grown}
use Rattle.jc_play.proofs.playing.begin_and_step.Goals as goal

pub begin_own-requires : goal.begin_own-requires
begin_own-requires c = own-admits c.args.machine.now c.args.event c.requires.own (c.requires.free (is_quiescent_seen c.args.machine.now))

pub returns-in_err-begun-clause-reaches : goal.returns-in_err-begun-clause-reaches
returns-in_err-begun-clause-reaches c =
    let p = err_from_is_err_and c.from_residual.result c.from_residual.ensures.1 in
    begin-stops c.args.machine.now c.args.event c.args.controller c.args.worker c.begin_own.new.machine
    c.from_residual.result c.in_err-begun.field-0.0 (cc (p.1, p.2)) c.in_err-begun.ensures.kept
    (λ h. c.in_err-begun.ensures.history_full (ap (λ (e : ApplyFault). Err e) h))

pub returns-then-begun-clause-reaches : goal.returns-then-begun-clause-reaches
returns-then-begun-clause-reaches c =
    begin-steps c.args.machine.now c.args.event c.args.controller c.args.worker c.begin_own.new.machine c.step_through.new.machine c.step_through.result c.in_ok-begun.ensures.ok (room-left _ _ (λ le. ok-err _ _ (c.in_ok-begun.ensures.full le)))
    (sym c.if-begun.true ∙ c.in_ok-begun.ensures.begun) c.step_through.ensures.reaches

pub returns-then-begun-clause-grown : goal.returns-then-begun-clause-grown
returns-then-begun-clause-grown c = grown-then c.args.machine.now c.begin_own.new.machine c.step_through.new.machine
    (own-grown c.args.machine.now c.begin_own.new.machine c.args.event c.requires.own c.in_ok-begun.ensures.ok)
    c.step_through.ensures.grown

pub returns-else-begun-clause-reaches : goal.returns-else-begun-clause-reaches
returns-else-begun-clause-reaches c =
    begin-ends c.args.machine.now c.args.event c.args.controller c.args.worker c.begin_own.new.machine c.in_ok-begun.ensures.ok (room-left _ _ (λ le. ok-err _ _ (c.in_ok-begun.ensures.full le)))
    (sym c.if-begun.false ∙ c.in_ok-begun.ensures.begun)

pub returns-else-begun-clause-grown : goal.returns-else-begun-clause-grown
returns-else-begun-clause-grown c = own-grown c.args.machine.now c.begin_own.new.machine c.args.event c.requires.own c.in_ok-begun.ensures.ok

pub returns-then-begun-clause-came : goal.returns-then-begun-clause-came
returns-then-begun-clause-came c = on-ok-of c.step_through.result _
    (came-grown c.args.event c.begin_own.new.machine c.step_through.new.machine
    (came-happened c.args.machine.now c.begin_own.new.machine c.args.event c.in_ok-begun.ensures.ok)
    c.step_through.ensures.grown)

pub returns-else-begun-clause-came : goal.returns-else-begun-clause-came
returns-else-begun-clause-came c = came-happened c.args.machine.now c.begin_own.new.machine c.args.event c.in_ok-begun.ensures.ok
