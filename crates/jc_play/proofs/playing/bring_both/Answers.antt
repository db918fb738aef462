use Rattle.std.proofs.lemmas.Result.{err_from_is_err_and}
use Rattle.jc_types.specs.declared.objects.Kind.TheVariants.{Jobs, Pods}
use Rattle.jc_history.specs.Play.{brought_up}
use Rattle.jc_play.specs.Turns.{playing_of}
use Rattle.std.proofs.Common.{false}
use Rattle.jc_play.proofs.GoFacts.{grown-then, stopped}
use Rattle.jc_play.proofs.PlayFacts.{up-full}
use Rattle.jc_play.proofs.playing.bring_both.Goals as goal

pub returns-in_err-bring_up-clause-reaches : goal.returns-in_err-bring_up-clause-reaches
returns-in_err-bring_up-clause-reaches c =
    let p = err_from_is_err_and c.from_residual.result c.from_residual.ensures.1 in
    stopped c.from_residual.result c.in_err-bring_up.field-0.0
    (brought_up c.args.machine.now.script c.args.machine.now.shape c.args.controller Jobs
    (playing_of false c.args.machine.now)) c.bring_up.new.machine
    (brought_up c.args.machine.now.script c.args.machine.now.shape c.args.controller Pods) (cc (p.1, p.2))
    c.in_err-bring_up.ensures.reaches
    (λ le. up-full c.args.machine.now c.bring_up.new.machine c.bring_up.ensures.grown.shape c.args.controller Pods)

pub returns-clause-grown : goal.returns-clause-grown
returns-clause-grown c = grown-then c.args.machine.now c.bring_up.new.machine c.bring_up-2.new.machine c.bring_up.ensures.grown c.bring_up-2.ensures.grown
