use Rattle.std.proofs.Common.{false, ap, sym, subst, ◌<◌}
use Rattle.std.proofs.lemmas.Result.{err_from_is_err_and}
use Rattle.jc_types.specs.declared.objects.Kind.TheVariants.{Jobs, Pods}
use Rattle.jc_types.specs.declared.runs.Shape.{Shape}
use Rattle.jc_history.specs.Play.{after_begin, brought_up, event_played}
use Rattle.jc_play.specs.Turns.{playing_of}
use Rattle.jc_play.proofs.GoFacts.{grown-then, stopped}
use Rattle.jc_play.proofs.PlayFacts.{event-full, no-rest-later}
use Rattle.jc_play.proofs.playing.play_sync.Goals as goal

pub returns-in_err-bring_both-clause-reaches : goal.returns-in_err-bring_both-clause-reaches
returns-in_err-bring_both-clause-reaches c =
    let p = err_from_is_err_and c.from_residual.result c.from_residual.ensures.1 in
    stopped c.from_residual.result c.in_err-bring_both.field-0.0
    (brought_up c.args.machine.now.script c.args.machine.now.shape c.args.controller Pods
    (brought_up c.args.machine.now.script c.args.machine.now.shape c.args.controller Jobs
    (playing_of false c.args.machine.now))) c.bring_both.new.machine
    (λ q. after_begin c.args.machine.now.script c.args.machine.now.shape c.args.controller c.args.worker (event_played c.args.machine.now.script c.args.machine.now.shape c.args.event q)) (cc (p.1, p.2)) c.in_err-bring_both.ensures.reaches
    (λ le. ap (after_begin c.args.machine.now.script c.args.machine.now.shape c.args.controller c.args.worker) (event-full c.args.machine.now c.bring_both.new.machine c.bring_both.ensures.grown.shape c.args.event le))

pub begin_and_step-requires : goal.begin_and_step-requires
begin_and_step-requires c = record {
  of_shape = subst (λ (shape : Shape). c.args.controller < shape.controllers) (sym c.bring_both.ensures.grown.shape) c.requires.of_shape;
  worker = subst (λ (shape : Shape). c.args.worker < shape.workers) (sym c.bring_both.ensures.grown.shape) c.requires.worker;
  own = c.bring_both.ensures.own c.args.event c.requires.own;
  free = no-rest-later c.args.machine.now c.bring_both.new.machine c.args.event c.bring_both.ensures.grown.script c.requires.free;
}

pub returns-clause-grown : goal.returns-clause-grown
returns-clause-grown c = grown-then c.args.machine.now c.bring_both.new.machine c.begin_and_step.new.machine c.bring_both.ensures.grown c.begin_and_step.ensures.grown
