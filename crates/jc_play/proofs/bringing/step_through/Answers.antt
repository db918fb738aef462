use Rattle.std.proofs.Common.{◌<◌, length, false, sym, ◌∙◌, subst}
use Rattle.std.proofs.lemmas.Result.{err_from_is_err_and}
use Rattle.jc_types.specs.declared.runs.Shape.{Shape}
use Rattle.jc_history.specs.Play.{stepped_through}
use Rattle.jc_play.specs.Turns.{next_to_step, Reaches, playing_of}
use Rattle.jc_play.proofs.GoFacts.{done-reaches, goes-on, has-no-room, less-room, ok-err, room-left, settles, started, stop-reaches}
use Rattle.jc_play.proofs.SystemFacts.{coming-admits}
use Rattle.jc_play.proofs.bringing.step_through.Goals as goal
use Rattle.jc_play.proofs.bringing.step_through.Goals.{In_ok-happen}

-- There was room for the event.
had-room : (c : In_ok-happen) → length c.stepping.machine.pasts < c.stepping.machine.shape.events
had-room c = room-left _ _ (λ le. ok-err _ _ (c.in_ok-happen.ensures.full le))

pub stepping-init : goal.stepping-init
stepping-init c = started (next_to_step c.args.controller c.args.worker) c.args.machine.now

pub step_event-requires : goal.step_event-requires
step_event-requires c = record {
  of_shape = subst (λ (shape : Shape). c.args.controller < shape.controllers) (sym c.stepping.invariant.kept.shape) c.requires.of_shape;
  worker = subst (λ (shape : Shape). c.args.worker < shape.workers) (sym c.stepping.invariant.kept.shape) c.requires.worker;
}

pub happen-requires : goal.happen-requires
happen-requires c = coming-admits c.stepping.machine c.in-Some.event c.in-Some.ensures.coming

pub stepping-preserved : goal.stepping-preserved
stepping-preserved c = goes-on (next_to_step c.args.controller c.args.worker) c.args.machine.now c.stepping.machine
    c.stepping.invariant c.happen.new.self c.in-Some.event (sym c.step_event.ensures.first ∙ c.in-Some.is)
    (c.in-Some.ensures.coming) (had-room c) c.in_ok-happen.ensures.ok

pub stepping-smaller : goal.stepping-smaller
stepping-smaller c = less-room c.stepping.machine c.happen.new.self c.in-Some.event c.in_ok-happen.ensures.ok (had-room c)

pub returns-in_err-happen-clause-reaches : goal.returns-in_err-happen-clause-reaches
unfolding stepped_through
returns-in_err-happen-clause-reaches c =
    let p = err_from_is_err_and c.from_residual.result c.from_residual.ensures.1 in
    subst (Reaches c.from_residual.result (stepped_through c.args.machine.now.script c.args.machine.now.shape c.args.controller c.args.worker (playing_of false c.args.machine.now))) (sym c.in_err-happen.ensures.kept)
    (stop-reaches c.from_residual.result c.in_err-happen.field-0.0 _ c.stepping.machine (cc (p.1, p.2)) (λ h. (
      has-no-room (next_to_step c.args.controller c.args.worker) c.args.machine.now c.stepping.machine
          c.stepping.invariant c.in-Some.event (sym c.step_event.ensures.first ∙ c.in-Some.is)
          (c.in_err-happen.ensures.history_full h),
      c.in_err-happen.ensures.history_full h,
    )))

pub returns-clause-reaches : goal.returns-clause-reaches
unfolding stepped_through
returns-clause-reaches c = done-reaches _ c.stepping.machine (settles (next_to_step c.args.controller c.args.worker) c.args.machine.now c.stepping.machine c.stepping.invariant (sym c.step_event.ensures.first ∙ c.in_default.is))
