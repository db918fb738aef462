use Rattle.std.proofs.Common.{◌<◌, length, false, sym, ◌∙◌, subst}
use Rattle.std.proofs.lemmas.Result.{err_from_is_err_and}
use Rattle.jc_types.specs.declared.runs.Shape.{Shape}
use Rattle.jc_history.specs.Play.{brought_up}
use Rattle.jc_play.specs.Turns.{next_to_bring, Reaches, playing_of}
use Rattle.jc_play.proofs.GoFacts.{done-reaches, goes-on, has-no-room, less-room, ok-err, room-left, settles, started, stop-reaches}
use Rattle.jc_play.proofs.SystemFacts.{coming-admits}
use Rattle.jc_play.proofs.bringing.bring_up.Goals as goal
use Rattle.jc_play.proofs.bringing.bring_up.Goals.{In_ok-happen}

-- There was room for the event.
had-room : (c : In_ok-happen) → length c.bringing.machine.pasts < c.bringing.machine.shape.events
had-room c = room-left _ _ (λ le. ok-err _ _ (c.in_ok-happen.ensures.full le))

pub bringing-init : goal.bringing-init
bringing-init c = started (next_to_bring c.args.controller c.args.kind) c.args.machine.now

pub bring_event-requires : goal.bring_event-requires
bring_event-requires c = subst (λ (shape : Shape). c.args.controller < shape.controllers) (sym c.bringing.invariant.kept.shape) c.requires

pub happen-requires : goal.happen-requires
happen-requires c = coming-admits c.bringing.machine c.in-Some.event c.in-Some.ensures.coming

pub bringing-preserved : goal.bringing-preserved
bringing-preserved c = goes-on (next_to_bring c.args.controller c.args.kind) c.args.machine.now c.bringing.machine
    c.bringing.invariant c.happen.new.self c.in-Some.event (sym c.bring_event.ensures.first ∙ c.in-Some.is)
    (c.in-Some.ensures.coming) (had-room c) c.in_ok-happen.ensures.ok

pub bringing-smaller : goal.bringing-smaller
bringing-smaller c = less-room c.bringing.machine c.happen.new.self c.in-Some.event c.in_ok-happen.ensures.ok (had-room c)

pub returns-in_err-happen-clause-reaches : goal.returns-in_err-happen-clause-reaches
unfolding brought_up
returns-in_err-happen-clause-reaches c =
    let p = err_from_is_err_and c.from_residual.result c.from_residual.ensures.1 in
    subst (Reaches c.from_residual.result (brought_up c.args.machine.now.script c.args.machine.now.shape c.args.controller c.args.kind (playing_of false c.args.machine.now))) (sym c.in_err-happen.ensures.kept)
    (stop-reaches c.from_residual.result c.in_err-happen.field-0.0 _ c.bringing.machine (cc (p.1, p.2)) (λ h. (
      has-no-room (next_to_bring c.args.controller c.args.kind) c.args.machine.now c.bringing.machine
          c.bringing.invariant c.in-Some.event (sym c.bring_event.ensures.first ∙ c.in-Some.is)
          (c.in_err-happen.ensures.history_full h),
      c.in_err-happen.ensures.history_full h,
    )))

pub returns-clause-reaches : goal.returns-clause-reaches
unfolding brought_up
returns-clause-reaches c = done-reaches _ c.bringing.machine (settles (next_to_bring c.args.controller c.args.kind) c.args.machine.now c.bringing.machine c.bringing.invariant (sym c.bring_event.ensures.first ∙ c.in_default.is))
