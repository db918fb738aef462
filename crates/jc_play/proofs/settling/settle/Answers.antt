use Rattle.std.proofs.Common.{◌<◌, length, false, sym, ◌∙◌, subst}
use Rattle.std.proofs.lemmas.Result.{err_from_is_err_and}
use Rattle.jc_history.specs.Play.{settled_down}
use Rattle.jc_play.specs.Turns.{next_to_settle, Reaches, playing_of}
use Rattle.jc_play.proofs.GoFacts.{done-reaches, goes-on, has-no-room, less-room, ok-err, room-left, settles, started, stop-reaches}
use Rattle.jc_play.proofs.SystemFacts.{first-coming}
use Rattle.jc_play.proofs.settling.settle.Goals as goal
use Rattle.jc_play.proofs.settling.settle.Goals.{In_ok-happen}

-- There was room for the event.
had-room : (c : In_ok-happen) → length c.settling.machine.pasts < c.settling.machine.shape.events
had-room c = room-left _ _ (λ le. ok-err _ _ (c.in_ok-happen.ensures.full le))

pub settling-init : goal.settling-init
settling-init c = started next_to_settle c.args.machine.now

pub settling-preserved : goal.settling-preserved
settling-preserved c = goes-on next_to_settle c.args.machine.now c.settling.machine c.settling.invariant
    c.happen.new.self c.in-Some.event (sym c.next_event.ensures.first ∙ c.in-Some.is)
    (first-coming c.settling.machine c.in-Some.event (sym c.next_event.ensures.first ∙ c.in-Some.is)) (had-room c)
    c.in_ok-happen.ensures.ok

pub settling-smaller : goal.settling-smaller
settling-smaller c = less-room c.settling.machine c.happen.new.self c.in-Some.event c.in_ok-happen.ensures.ok (had-room c)

pub returns-in_err-happen-clause-reaches : goal.returns-in_err-happen-clause-reaches
unfolding settled_down
returns-in_err-happen-clause-reaches c =
    let p = err_from_is_err_and c.from_residual.result c.from_residual.ensures.1 in
    subst (Reaches c.from_residual.result (settled_down c.args.machine.now.script c.args.machine.now.shape (playing_of false c.args.machine.now))) (sym c.in_err-happen.ensures.kept)
    (stop-reaches c.from_residual.result c.in_err-happen.field-0.0 _ c.settling.machine (cc (p.1, p.2)) (λ h.
    (has-no-room next_to_settle c.args.machine.now c.settling.machine c.settling.invariant c.in-Some.event (sym c.next_event.ensures.first ∙ c.in-Some.is) (c.in_err-happen.ensures.history_full h), c.in_err-happen.ensures.history_full h)))

pub returns-clause-reaches : goal.returns-clause-reaches
unfolding settled_down
returns-clause-reaches c = done-reaches _ c.settling.machine (settles next_to_settle c.args.machine.now c.settling.machine c.settling.invariant (sym c.next_event.ensures.first ∙ c.in_default.is))
