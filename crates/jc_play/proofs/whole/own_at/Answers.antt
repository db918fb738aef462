use Rattle.std.proofs.Common.{◌∙◌, ap, false, slice_get, subst, sym}
use Rattle.jc_types.specs.declared.actions.Script.{Script}
use Rattle.jc_types.specs.declared.runs.Event.TheVariants.{Command}
use Rattle.jc_history.specs.Legal.{next_command}
use Rattle.jc_play.specs.Turns.{IsOwn, playing_of}
use Rattle.jc_play.specs.Ways.{FitsWay, by_way}
use Rattle.jc_play.proofs.WholeFacts.{none-next, not-yet, other-next, own-fits, own-is, plays-it, that-next, was-played}
use Rattle.jc_play.proofs.whole.own_at.Goals as goal

pub returns-in_err-number-clause-none : goal.returns-in_err-number-clause-none
returns-in_err-number-clause-none c = λ none.
    was-played c.args.machine.now.script.commands c.args.machine.now.pasts c.history-history.ensures.lanes c.args.place c.command_at-command.result.now
    (ap (λ (script : Script). slice_get script.commands c.args.place) (sym c.script.ensures) ∙ c.command_at-command.ensures) c.requires.before
    (none-next c.next_command.result (next_command c.args.machine.now.script.commands c.command_at-command.result.now.lane c.args.machine.now.pasts) c.args.place c.next_command.ensures c.in_err-number.was)

pub returns-then-number-place-clause-none : goal.returns-then-number-place-clause-none
returns-then-number-place-clause-none c = λ none.
    was-played c.args.machine.now.script.commands c.args.machine.now.pasts c.history-history.ensures.lanes c.args.place c.command_at-command.result.now
    (ap (λ (script : Script). slice_get script.commands c.args.place) (sym c.script.ensures) ∙ c.command_at-command.ensures) c.requires.before
    (other-next c.next_command.result (next_command c.args.machine.now.script.commands c.command_at-command.result.now.lane c.args.machine.now.pasts) c.in_ok-number.number c.args.place c.next_command.ensures c.in_ok-number.was c.if-number-place.true)

pub returns-clause-own : goal.returns-clause-own
returns-clause-own c =
    let same = c.if-number-place.false in
    subst (λ n. IsOwn c.args.machine.now (Command c.command_at-command.result.now.lane n)) (sym same)
    (own-is c.args.machine.now c.args.place c.command_at-command.result.now (ap (λ (script : Script). slice_get script.commands c.args.place) (sym c.script.ensures) ∙ c.command_at-command.ensures) c.requires.fits_shape
    (that-next c.next_command.result (next_command c.args.machine.now.script.commands c.command_at-command.result.now.lane c.args.machine.now.pasts) c.in_ok-number.number c.args.place c.next_command.ensures c.in_ok-number.was same))

pub returns-clause-fits : goal.returns-clause-fits
returns-clause-fits c =
    let same = c.if-number-place.false in
    subst (λ n. FitsWay c.way_of.result c.args.machine.now (Command c.command_at-command.result.now.lane n)) (sym same)
    (subst (λ way. FitsWay way c.args.machine.now (Command c.command_at-command.result.now.lane c.args.place)) (sym c.way_of.ensures)
    (own-fits c.args.machine.now c.args.place c.command_at-command.result.now (ap (λ (script : Script). slice_get script.commands c.args.place) (sym c.script.ensures) ∙ c.command_at-command.ensures) c.requires.fits_shape))

pub returns-clause-play : goal.returns-clause-play
returns-clause-play c =
    let same = c.if-number-place.false in
    plays-it c.args.machine.now c.args.place c.command_at-command.result.now (ap (λ (script : Script). slice_get script.commands c.args.place) (sym c.script.ensures) ∙ c.command_at-command.ensures)
    (not-yet c.args.machine.now.script.commands c.args.machine.now.pasts c.history-history.ensures.lanes c.command_at-command.result.now.lane c.args.place
    (that-next c.next_command.result (next_command c.args.machine.now.script.commands c.command_at-command.result.now.lane c.args.machine.now.pasts) c.in_ok-number.number c.args.place c.next_command.ensures c.in_ok-number.was same))
    ∙ ap (λ way. by_way way c.args.machine.now.script c.args.machine.now.shape (Command c.command_at-command.result.now.lane c.args.place) (playing_of false c.args.machine.now)) (sym c.way_of.ensures)
    ∙ ap (λ n. by_way c.way_of.result c.args.machine.now.script c.args.machine.now.shape (Command c.command_at-command.result.now.lane n) (playing_of false c.args.machine.now)) (sym same)
