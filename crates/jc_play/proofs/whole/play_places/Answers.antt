use Rattle.std.proofs.lemmas.Result.{err_from_is_err_and}
use Rattle.jc_play.proofs.GoFacts.{grown-then}
use Rattle.jc_play.proofs.WholeFacts.{next-place, place-stops}
use Rattle.jc_play.proofs.whole.play_places.Goals as goal

pub returns-in_err-play_place-clause-reaches : goal.returns-in_err-play_place-clause-reaches
returns-in_err-play_place-clause-reaches c =
    let p = err_from_is_err_and c.from_residual.result c.from_residual.ensures.1 in
    place-stops c.args.machine.now c.loop-place.machine c.loop-place.place c.loop-place.invariant c.from_residual.result c.in_err-play_place.field-0.0 c.play_place.new.machine (cc (p.1, p.2)) c.in_err-play_place.ensures.reaches

pub returns-in_err-play_place-clause-grown : goal.returns-in_err-play_place-clause-grown
returns-in_err-play_place-clause-grown c = grown-then c.args.machine.now c.loop-place.machine c.play_place.new.machine c.loop-place.invariant.grown c.play_place.ensures.grown

pub loop-place-preserved : goal.loop-place-preserved
loop-place-preserved c = next-place c.args.machine.now c.loop-place.machine c.loop-place.place c.loop-place.invariant c.play_place.new.machine c.play_place.ensures.grown c.in_ok-play_place.ensures.played c.in_ok-play_place.ensures.reaches.done
