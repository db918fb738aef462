use Rattle.jc_play.proofs.WholeFacts.{place-came}
use Rattle.jc_play.proofs.whole.play_place.Goals as goal

pub returns-clause-played : goal.returns-clause-played
returns-clause-played c = place-came c.args.machine.now c.play_own.new.machine c.in-Some.own.event c.args.place c.play_own.result c.in-Some.ensures.place c.requires.before c.play_own.ensures.grown c.play_own.ensures.came
