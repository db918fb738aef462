use Rattle.jc_play.proofs.PlayFacts.{plain-came, plain-grown, plain-reaches}
use Rattle.jc_play.proofs.playing.play_plain.Goals as goal

pub returns-clause-reaches : goal.returns-clause-reaches
returns-clause-reaches c = plain-reaches c.args.machine.now c.happen.new.self c.args.event c.happen.result c.happen.ensures.ok c.happen.ensures.kept c.happen.ensures.full c.happen.ensures.history_full

pub returns-clause-grown : goal.returns-clause-grown
returns-clause-grown c = plain-grown c.args.machine.now c.happen.new.self c.args.event c.happen.result c.requires.own c.happen.ensures.ok c.happen.ensures.kept

pub returns-clause-came : goal.returns-clause-came
returns-clause-came c = plain-came c.args.machine.now c.happen.new.self c.args.event c.happen.result c.happen.ensures.ok
