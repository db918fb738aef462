-- The play is that of the whole script.
use Rattle.jc_single.proofs.WholeFacts.{whole_is}
use Rattle.jc_single.proofs.plays.play_whole.Goals as goal

pub returns-clause-play : goal.returns-clause-play
returns-clause-play c =
    whole_is c.args.script c.args.shape _ c.play_out.new.machine c.in_ok-full.full
    c.new_machines_play_the_whole_script.ensures.new c.in_ok-machine.ensures c.in_ok-full.ensures.play
