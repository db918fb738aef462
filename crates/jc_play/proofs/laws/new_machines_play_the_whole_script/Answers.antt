use Rattle.jc_play.proofs.WholeFacts.{new-plays-nothing, new-plays-whole}
use Rattle.jc_play.proofs.laws.new_machines_play_the_whole_script.Goals as goal

pub returns : goal.returns
returns c = record { new = new-plays-nothing; whole = new-plays-whole }
