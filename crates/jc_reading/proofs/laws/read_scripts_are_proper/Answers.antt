use Rattle.jc_reading.proofs.ProperScripts.{script_proper}
use Rattle.jc_reading.proofs.laws.read_scripts_are_proper.Goals as goal

pub returns : goal.returns
returns c shape text commands some few others less said = script_proper shape few less some others text commands said
