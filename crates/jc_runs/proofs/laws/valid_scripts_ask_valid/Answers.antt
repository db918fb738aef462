-- What the histories of a script create.
use Rattle.jc_runs.proofs.ScriptFacts.{asks_valid}
use Rattle.jc_runs.proofs.laws.valid_scripts_ask_valid.Goals as goal

pub returns : goal.returns
returns c = asks_valid
