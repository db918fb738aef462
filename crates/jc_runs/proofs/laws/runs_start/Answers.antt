-- The start of a run.
use Rattle.jc_runs.proofs.StartFacts.{run_start}
use Rattle.jc_runs.proofs.laws.runs_start.Goals as goal

pub returns : goal.returns
returns c = run_start
