-- The failures of keys.
use Rattle.jc_runs.proofs.BackoffFacts.{failures_dated, failures_small}
use Rattle.jc_runs.proofs.laws.failures_stay_small.Goals as goal

pub returns : goal.returns
returns c = record { few_failures = failures_small; dated = failures_dated }
