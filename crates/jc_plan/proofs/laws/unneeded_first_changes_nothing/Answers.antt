-- The lemmas on a first status that is not written.
use Rattle.jc_plan.proofs.BackoffFacts.{backoff-unneeded, first-unneeded}
use Rattle.jc_plan.proofs.laws.unneeded_first_changes_nothing.Goals as goal

pub returns : goal.returns
returns c = record { status = first-unneeded; backoff = backoff-unneeded }
