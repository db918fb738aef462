-- The lemmas on decisions.
use Rattle.jc_finish.proofs.DecisionFacts.{decided_once, decided_target, failing_pod, failure_decides, found_by_pod}
use Rattle.jc_finish.proofs.laws.ends_are_decided_once.Goals as goal

pub returns : goal.returns
returns c = record { once = decided_once; target = decided_target; found = found_by_pod; failing = failing_pod; fail_job = failure_decides }
