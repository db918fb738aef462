use Rattle.jc_types.proofs.EqualityFacts.{status-exact}
use Rattle.jc_types.proofs.ObjectEqualityFacts.{spec-exact, job-exact, pod-exact, backoff-exact}
use Rattle.jc_types.proofs.laws.tests_are_exact.Goals as goal

pub returns-clause-status : goal.returns-clause-status
returns-clause-status c = status-exact

pub returns-clause-spec : goal.returns-clause-spec
returns-clause-spec c = spec-exact

pub returns-clause-job : goal.returns-clause-job
returns-clause-job c = job-exact

pub returns-clause-pod : goal.returns-clause-pod
returns-clause-pod c = pod-exact

pub returns-clause-backoff : goal.returns-clause-backoff
returns-clause-backoff c = backoff-exact
