-- The lemmas on the failures in a row.
use Rattle.jc_manage.proofs.Failures.{backoff-left, failures-few, failures-last}
use Rattle.jc_manage.proofs.laws.failures_are_bounded.Goals as goal

pub returns : goal.returns
returns c = record {
  failures = failures-few;
  last = failures-last;
  left = backoff-left;
}
