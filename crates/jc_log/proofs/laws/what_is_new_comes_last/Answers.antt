-- The lemmas on what is new.
use Rattle.std.proofs.Common.{ap}
use Rattle.jc_log.proofs.JobFacts.{jobs_in-rise, new_pod-last}
use Rattle.jc_log.proofs.laws.what_is_new_comes_last.Goals as goal

pub returns : goal.returns
returns c = record {
  jobs = jobs_in-rise;
  pod = λ log pod all new. new_pod-last log pod all (ap (λ u. u.0) new);
}
