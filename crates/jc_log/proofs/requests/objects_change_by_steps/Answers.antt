-- The lemmas on what was put and on steps.
use Rattle.jc_log.proofs.HasJobFacts.{job_in-was_put}
use Rattle.jc_log.proofs.LastingFacts.{job_step_to, step_to}
use Rattle.jc_log.proofs.requests.objects_change_by_steps.Goals as goal

pub returns : goal.returns
returns c = record {
  put = job_in-was_put;
  job = job_step_to;
  pod = step_to;
}
