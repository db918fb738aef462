use Rattle.jc_reading.proofs.ProperScripts.{job_proper}
use Rattle.jc_reading.proofs.laws.accepted_jobs_are_proper.Goals as goal

pub returns : goal.returns
returns c = job_proper
