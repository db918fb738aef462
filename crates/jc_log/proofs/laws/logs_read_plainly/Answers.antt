-- The lemmas on the words.
use Rattle.jc_log.proofs.LogFacts.{newest_first, entry_at-reverse}
use Rattle.jc_log.proofs.ObjectFacts.{job_in-plain, pod_in-plain, jobs_in-at}
use Rattle.jc_log.proofs.laws.logs_read_plainly.Goals as goal

pub returns : goal.returns
returns c = record {
  appended = newest_first;
  job = job_in-plain;
  pod = pod_in-plain;
  entry = entry_at-reverse;
  table = jobs_in-at;
}
