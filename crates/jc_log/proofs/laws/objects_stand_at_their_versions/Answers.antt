-- The lemmas on places.
use Rattle.jc_log.proofs.PlaceFacts.{job_in-entry, job_in-stood, life-entry, life-stood, gone_stays}
use Rattle.jc_log.proofs.laws.objects_stand_at_their_versions.Goals as goal

pub returns : goal.returns
returns c = record {
  job = job_in-entry;
  job_stood = job_in-stood;
  pod = life-entry;
  pod_stood = life-stood;
  gone = gone_stays;
}
