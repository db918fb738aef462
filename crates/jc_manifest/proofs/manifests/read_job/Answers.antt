use Rattle.jc_manifest.proofs.AcceptedFacts.{answer_is_valid}
use Rattle.jc_manifest.proofs.manifests.read_job.Goals as goal

pub returns-clause-valid : goal.returns-clause-valid
returns-clause-valid c = answer_is_valid _ _ _ c.read_manifest.ensures
