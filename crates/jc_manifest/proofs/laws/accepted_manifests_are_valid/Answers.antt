use Rattle.jc_manifest.proofs.AcceptedFacts.{accepted_is_valid}
use Rattle.jc_manifest.proofs.laws.accepted_manifests_are_valid.Goals as goal

pub returns : goal.returns
returns c = accepted_is_valid
