use Rattle.jc_reading.proofs.AllowedWhole.{manifest_allowed, names_allowed}
use Rattle.jc_reading.proofs.laws.accepted_manifests_are_allowed.Goals as goal

pub returns-clause-spec : goal.returns-clause-spec
returns-clause-spec c = manifest_allowed

pub returns-clause-key : goal.returns-clause-key
returns-clause-key c = names_allowed
