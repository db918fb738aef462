use Rattle.jc_manifest.proofs.Valid.{valid_after}
use Rattle.jc_manifest.proofs.laws.allowed_updates_stay_valid.Goals as goal

pub returns : goal.returns
returns c = valid_after
