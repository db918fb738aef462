-- An allowed specification is valid.
use Rattle.std.proofs.Common.{[], subst}
use Rattle.jc_manifest.proofs.AcceptedFacts.{accepted_is_valid}
use Rattle.jc_print.specs.PrintedSpecs.{spec_data}
use Rattle.jc_types.specs.ValidSpecs.{IsValidSpec}
use Rattle.jc_types.specs.declared.objects.KeyNames.{KeyNames as Key}
use Rattle.jc_types.specs.declared.specifications.JobSpec.{JobSpec}
use Rattle.jc_reading.specs.Allowed.{IsAllowedKey, IsAllowedSpec}
use Rattle.jc_reading.specs.Manifested.{manifest_data}
use Rattle.jc_reading.proofs.AgainSpec.{manifest_passes, spec_is_read}

pub spec_valid : (key : Key) (spec : JobSpec) → IsAllowedKey key → IsAllowedSpec spec → IsValidSpec spec
spec_valid key spec name allowed =
    subst IsValidSpec (spec_is_read [] key spec allowed)
    (accepted_is_valid [] (manifest_data key (spec_data spec)) (manifest_passes [] key spec name allowed))
