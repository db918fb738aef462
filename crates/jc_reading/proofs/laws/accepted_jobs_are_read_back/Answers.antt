use Rattle.std.proofs.Common.{[]}
use Rattle.jc_manifest.specs.Manifests.{key_of, spec_of}
use Rattle.jc_reading.proofs.AgainSpec.{key_is_read, manifest_passes, spec_is_read}
use Rattle.jc_reading.proofs.AllowedWhole.{manifest_allowed, names_allowed}
use Rattle.jc_reading.proofs.ToldFacts.{spec_read}
use Rattle.jc_reading.proofs.laws.accepted_jobs_are_read_back.Goals as goal

pub returns : goal.returns
returns c path job accepted text =
    let key = key_of path job in
    let spec = spec_of path job in
    let allowed = manifest_allowed path job accepted in
    record {
      reads = spec_read spec allowed text;
      accepted = manifest_passes [] key spec (names_allowed path job accepted) allowed;
      names = key_is_read [] key spec;
      says = spec_is_read [] key spec allowed;
    }
