use Rattle.jc_reading.proofs.AgainSpec.{key_is_read, manifest_passes, spec_is_read}
use Rattle.jc_reading.proofs.laws.printed_specs_are_read_back.Goals as goal

pub returns-clause-accepted : goal.returns-clause-accepted
returns-clause-accepted c = manifest_passes

pub returns-clause-key : goal.returns-clause-key
returns-clause-key c = key_is_read

pub returns-clause-spec : goal.returns-clause-spec
returns-clause-spec c = spec_is_read
