use Rattle.jc_gen.proofs.Fit.{two_for_each, spec_is_valid, keys_are_apart, some_end, few_ends}
use Rattle.jc_gen.proofs.laws.generated_scripts_are_fit.Goals as goal

pub returns-clause-length : goal.returns-clause-length
returns-clause-length c = two_for_each

pub returns-clause-valid : goal.returns-clause-valid
returns-clause-valid c = spec_is_valid

pub returns-clause-apart : goal.returns-clause-apart
returns-clause-apart c = keys_are_apart

pub returns-clause-some_ends : goal.returns-clause-some_ends
returns-clause-some_ends c = some_end

pub returns-clause-few_ends : goal.returns-clause-few_ends
returns-clause-few_ends c = few_ends
