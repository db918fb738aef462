use Rattle.jc_gen.proofs.Commands.{each_is_generated, each_is_valid}
use Rattle.jc_gen.proofs.laws.generated_commands_are_valid.Goals as goal

pub returns-clause-each : goal.returns-clause-each
returns-clause-each c = each_is_generated

pub returns-clause-valid : goal.returns-clause-valid
returns-clause-valid c = each_is_valid
