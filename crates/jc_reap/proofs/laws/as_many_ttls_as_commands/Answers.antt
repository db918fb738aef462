use Rattle.jc_reap.proofs.RefusedTtls.{of-script}
use Rattle.jc_reap.proofs.TtlReading.{as_many}
use Rattle.jc_reap.proofs.laws.as_many_ttls_as_commands.Goals as goal

pub returns-clause-many : goal.returns-clause-many
returns-clause-many c = as_many

pub returns-clause-refused : goal.returns-clause-refused
returns-clause-refused c = of-script
