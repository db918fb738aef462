use Rattle.std.proofs.Common.{◌≡◌, true}
use Rattle.jc_reap.proofs.ReapedFacts.{reap_said, ttls_small}
use Rattle.jc_reap.proofs.laws.reaped_commands_can_be_said.Goals as goal

pub returns-clause-commands : goal.returns-clause-commands
returns-clause-commands c test = reap_said (λ key. test key ≡ true)

pub returns-clause-ttls : goal.returns-clause-ttls
returns-clause-ttls c = ttls_small
