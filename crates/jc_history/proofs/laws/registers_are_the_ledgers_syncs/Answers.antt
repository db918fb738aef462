use Rattle.jc_history.proofs.ActFacts.{register-sync}
use Rattle.jc_history.proofs.RequestFacts.{made-steps}
use Rattle.jc_history.proofs.laws.registers_are_the_ledgers_syncs.Goals as goal

pub returns : goal.returns
returns c = record {
  sync = λ p. register-sync p.shape p.controller p.worker p.deeds p.log;
  made = λ p. made-steps p.shape p.controller p.worker p.deeds p.log;
}
