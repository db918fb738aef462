use Rattle.std.proofs.Common.{subst}
use Rattle.jc_log.specs.Writes.{Stored}
use Rattle.jc_store.proofs.store.Store.log.Goals as goal

pub returns-clause-stored : goal.returns-clause-stored
returns-clause-stored c = subst Stored c.self.view_is c.self.invariant.stored
