use Rattle.jc_sync.proofs.ConflictFacts.{conflict_later, status_changes}
use Rattle.jc_sync.proofs.laws.conflicts_are_later.Goals as goal

pub returns : goal.returns
returns c = record { later = conflict_later; changes = status_changes }
