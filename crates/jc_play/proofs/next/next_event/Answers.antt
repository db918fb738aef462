use Rattle.jc_play.proofs.SystemFacts.{found-admits}
use Rattle.jc_play.proofs.next.next_event.Goals as goal

pub returns-clause-admits : goal.returns-clause-admits
returns-clause-admits c = found-admits _ _ c.first_available.ensures
