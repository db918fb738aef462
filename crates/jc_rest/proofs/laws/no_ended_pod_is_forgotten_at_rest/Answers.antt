-- No ended pod is forgotten at rest.
use Rattle.jc_rest.proofs.HistoryFacts.{none-forgotten}
use Rattle.jc_rest.proofs.laws.no_ended_pod_is_forgotten_at_rest.Goals as goal

pub returns : goal.returns
returns c = λ shape deeds over valid some k job its.
    none-forgotten c.allowed_updates_stay_valid.ensures shape deeds over.legal valid some over.working over.quiet k job its
