-- No Job is stuck at rest.
use Rattle.jc_rest.proofs.StuckFacts.{not-stuck}
use Rattle.jc_rest.proofs.laws.no_job_is_stuck_at_rest.Goals as goal

pub returns : goal.returns
returns c = λ shape deeds over valid i within k job there sure.
    not-stuck c.allowed_updates_stay_valid.ensures shape deeds over.legal valid over.working over.quiet i within k job there sure
