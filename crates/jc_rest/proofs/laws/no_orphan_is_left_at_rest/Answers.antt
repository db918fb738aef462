-- No orphan is left at rest.
use Rattle.jc_rest.proofs.OrphanFacts.{orphan-released}
use Rattle.jc_rest.proofs.laws.no_orphan_is_left_at_rest.Goals as goal

pub returns : goal.returns
returns c = λ shape deeds over valid i within pod lives gone sure.
    orphan-released c.allowed_updates_stay_valid.ensures shape deeds over.legal valid over.working over.quiet i within pod lives gone sure
