-- The lemmas on a whole sync.
use Rattle.jc_bearing.proofs.WholeFacts.{runs-whole}
use Rattle.jc_bearing.proofs.laws.whole_syncs_do_what_they_plan.Goals as goal

pub returns : goal.returns
returns c = λ shape past k w basis begin some legal valid calm begins fine. runs-whole c.allowed_updates_stay_valid.ensures shape some past legal valid calm k w basis begin begins fine
