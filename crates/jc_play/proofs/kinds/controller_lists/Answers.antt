use Rattle.jc_play.proofs.KindFacts.{either-first}
use Rattle.jc_play.proofs.kinds.controller_lists.Goals as goal

pub returns : goal.returns
returns c = either-first _ _ _ _ _ c.list_of-jobs.ensures c.list_of-pods.ensures c.first_of.ensures
