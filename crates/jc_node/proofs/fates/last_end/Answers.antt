-- The last place has the last end.
use Rattle.std.proofs.Common.{◌∙◌}
use Rattle.jc_node.proofs.FateFacts.{last-placed}
use Rattle.jc_node.proofs.fates.last_end.Goals as goal

pub returns : goal.returns
returns c = c.last.ensures.value ∙ last-placed c.args.ends.now
