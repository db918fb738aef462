use Rattle.std.proofs.Common.{sym, ◌∙◌}
use Rattle.jc_queue.proofs.KeySets.{is_in-set}
use Rattle.jc_queue.proofs.queue.is_in.Goals as goal

pub returns : goal.returns
returns c = c.contains.ensures ∙ sym (is_in-set c.args.key.now c.args.set.now.keys)
