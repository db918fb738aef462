use Rattle.std.proofs.Common.{sym, ◌∙◌}
use Rattle.jc_queue.proofs.KeySets.{is_in-set, set-taken, taken_is}
use Rattle.jc_queue.proofs.queue.take_from.Goals as goal

pub returns-clause-taken : goal.returns-clause-taken
returns-clause-taken c = taken_is c.args.key.now c.swap_take.result c.args.set.now.keys c.swap_take.ensures.key

pub returns-clause-found : goal.returns-clause-found
returns-clause-found c = c.swap_take.ensures.found ∙ sym (is_in-set c.args.key.now c.args.set.now.keys)

pub returns-clause-set : goal.returns-clause-set
returns-clause-set c = set-taken c.args.key.now c.args.set.now.keys c.swap_take.new.self.keys c.swap_take.ensures.updates.0
