use Rattle.std.proofs.Common.{not, sym, ap, ◌∙◌}
use Rattle.jc_queue.proofs.KeySets.{is_in-set, set-put}
use Rattle.jc_queue.proofs.queue.put_in.Goals as goal

pub returns-clause-new : goal.returns-clause-new
returns-clause-new c = c.in-Ok.ensures.added ∙ ap not (sym (is_in-set c.args.key c.args.set.now.keys))

pub returns-clause-set : goal.returns-clause-set
returns-clause-set c = set-put c.args.key c.args.set.now.keys c.insert.new.self.keys c.in-Ok.ensures.updates.0
