use Rattle.std.proofs.Common.{◌∙◌}
use Rattle.jc_machine.proofs.Readings.{cache_read}
use Rattle.jc_machine.proofs.machine.Machine.cache_at.Goals as goal

pub returns : goal.returns
returns c = c.cache_at.ensures ∙ cache_read c.self.inside.script c.self.inside.shape c.self.inside.history.events.items
    c.self.inside.lanes c.self.inside.store c.self.inside.members.items c.self.inside.fates c.self.inside.clock
    c.args.self.now c.self.invariant c.self.view_is c.args.controller c.index.result.now c.requires c.index.ensures
    c.args.kind
