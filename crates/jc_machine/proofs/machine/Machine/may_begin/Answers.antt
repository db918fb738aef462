use Rattle.std.proofs.Common.{◌∙◌}
use Rattle.jc_machine.proofs.Readings.{begin_read, begin_read_at_end}
use Rattle.jc_machine.proofs.machine.Machine.may_begin.Goals as goal

pub returns-then-is_at : goal.returns-then-is_at
returns-then-is_at c =
    let there = c.is_at.ensures.0 c.if-is_at.true in
    begin_read_at_end c.self.inside.script c.self.inside.shape c.self.inside.history.events.items
    c.self.inside.lanes c.self.inside.store c.self.inside.members.items c.self.inside.fates c.self.inside.clock
    c.args.self.now c.self.invariant c.self.view_is c.args.controller c.index-member.result.now c.requires
    c.index-member.ensures _ c.log_len.result c.log_len.ensures there.0 there.1 c.has_key.ensures

pub returns-else-is_at : goal.returns-else-is_at
returns-else-is_at c = c.may_begin.ensures ∙ begin_read c.self.inside.script c.self.inside.shape
    c.self.inside.history.events.items c.self.inside.lanes c.self.inside.store c.self.inside.members.items
    c.self.inside.fates c.self.inside.clock c.args.self.now c.self.invariant c.self.view_is c.args.controller
    c.index-member.result.now c.requires c.index-member.ensures
