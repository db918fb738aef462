use Rattle.std.proofs.Common.{◌+◌, refl}
use Rattle.jc_types.specs.declared.replies.Reply.TheVariants as reply
use Rattle.jc_log.specs.Acts as does
use Rattle.jc_runs.proofs.ClockFacts.{clock_ends, clock_goes, end_run, tick_at}
use Rattle.jc_machine.specs.MachineKept.{fates_in}
use Rattle.jc_machine.proofs.Closing.{After, Before, acts, before, closes, past}
use Rattle.jc_machine.proofs.Texts.{text_of}
use Rattle.jc_machine.proofs.machine.Machine.clock.Goals as goal
use Rattle.jc_machine.proofs.machine.Machine.clock.Goals.{After-record-text, After-record-text-in-Some}

-- At the last moment.
old_end : (c : After-record-text) → Before c.self.inside.script c.self.inside.shape c.self.inside.history.events.items
    c.self.inside.lanes c.self.inside.store c.self.inside.members.items c.self.inside.fates c.self.inside.clock
    c.args.self.now c.args.event (does.Clock c.args.add)
old_end c = before c.self.inside.script c.self.inside.shape c.self.inside.history.events.items c.self.inside.lanes
    c.self.inside.store c.self.inside.members.items c.self.inside.fates c.self.inside.clock c.args.self.now c.args.event
    (does.Clock c.args.add) c.self.invariant c.self.view_is c.requires.admits c.requires.acts c.requires.unfull

end : (c : After-record-text) → After c.self.inside.script c.self.inside.shape c.record-text.new.history.items
    c.record-text.new.lanes c.self.inside.store c.self.inside.members.items c.self.inside.fates c.self.inside.clock
    c.args.self.now c.args.event reply.ClockEnd
end c =
    closes (old_end c) _ _ _ _ _ _ _ _ _ c.record-text.ensures.kept c.in_ok-reserve.ensures.kept c.record-text.ensures.lanes
    (end_run c.self.inside.shape (past (old_end c)) c.self.inside.store c.self.inside.members.items
    (fates_in c.self.inside.fates) c.self.inside.clock c.self.invariant.machine.run _ c.args.add (acts (old_end c))
    c.log_len-length.ensures refl (clock_ends (c.self.inside.clock + c.args.add) c.plus.result c.plus.ensures
    c.in-None.is))

pub invariant_of-self-in-None : goal.invariant_of-self-in-None
invariant_of-self-in-None c = (end c).kept

pub returns-in-None : goal.returns-in-None
returns-in-None c = ((end c).view, text_of c.record-text.result (end c).told c.record-text.ensures.text)

-- Before it.
old_tick : (c : After-record-text-in-Some)
    → Before c.self.inside.script c.self.inside.shape c.self.inside.history.events.items c.self.inside.lanes
    c.self.inside.store c.self.inside.members.items c.self.inside.fates c.self.inside.clock c.args.self.now c.args.event
    (does.Clock c.args.add)
old_tick c = before c.self.inside.script c.self.inside.shape c.self.inside.history.events.items c.self.inside.lanes
    c.self.inside.store c.self.inside.members.items c.self.inside.fates c.self.inside.clock c.args.self.now c.args.event
    (does.Clock c.args.add) c.self.invariant c.self.view_is c.requires.admits c.requires.acts c.requires.unfull

tick : (c : After-record-text-in-Some) → After c.self.inside.script c.self.inside.shape
    c.record-text-in-Some.new.history.items c.record-text-in-Some.new.lanes c.self.inside.store
    c.clock_all.new.members.items c.self.inside.fates c.in-Some.moment c.args.self.now c.args.event
    (reply.Now c.in-Some.moment)
tick c =
    let is = clock_goes (c.self.inside.clock + c.args.add) c.plus.result c.in-Some.moment c.plus.ensures c.in-Some.is in
    closes (old_tick c) _ _ _ _ _ _ _ _ _ c.record-text-in-Some.ensures.kept c.in_ok-reserve.ensures.kept c.record-text-in-Some.ensures.lanes
    (tick_at c.self.inside.shape (past (old_tick c)) c.self.inside.store c.self.inside.members.items
    (fates_in c.self.inside.fates) c.self.inside.clock c.self.invariant.machine.run _ c.args.add (acts (old_tick c))
    c.log_len-length.ensures c.in-Some.moment c.clock_all.new.members.items is.0 refl is.1 c.clock_all.ensures)

pub invariant_of-self-in-Some : goal.invariant_of-self-in-Some
invariant_of-self-in-Some c = (tick c).kept

pub returns-in-Some : goal.returns-in-Some
returns-in-Some c = ((tick c).view, text_of c.record-text-in-Some.result (tick c).told c.record-text-in-Some.ensures.text)
