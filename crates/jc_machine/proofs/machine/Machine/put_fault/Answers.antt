use Rattle.std.proofs.Common.{set, refl}
use Rattle.jc_log.specs.Acts as does
use Rattle.jc_runs.proofs.EventFacts.{fault_run}
use Rattle.jc_types.specs.declared.replies.Reply.TheVariants as reply
use Rattle.jc_machine.specs.MachineKept.{fates_in}
use Rattle.jc_machine.proofs.Closing.{After, Before, acts, before, closes, faulty, member, past, within}
use Rattle.jc_machine.proofs.Texts.{text_of}
use Rattle.jc_machine.proofs.machine.Machine.put_fault.Goals as goal
use Rattle.jc_machine.proofs.machine.Machine.put_fault.Goals.{After-record-text}

pub put_fault-requires : goal.put_fault-requires
put_fault-requires c = let b = before c.self.inside.script c.self.inside.shape c.self.inside.history.events.items
    c.self.inside.lanes c.self.inside.store c.self.inside.members.items c.self.inside.fates c.self.inside.clock
    c.args.self.now c.args.event (does.PutFault c.args.controller c.args.worker c.args.fault) c.self.invariant
    c.self.view_is c.requires.admits c.requires.acts c.requires.unfull in let there = member b c.args.controller
    c.index_mut-member.result.now (within b).0 c.index_mut-member.ensures.value in faulty b c.args.controller
    c.args.worker c.index_mut-member.result.now there (within b).1

-- How it is before.
old : (c : After-record-text) → Before c.self.inside.script c.self.inside.shape c.self.inside.history.events.items
    c.self.inside.lanes c.self.inside.store c.self.inside.members.items c.self.inside.fates c.self.inside.clock
    c.args.self.now c.args.event (does.PutFault c.args.controller c.args.worker c.args.fault)
old c = before c.self.inside.script c.self.inside.shape c.self.inside.history.events.items c.self.inside.lanes
    c.self.inside.store c.self.inside.members.items c.self.inside.fates c.self.inside.clock c.args.self.now c.args.event
    (does.PutFault c.args.controller c.args.worker c.args.fault) c.self.invariant c.self.view_is c.requires.admits
    c.requires.acts c.requires.unfull

-- How it is afterwards.
after : (c : After-record-text) → After c.self.inside.script c.self.inside.shape c.record-text.new.history.items
    c.record-text.new.lanes c.self.inside.store (set c.self.inside.members.items c.args.controller c.put_fault.new.self)
    c.self.inside.fates c.self.inside.clock c.args.self.now c.args.event reply.Done
after c =
    closes (old c) _ _ _ _ _ _ _ _ _ c.record-text.ensures.kept c.in_ok-reserve.ensures.kept c.record-text.ensures.lanes
    (fault_run c.self.inside.shape (past (old c)) c.self.inside.store c.self.inside.members.items
    (fates_in c.self.inside.fates) c.self.inside.clock c.self.invariant.machine.run _ c.args.controller
    c.index_mut-member.result.now c.put_fault.new.self
    (member (old c) c.args.controller c.index_mut-member.result.now ((within (old c)).0)
    c.index_mut-member.ensures.value) (within (old c)).0 c.args.worker c.args.fault (within (old c)).1 (acts (old c))
    refl c.log_len-length.ensures c.put_fault.ensures.con c.put_fault.ensures.registers c.put_fault.ensures.faults)

pub invariant_of-self-2 : goal.invariant_of-self-2
invariant_of-self-2 c = (after c).kept

pub returns : goal.returns
returns c = ((after c).view, text_of c.record-text.result (after c).told c.record-text.ensures.text)
