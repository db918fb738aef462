use Rattle.std.proofs.Common.{set}
use Rattle.jc_log.specs.Acts as does
use Rattle.jc_runs.proofs.CacheFacts.{deliver_run}
use Rattle.jc_team.proofs.LawFacts.{few-pods}
use Rattle.jc_machine.specs.MachineKept.{fates_in}
use Rattle.jc_machine.proofs.Closing.{After, Before, acts, before, closes, member, past, room_left, within}
use Rattle.jc_machine.proofs.Texts.{text_of}
use Rattle.jc_machine.proofs.machine.Machine.deliver.Goals as goal
use Rattle.jc_machine.proofs.machine.Machine.deliver.Goals.{After-record-text}

-- The cache has no more pods than the log has entries.
pub deliver-requires : goal.deliver-requires
deliver-requires c = let b = before c.self.inside.script c.self.inside.shape c.self.inside.history.events.items
    c.self.inside.lanes c.self.inside.store c.self.inside.members.items c.self.inside.fates c.self.inside.clock
    c.args.self.now c.args.event (does.Deliver c.args.controller c.args.kind) c.self.invariant c.self.view_is
    c.requires.admits c.requires.acts c.requires.unfull in let there = member b c.args.controller
    c.index_mut-member.result.now (within b) c.index_mut-member.ensures.value in record {
      few_pods = few-pods c.self.inside.store c.index_mut-member.result.now.con
          (c.self.invariant.machine.run.each c.args.controller c.index_mut-member.result.now there).holds (room_left b);
    }

-- How it is before.
old : (c : After-record-text) → Before c.self.inside.script c.self.inside.shape c.self.inside.history.events.items
    c.self.inside.lanes c.self.inside.store c.self.inside.members.items c.self.inside.fates c.self.inside.clock
    c.args.self.now c.args.event (does.Deliver c.args.controller c.args.kind)
old c = before c.self.inside.script c.self.inside.shape c.self.inside.history.events.items c.self.inside.lanes
    c.self.inside.store c.self.inside.members.items c.self.inside.fates c.self.inside.clock c.args.self.now c.args.event
    (does.Deliver c.args.controller c.args.kind) c.self.invariant c.self.view_is c.requires.admits c.requires.acts
    c.requires.unfull

-- How it is afterwards.
after : (c : After-record-text) → After c.self.inside.script c.self.inside.shape c.record-text.new.history.items
    c.record-text.new.lanes c.self.inside.store (set c.self.inside.members.items c.args.controller c.deliver.new.self)
    c.self.inside.fates c.self.inside.clock c.args.self.now c.args.event c.in_ok-reply.reply
after c =
    closes (old c) _ _ _ _ _ _ _ _ _ c.record-text.ensures.kept c.in_ok-reserve.ensures.kept c.record-text.ensures.lanes
    (deliver_run c.self.inside.shape (past (old c)) c.self.inside.store c.self.inside.members.items
    (fates_in c.self.inside.fates) c.self.inside.clock c.self.invariant.machine.run _ c.args.controller
    c.index_mut-member.result.now c.deliver.new.self
    (member (old c) c.args.controller c.index_mut-member.result.now (within (old c)) c.index_mut-member.ensures.value)
    c.args.kind (within (old c)) (acts (old c))
    (c.in_ok-reply.ensures.reply (c.self.invariant.machine.run.each c.args.controller c.index_mut-member.result.now
    (member (old c) c.args.controller c.index_mut-member.result.now (within (old c))
    c.index_mut-member.ensures.value)).holds) c.log_len-length.ensures
    (c.in_ok-reply.ensures.schedule (c.self.invariant.machine.run.each c.args.controller c.index_mut-member.result.now
    (member (old c) c.args.controller c.index_mut-member.result.now (within (old c))
    c.index_mut-member.ensures.value)).holds)
    (c.in_ok-reply.ensures.holds (c.self.invariant.machine.run.each c.args.controller c.index_mut-member.result.now
    (member (old c) c.args.controller c.index_mut-member.result.now (within (old c))
    c.index_mut-member.ensures.value)).holds) c.in_ok-reply.ensures.registers c.in_ok-reply.ensures.faults)

pub invariant_of-self-2 : goal.invariant_of-self-2
invariant_of-self-2 c = (after c).kept

pub returns : goal.returns
returns c = ((after c).view, text_of c.record-text.result (after c).told c.record-text.ensures.text)
