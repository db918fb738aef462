use Rattle.std.proofs.Common.{set}
use Rattle.jc_log.specs.Acts as does
use Rattle.jc_runs.proofs.StepRuns.{busy_at, step_seen}
use Rattle.jc_machine.specs.MachineKept.{fates_in}
use Rattle.jc_machine.proofs.Closing.{After, Before, acts, before, closes, faulty, member, past, room_left, within, worker}
use Rattle.jc_machine.proofs.Texts.{text_of}
use Rattle.jc_machine.proofs.machine.Machine.step.Goals as goal
use Rattle.jc_machine.proofs.machine.Machine.step.Goals.{After-record-text}

pub step-requires-clause-worker : goal.step-requires-clause-worker
step-requires-clause-worker c = let b = before c.self.inside.script c.self.inside.shape
    c.self.inside.history.events.items c.self.inside.lanes c.self.inside.store c.self.inside.members.items
    c.self.inside.fates c.self.inside.clock c.args.self.now c.args.event (does.Step c.args.controller c.args.worker)
    c.self.invariant c.self.view_is c.requires.admits c.requires.acts c.requires.unfull in let there = member b
    c.args.controller c.index_mut-member.result.now (within b).0 c.index_mut-member.ensures.value in worker b
    c.args.controller c.args.worker c.index_mut-member.result.now there (within b).1

pub step-requires-clause-faulty : goal.step-requires-clause-faulty
step-requires-clause-faulty c = let b = before c.self.inside.script c.self.inside.shape
    c.self.inside.history.events.items c.self.inside.lanes c.self.inside.store c.self.inside.members.items
    c.self.inside.fates c.self.inside.clock c.args.self.now c.args.event (does.Step c.args.controller c.args.worker)
    c.self.invariant c.self.view_is c.requires.admits c.requires.acts c.requires.unfull in let there = member b
    c.args.controller c.index_mut-member.result.now (within b).0 c.index_mut-member.ensures.value in faulty b
    c.args.controller c.args.worker c.index_mut-member.result.now there (within b).1

pub step-requires-clause-busy : goal.step-requires-clause-busy
step-requires-clause-busy c =
    let b = before c.self.inside.script c.self.inside.shape c.self.inside.history.events.items c.self.inside.lanes
    c.self.inside.store c.self.inside.members.items c.self.inside.fates c.self.inside.clock c.args.self.now
    c.args.event (does.Step c.args.controller c.args.worker) c.self.invariant c.self.view_is c.requires.admits
    c.requires.acts c.requires.unfull in let there = member b c.args.controller c.index_mut-member.result.now
    (within b).0 c.index_mut-member.ensures.value in λ sync mine. busy_at c.self.inside.shape (past b)
    c.self.inside.store c.self.inside.members.items (fates_in c.self.inside.fates) c.self.inside.clock
    c.self.invariant.machine.run c.args.controller c.index_mut-member.result.now there c.args.worker sync mine

pub step-requires-clause-room : goal.step-requires-clause-room
step-requires-clause-room c = room_left
    (before c.self.inside.script c.self.inside.shape c.self.inside.history.events.items c.self.inside.lanes
    c.self.inside.store c.self.inside.members.items c.self.inside.fates c.self.inside.clock c.args.self.now c.args.event
    (does.Step c.args.controller c.args.worker) c.self.invariant c.self.view_is c.requires.admits c.requires.acts
    c.requires.unfull)

-- How it is before.
old : (c : After-record-text) → Before c.self.inside.script c.self.inside.shape c.self.inside.history.events.items
    c.self.inside.lanes c.self.inside.store c.self.inside.members.items c.self.inside.fates c.self.inside.clock
    c.args.self.now c.args.event (does.Step c.args.controller c.args.worker)
old c = before c.self.inside.script c.self.inside.shape c.self.inside.history.events.items c.self.inside.lanes
    c.self.inside.store c.self.inside.members.items c.self.inside.fates c.self.inside.clock c.args.self.now c.args.event
    (does.Step c.args.controller c.args.worker) c.self.invariant c.self.view_is c.requires.admits c.requires.acts
    c.requires.unfull

-- How it is afterwards.
after : (c : After-record-text) → After c.self.inside.script c.self.inside.shape c.record-text.new.history.items
    c.record-text.new.lanes c.step.new.store (set c.self.inside.members.items c.args.controller c.step.new.self)
    c.self.inside.fates c.self.inside.clock c.args.self.now c.args.event c.in_ok-reply.reply
after c =
    closes (old c) _ _ _ _ _ _ _ _ _ c.record-text.ensures.kept c.in_ok-reserve.ensures.kept c.record-text.ensures.lanes
    (step_seen c.self.inside.shape (past (old c)) c.self.inside.store c.self.inside.members.items
    (fates_in c.self.inside.fates) c.self.inside.clock c.self.invariant.machine.run c.step.new.store _ c.args.controller
    c.index_mut-member.result.now c.step.new.self
    (member (old c) c.args.controller c.index_mut-member.result.now ((within (old c)).0)
    c.index_mut-member.ensures.value) c.args.worker (within (old c)).0 (within (old c)).1 (acts (old c))
    c.in_ok-reply.ensures.reply c.in_ok-reply.ensures.log c.log_len-length.ensures c.log-log.ensures.stored
    c.in_ok-reply.ensures.schedule c.in_ok-reply.ensures.holds c.in_ok-reply.ensures.registers
    c.in_ok-reply.ensures.faults)

pub invariant_of-self-2 : goal.invariant_of-self-2
invariant_of-self-2 c = (after c).kept

pub returns : goal.returns
returns c = ((after c).view, text_of c.record-text.result (after c).told c.record-text.ensures.text)
