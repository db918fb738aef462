use Rattle.std.proofs.Common.{set}
use Rattle.jc_log.specs.Acts as does
use Rattle.jc_runs.proofs.BeginFacts.{begin_run}
use Rattle.jc_runs.proofs.StepRuns.{plans_at}
use Rattle.jc_machine.specs.MachineKept.{fates_in}
use Rattle.jc_machine.proofs.Closing.{After, Before, acts, before, closes, member, past, short, within, worker}
use Rattle.jc_machine.proofs.Texts.{text_of}
use Rattle.jc_machine.proofs.machine.Machine.begin.Goals as goal
use Rattle.jc_machine.proofs.machine.Machine.begin.Goals.{After-record_told-text}

pub begin-requires-clause-worker : goal.begin-requires-clause-worker
begin-requires-clause-worker c = let b = before c.self.inside.script c.self.inside.shape
    c.self.inside.history.events.items c.self.inside.lanes c.self.inside.store c.self.inside.members.items
    c.self.inside.fates c.self.inside.clock c.args.self.now c.args.event (does.Begin c.args.controller c.args.worker)
    c.self.invariant c.self.view_is c.requires.admits c.requires.acts c.requires.unfull in let there = member b
    c.args.controller c.index_mut-member.result.now (within b).0 c.index_mut-member.ensures.value in worker b
    c.args.controller c.args.worker c.index_mut-member.result.now there (within b).1

pub begin-requires-clause-plans : goal.begin-requires-clause-plans
begin-requires-clause-plans c =
    let b = before c.self.inside.script c.self.inside.shape c.self.inside.history.events.items c.self.inside.lanes
    c.self.inside.store c.self.inside.members.items c.self.inside.fates c.self.inside.clock c.args.self.now
    c.args.event (does.Begin c.args.controller c.args.worker) c.self.invariant c.self.view_is c.requires.admits
    c.requires.acts c.requires.unfull in let there = member b c.args.controller c.index_mut-member.result.now
    (within b).0 c.index_mut-member.ensures.value in plans_at c.self.inside.shape (past b) c.self.inside.store
    c.self.inside.members.items (fates_in c.self.inside.fates) c.self.inside.clock c.self.invariant.machine.run
    c.args.controller c.index_mut-member.result.now there (short b)

-- How it is before.
old : (c : After-record_told-text) → Before c.self.inside.script c.self.inside.shape c.self.inside.history.events.items
    c.self.inside.lanes c.self.inside.store c.self.inside.members.items c.self.inside.fates c.self.inside.clock
    c.args.self.now c.args.event (does.Begin c.args.controller c.args.worker)
old c = before c.self.inside.script c.self.inside.shape c.self.inside.history.events.items c.self.inside.lanes
    c.self.inside.store c.self.inside.members.items c.self.inside.fates c.self.inside.clock c.args.self.now c.args.event
    (does.Begin c.args.controller c.args.worker) c.self.invariant c.self.view_is c.requires.admits c.requires.acts
    c.requires.unfull

-- How it is afterwards.
after : (c : After-record_told-text) → After c.self.inside.script c.self.inside.shape
    c.record_told-text.new.history.items c.record_told-text.new.lanes c.self.inside.store
    (set c.self.inside.members.items c.args.controller c.begin.new.self) c.self.inside.fates c.self.inside.clock
    c.args.self.now c.args.event c.in_ok-told.told
after c =
    closes (old c) _ _ _ _ _ _ _ _ _ c.record_told-text.ensures.kept c.in_ok-reserve.ensures.kept c.record_told-text.ensures.lanes
    (begin_run c.self.inside.shape (past (old c)) c.self.inside.store c.self.inside.members.items
    (fates_in c.self.inside.fates) c.self.inside.clock c.self.invariant.machine.run _ c.args.controller
    c.index_mut-member.result.now c.begin.new.self
    (member (old c) c.args.controller c.index_mut-member.result.now (within (old c)).0 c.index_mut-member.ensures.value)
    c.args.worker (within (old c)).0 (within (old c)).1 (acts (old c)) c.in_ok-told.ensures.reply
    c.log_len-length.ensures c.in_ok-told.ensures.schedule
    c.in_ok-told.ensures.registers c.in_ok-told.ensures.jobs c.in_ok-told.ensures.rows c.in_ok-told.ensures.faults)

pub invariant_of-self-2 : goal.invariant_of-self-2
invariant_of-self-2 c = (after c).kept

pub returns : goal.returns
returns c = ((after c).view, text_of c.record_told-text.result (after c).told c.record_told-text.ensures.text)
