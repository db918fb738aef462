use Rattle.jc_log.specs.Acts as does
use Rattle.jc_runs.proofs.StoreFacts.{deleted}
use Rattle.jc_runs.proofs.TextFacts.{delete_texts}
use Rattle.jc_machine.specs.MachineKept.{fates_in}
use Rattle.jc_machine.proofs.Closing.{After, Before, acts, before, closes, past}
use Rattle.jc_machine.proofs.Texts.{text_of}
use Rattle.jc_machine.proofs.machine.Machine.delete.Goals as goal
use Rattle.jc_machine.proofs.machine.Machine.delete.Goals.{After-record-text}

-- How it is before.
old : (c : After-record-text) → Before c.self.inside.script c.self.inside.shape c.self.inside.history.events.items
    c.self.inside.lanes c.self.inside.store c.self.inside.members.items c.self.inside.fates c.self.inside.clock
    c.args.self.now c.args.event (does.Delete c.args.key.now)
old c = before c.self.inside.script c.self.inside.shape c.self.inside.history.events.items c.self.inside.lanes
    c.self.inside.store c.self.inside.members.items c.self.inside.fates c.self.inside.clock c.args.self.now c.args.event
    (does.Delete c.args.key.now) c.self.invariant c.self.view_is c.requires.admits c.requires.acts c.requires.unfull

-- How it is afterwards.
after : (c : After-record-text) → After c.self.inside.script c.self.inside.shape c.record-text.new.history.items
    c.record-text.new.lanes c.delete_job.new.self c.self.inside.members.items c.self.inside.fates c.self.inside.clock
    c.args.self.now c.args.event c.in_ok-reply.reply
after c =
    closes (old c) _ _ _ _ _ _ _ _ _ c.record-text.ensures.kept c.in_ok-reserve.ensures.kept c.record-text.ensures.lanes
    (deleted c.self.inside.shape (past (old c)) c.self.inside.store c.self.inside.members.items
    (fates_in c.self.inside.fates) c.self.inside.clock c.self.invariant.machine.run c.delete_job.new.self _
    c.args.key.now (acts (old c)) c.in_ok-reply.ensures.0 c.in_ok-reply.ensures.1 c.log_len-length.ensures
    c.log-log.ensures.stored)

pub record-text-requires-clause-no_text : goal.record-text-requires-clause-no_text
record-text-requires-clause-no_text c = delete_texts _ c.self.inside.store c.args.key.now c.in_ok-reply.ensures.0

pub invariant_of-self-2 : goal.invariant_of-self-2
invariant_of-self-2 c = (after c).kept

pub returns : goal.returns
returns c = ((after c).view, text_of c.record-text.result (after c).told c.record-text.ensures.text)
