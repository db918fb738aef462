use Rattle.std.proofs.Common.{set, refl, sym, ◌∙◌, subst}
use Rattle.jc_log.specs.Acts as does
use Rattle.jc_runs.proofs.EventFacts.{holds_idle, replicate_free, restart_run}
use Rattle.jc_runs.specs.Machines.{IsTeam}
use Rattle.jc_runs.specs.Teams.{KnowsNothing}
use Rattle.jc_types.specs.declared.replies.Reply.TheVariants as reply
use Rattle.jc_machine.specs.MachineKept.{fates_in}
use Rattle.jc_machine.proofs.Closing.{After, Before, acts, before, closes, member, past, within}
use Rattle.jc_machine.proofs.Texts.{text_of}
use Rattle.jc_machine.proofs.machine.Machine.restart.Goals as goal
use Rattle.jc_machine.proofs.machine.Machine.restart.Goals.{After-record-text}

-- How it is before.
old : (c : After-record-text) → Before c.self.inside.script c.self.inside.shape c.self.inside.history.events.items
    c.self.inside.lanes c.self.inside.store c.self.inside.members.items c.self.inside.fates c.self.inside.clock
    c.args.self.now c.args.event (does.Restart c.args.controller)
old c = before c.self.inside.script c.self.inside.shape c.self.inside.history.events.items c.self.inside.lanes
    c.self.inside.store c.self.inside.members.items c.self.inside.fates c.self.inside.clock c.args.self.now c.args.event
    (does.Restart c.args.controller) c.self.invariant c.self.view_is c.requires.admits c.requires.acts c.requires.unfull

fresh : (c : After-record-text) → KnowsNothing c.self.inside.shape.workers c.become_other.new.self
fresh c = subst (KnowsNothing c.self.inside.shape.workers) (sym c.become_other.ensures) c.in_ok-fresh.ensures

mine : (c : After-record-text) → IsTeam c.self.inside.shape (past (old c)) c.self.inside.store c.args.controller c.index_mut-member.result.now
mine c = c.self.invariant.machine.run.each c.args.controller c.index_mut-member.result.now (member (old c) c.args.controller c.index_mut-member.result.now (within (old c)) c.index_mut-member.ensures.value)

-- How it is afterwards.
after : (c : After-record-text) → After c.self.inside.script c.self.inside.shape c.record-text.new.history.items
    c.record-text.new.lanes c.self.inside.store
    (set c.self.inside.members.items c.args.controller c.become_other.new.self) c.self.inside.fates c.self.inside.clock
    c.args.self.now c.args.event reply.Done
after c =
    closes (old c) _ _ _ _ _ _ _ _ _ c.record-text.ensures.kept c.in_ok-reserve.ensures.kept c.record-text.ensures.lanes
    (restart_run c.self.inside.shape (past (old c)) c.self.inside.store c.self.inside.members.items
    (fates_in c.self.inside.fates) c.self.inside.clock c.self.invariant.machine.run _ c.args.controller
    c.index_mut-member.result.now c.become_other.new.self
    (member (old c) c.args.controller c.index_mut-member.result.now (within (old c)) c.index_mut-member.ensures.value)
    (within (old c)) (acts (old c)) refl c.log_len-length.ensures (fresh c).schedule
    (holds_idle _ _ (fresh c).schedule (fresh c).jobs (fresh c).rows)
    ((fresh c).registers ∙ replicate_free _ _ (sym (mine c).count))
    ((fresh c).faults ∙ replicate_free _ _ (sym (mine c).faults)))

pub invariant_of-self-2 : goal.invariant_of-self-2
invariant_of-self-2 c = (after c).kept

pub returns : goal.returns
returns c = ((after c).view, text_of c.record-text.result (after c).told c.record-text.ensures.text)
