use Rattle.std.proofs.Common.{◌≡◌, subst, w32}
use Rattle.std.proofs.lemmas.Int.{to_z-of_z}
use Rattle.jc_log.specs.Requests.{grown}
use Rattle.jc_machine.specs.FinishedPods.{finished_gives}
use Rattle.jc_log.specs.Acts as does
use Rattle.jc_runs.proofs.PodEvents.{finished}
use Rattle.jc_machine.specs.MachineKept.{fates_in}
use Rattle.jc_machine.proofs.Closing.{After, Before, acts, before, closes, past}
use Rattle.jc_machine.proofs.Texts.{text_of}
use Rattle.jc_machine.proofs.machine.Machine.finish.Goals as goal
use Rattle.jc_machine.proofs.machine.Machine.finish.Goals.{After-record_told-text}

-- How it is before.
old : (c : After-record_told-text) → Before c.self.inside.script c.self.inside.shape c.self.inside.history.events.items
    c.self.inside.lanes c.self.inside.store c.self.inside.members.items c.self.inside.fates c.self.inside.clock
    c.args.self.now c.args.event (does.Finish c.args.pod c.args.exit)
old c = before c.self.inside.script c.self.inside.shape c.self.inside.history.events.items c.self.inside.lanes
    c.self.inside.store c.self.inside.members.items c.self.inside.fates c.self.inside.clock c.args.self.now c.args.event
    (does.Finish c.args.pod c.args.exit) c.self.invariant c.self.view_is c.requires.admits c.requires.acts
    c.requires.unfull

-- How it is afterwards.
after : (c : After-record_told-text) → After c.self.inside.script c.self.inside.shape
    c.record_told-text.new.history.items c.record_told-text.new.lanes c.finish_told.new.store
    c.self.inside.members.items c.self.inside.fates c.self.inside.clock c.args.self.now c.args.event
    c.in_ok-told.told
after c =
    closes (old c) _ _ _ _ _ _ _ _ _ c.record_told-text.ensures.kept c.in_ok-reserve.ensures.kept c.record_told-text.ensures.lanes
    (finished c.self.inside.shape (past (old c)) c.self.inside.store c.self.inside.members.items
    (fates_in c.self.inside.fates) c.self.inside.clock c.self.invariant.machine.run c.finish_told.new.store _
    c.args.pod c.args.exit (acts (old c)) (subst
    (λ e. c.in_ok-told.told ≡ (finished_gives c.self.inside.store c.args.pod e).reply)
    (to_z-of_z w32 c.args.exit c.ranges.exit) c.in_ok-told.ensures.reply)
    (subst (λ e. c.finish_told.new.store ≡ grown c.self.inside.store
    (finished_gives c.self.inside.store c.args.pod e).entry) (to_z-of_z w32 c.args.exit c.ranges.exit)
    c.in_ok-told.ensures.log) c.log_len-length.ensures c.log-log.ensures.stored)

pub invariant_of-self-2 : goal.invariant_of-self-2
invariant_of-self-2 c = (after c).kept

pub returns : goal.returns
returns c = ((after c).view, text_of c.record_told-text.result (after c).told c.record_told-text.ensures.text)
