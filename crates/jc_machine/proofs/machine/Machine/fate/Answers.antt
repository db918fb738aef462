use Rattle.std.proofs.Common.{set, refl, sym, ◌∙◌}
use Rattle.jc_log.specs.Acts as does
use Rattle.jc_runs.proofs.PlainEvents.{fated_run}
use Rattle.jc_types.specs.declared.replies.Reply.TheVariants as reply
use Rattle.jc_machine.proofs.Starts.{fate_put}
use Rattle.jc_machine.specs.MachineKept.{fates_in}
use Rattle.jc_machine.proofs.Closing.{After, Before, acts, before, closes, past}
use Rattle.jc_machine.proofs.Texts.{text_of}
use Rattle.jc_machine.proofs.machine.Machine.fate.Goals as goal
use Rattle.jc_machine.proofs.machine.Machine.fate.Goals.{After-record-text}

pub set-requires : goal.set-requires
set-requires c = record { some_ends = λ none. c.requires.some_ends (sym c.in_ok-ends_again.ensures ∙ none) }

-- How it is before.
old : (c : After-record-text) → Before c.self.inside.script c.self.inside.shape c.self.inside.history.events.items
    c.self.inside.lanes c.self.inside.store c.self.inside.members.items c.self.inside.fates c.self.inside.clock
    c.args.self.now c.args.event (does.Fate c.args.key.now c.args.ends.now)
old c = before c.self.inside.script c.self.inside.shape c.self.inside.history.events.items c.self.inside.lanes
    c.self.inside.store c.self.inside.members.items c.self.inside.fates c.self.inside.clock c.args.self.now c.args.event
    (does.Fate c.args.key.now c.args.ends.now) c.self.invariant c.self.view_is c.requires.may.admits c.requires.may.acts
    c.requires.may.unfull

-- How it is afterwards.
after : (c : After-record-text) → After c.self.inside.script c.self.inside.shape c.record-text.new.history.items
    c.record-text.new.lanes c.self.inside.store c.self.inside.members.items c.set.new.self c.self.inside.clock
    c.args.self.now c.args.event reply.Done
after c =
    closes (old c) _ _ _ _ _ _ _ _ _ c.record-text.ensures.kept c.in_ok-reserve.ensures.kept c.record-text.ensures.lanes
    (fated_run c.self.inside.shape (past (old c)) c.self.inside.store c.self.inside.members.items
    (fates_in c.self.inside.fates) c.self.inside.clock c.self.invariant.machine.run _ c.args.key.now c.args.ends.now
    (fates_in c.set.new.self) (acts (old c)) refl c.log_len-length.ensures
    (fate_put c.self.inside.fates c.set.new.self c.args.key.now c.args.ends.now c.in_ok-ends_again.ends_again
    c.in_ok-ends_again.ensures c.in_ok-set.ensures.fates))

pub invariant_of-self-2 : goal.invariant_of-self-2
invariant_of-self-2 c = (after c).kept

pub returns : goal.returns
returns c = ((after c).view, text_of c.record-text.result (after c).told c.record-text.ensures.text)
