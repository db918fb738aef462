use Rattle.std.proofs.Common.{List, reverse, sym, subst, ◌∙◌}
use Rattle.jc_types.specs.declared.actions.Command.{Command}
use Rattle.jc_machine.specs.MachineKept.{IsMachineKept}
use Rattle.jc_machine.proofs.LongerFacts.{kept, not_pushed}
use Rattle.jc_machine.proofs.machine.Machine.extend.Goals as goal

pub invariant_of-self : goal.invariant_of-self
invariant_of-self c =
    subst (λ (cs : List Command). IsMachineKept (record { commands = cs }) c.self.inside.shape (reverse c.self.inside.history.events.items) c.self.inside.lanes c.self.inside.store c.self.inside.members.items c.self.inside.fates c.self.inside.clock)
    (sym (not_pushed c.push.result c.push.ensures.kept (sym c.if-is_err.true ∙ c.is_err.ensures.value))) c.self.invariant
