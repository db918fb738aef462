use Rattle.std.proofs.Common.{drop, reverse, ap, ◌∙◌}
use Rattle.jc_core.specs.Shared.{Shared, has_holders}
use Rattle.jc_core.proofs.ToldFacts.{told-free}
use Rattle.jc_core.proofs.cluster.Cluster.settle.Goals as goal

pub returns-clause-free : goal.returns-clause-free
returns-clause-free c =
    λ free. ap has_holders c.keep_up.ensures.slots
    ∙ told-free c.settle-ended.new.machine.script.commands (drop c.len-from.result (reverse c.settle-ended.new.machine.pasts)) c.self.inside.slots.items (ap (λ (s : Shared). has_holders s.slots) c.self.view_is ∙ free)
