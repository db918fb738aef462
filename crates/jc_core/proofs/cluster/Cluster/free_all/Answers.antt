use Rattle.std.proofs.Common.{ap, ◌∙◌}
use Rattle.jc_core.specs.Shared.{has_holders}
use Rattle.jc_core.proofs.ToldFacts.{freed-free}
use Rattle.jc_core.proofs.cluster.Cluster.free_all.Goals as goal

pub returns-clause-free : goal.returns-clause-free
returns-clause-free c = ap has_holders c.change_all.ensures.slots ∙ freed-free c.self.inside.slots.items
