use Rattle.jc_core.proofs.ToldFacts.{told-kept}
use Rattle.jc_core.proofs.cluster.Cluster.keep_up.Goals as goal

pub invariant_of-self : goal.invariant_of-self
invariant_of-self c = told-kept c.self.inside.machine c.self.inside.slots.items c.keep_up.new.slots.items c.keep_up.ensures.numbers c.self.invariant
