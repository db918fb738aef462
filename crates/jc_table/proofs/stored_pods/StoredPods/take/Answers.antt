use Rattle.jc_table.proofs.OpenPods.{take-knows}
use Rattle.jc_table.proofs.stored_pods.StoredPods.take.Goals as goal

pub invariant_of-self : goal.invariant_of-self
invariant_of-self c =
    take-knows c.self.inside.numbers.keys c.self.inside.all c.self.invariant c.args.uid c.remove.new.self.keys c.take.new.self
    c.remove.ensures.keys c.take.ensures.drops
