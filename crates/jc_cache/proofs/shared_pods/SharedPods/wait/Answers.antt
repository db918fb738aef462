use Rattle.jc_cache.proofs.ChangeFacts.{waits-kept, waits-made}
use Rattle.jc_cache.proofs.shared_pods.SharedPods.wait.Goals as goal

-- The pods are so many after the change.
pub invariant_of-self-2 : goal.invariant_of-self-2
invariant_of-self-2 c =
    waits-kept c.self.inside.waiting.entries c.self.inside.shared.value c.args.self.now c.self.inside.count c.self.invariant c.self.view_is c.args.uid c.args.change c.requires.named
    c.insert.new.self.entries c.in_ok-insert.ensures.entries c.insert.ensures.unique c.in_ok-insert.ensures.updates.0 c.count_with-count.result c.count_with-count.ensures

-- It is made after the others.
pub returns-clause-makes : goal.returns-clause-makes
returns-clause-makes c =
    waits-made c.self.inside.waiting.entries c.self.inside.shared.value c.args.self.now c.self.inside.count c.self.invariant c.self.view_is c.args.uid c.args.change c.requires.named
    c.insert.new.self.entries c.in_ok-insert.ensures.entries c.insert.ensures.unique c.in_ok-insert.ensures.updates.0
