use Rattle.std.proofs.Common.{rules, ◌≡◌, length}
use Rattle.jc_cache.specs.Changes.{with_change}
use Rattle.jc_cache.proofs.ChangeFacts.{made-kept}
use Rattle.jc_cache.proofs.shared_pods.SharedPods.change.Goals as goal

-- Nothing waits, so the pods themselves are so many after the change.
pub invariant_of-self-2 : goal.invariant_of-self-2
invariant_of-self-2 c =
    let none : length c.self.inside.waiting.entries ≡ 0 = search rules in
    let made : c.make.new.pods ≡ with_change c.args.uid c.args.change c.self.inside.shared.value = search rules in
    made-kept c.self.inside.waiting.entries c.self.inside.shared.value c.make.new.pods c.self.inside.count c.len.result
    c.self.invariant none c.args.uid c.args.change made c.len.ensures.count
