use Rattle.std.proofs.Common.{rules, ◌≡◌}
use Rattle.jc_cache.specs.Changes.{all_changed}
use Rattle.jc_cache.proofs.ChangeFacts.{emptied-kept}
use Rattle.jc_cache.proofs.shared_pods.SharedPods.apply_pending.Goals as goal

-- All changes are made, and none of them waits.
pub invariant_of-self : goal.invariant_of-self
invariant_of-self c =
    let made : c.make_all.new.pods ≡ all_changed c.self.inside.waiting.entries c.self.inside.shared.value = search rules in
    emptied-kept c.self.inside.waiting.entries c.empty.new.changes.entries c.self.inside.shared.value c.make_all.new.pods c.self.inside.count
    c.self.invariant made c.make_all.ensures.rising c.empty.ensures
