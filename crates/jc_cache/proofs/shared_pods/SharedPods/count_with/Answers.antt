use Rattle.std.proofs.Common.{true, false, arith}
use Rattle.jc_cache.proofs.ChangeFacts.{counts}
use Rattle.jc_cache.proofs.shared_pods.SharedPods.count_with.Goals as goal

-- Each by whether there was a pod, and whether there is one.
pub returns-in-false-false : goal.returns-in-false-false
returns-in-false-false c =
    let after = counts c.self.inside.waiting.entries c.self.inside.shared.value c.args.self.now c.self.inside.count c.self.invariant c.self.view_is c.args.uid c.args.change.now c.requires.named false
    false c.in-false-false.ensures c.in-false-false.ensures' in
    omega (arith, after)

pub returns-in-false-true : goal.returns-in-false-true
returns-in-false-true c =
    let after = counts c.self.inside.waiting.entries c.self.inside.shared.value c.args.self.now c.self.inside.count c.self.invariant c.self.view_is c.args.uid c.args.change.now c.requires.named false
    true c.in-false-true.ensures c.in-false-true.ensures' in
    omega (arith, after)

pub returns-in-true-false : goal.returns-in-true-false
returns-in-true-false c =
    let after = counts c.self.inside.waiting.entries c.self.inside.shared.value c.args.self.now c.self.inside.count c.self.invariant c.self.view_is c.args.uid c.args.change.now c.requires.named true
    false c.in-true-false.ensures c.in-true-false.ensures' in
    omega (arith, after)

pub returns-in-true-true : goal.returns-in-true-true
returns-in-true-true c =
    let after = counts c.self.inside.waiting.entries c.self.inside.shared.value c.args.self.now c.self.inside.count c.self.invariant c.self.view_is c.args.uid c.args.change.now c.requires.named true
    true c.in-true-true.ensures c.in-true-true.ensures' in
    omega (arith, after)
