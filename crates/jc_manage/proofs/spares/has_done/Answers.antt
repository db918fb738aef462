use Rattle.jc_ranges.specs.Sets.{has}
use Rattle.jc_states.specs.Pods.{tracked_active_pods}
use Rattle.jc_states.specs.Tallies.{pods_for}
use Rattle.jc_manage.proofs.SpareFacts.{any-first, any-second}
use Rattle.jc_manage.proofs.spares.has_done.Goals as goal

pub returns-then-has_one_of : goal.returns-then-has_one_of
returns-then-has_one_of c =
    any-first (λ n. has n c.args.counted.now.completed) (λ n. has n c.args.counted.now.failed_indexes) (tracked_active_pods (pods_for c.args.owner c.args.pods.now)) c.has_one_of.result c.if-has_one_of.true c.has_one_of.ensures

pub returns-else-has_one_of : goal.returns-else-has_one_of
returns-else-has_one_of c =
    any-second (λ n. has n c.args.counted.now.completed) (λ n. has n c.args.counted.now.failed_indexes) (tracked_active_pods (pods_for c.args.owner c.args.pods.now)) c.has_one_of.result _ c.if-has_one_of.false
    c.has_one_of.ensures c.has_one_of-else-has_one_of.ensures
