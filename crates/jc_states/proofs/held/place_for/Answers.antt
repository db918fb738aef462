use Rattle.std.proofs.Common.{arith, rules, nat_lt}
use Rattle.std.proofs.lemmas.Fn.{always_returns_same}
use Rattle.std.proofs.lemmas.List.Sorted.{IsPartitionedBy-ltb}
use Rattle.jc_states.proofs.HeldFacts.{ascends-rise, place-splits}
use Rattle.jc_states.proofs.held.place_for.Goals as goal

-- The indexes ascend, so that those below are in front of those that are not.
pub returns : goal.returns
returns c =
    let split =
    c.partition_point.ensures.partitioned (λ m. nat_lt m c.args.n) (always_returns_same _ _ _ (λ a r f. λ call. search rules))
    (IsPartitionedBy-ltb (λ m. m) c.args.indexes.now.items c.args.n (ascends-rise 0 c.args.indexes.now.items c.requires)) in
    place-splits c.args.n c.args.indexes.now.items c.partition_point.result (omega (arith, c.partition_point.ensures.bound, c.args.indexes.now.ok)) split.0 split.1
