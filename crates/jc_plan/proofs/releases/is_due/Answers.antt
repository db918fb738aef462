-- The UIDs ascend, so that those below are in front of those that are not, and the UID can stand at one place alone.
use Rattle.std.proofs.Common.{rules, nat_lt}
use Rattle.std.proofs.lemmas.Fn.{always_returns_same}
use Rattle.std.proofs.lemmas.List.Sorted.{IsPartitionedBy-ltb}
use Rattle.jc_types.specs.declared.numbers.Uid.{Uid}
use Rattle.jc_states.proofs.UidPlaceFacts.{in-past, in-read, place_in-splits, uids-ascend}
use Rattle.jc_plan.proofs.releases.is_due.Goals as goal

pub returns-then-place-due : goal.returns-then-place-due
returns-then-place-due c =
    let split =
    c.partition_point-place.ensures.partitioned (λ (other : Uid). nat_lt other.0 c.args.uid.0) (always_returns_same _ _ _ (λ a r f. λ call. search rules))
    (IsPartitionedBy-ltb (λ (other : Uid). other.0) c.args.due.now c.args.uid.0 (uids-ascend 0 c.args.due.now c.requires)) in
    in-read c.args.uid c.args.due.now c.partition_point-place.result (record { 0 = 0 }) c.requires
    (place_in-splits c.args.uid c.args.due.now c.partition_point-place.result c.partition_point-place.ensures.bound split.0 split.1) c.if-place-due.true

pub returns-else-place-due : goal.returns-else-place-due
returns-else-place-due c =
    let split =
    c.partition_point-place.ensures.partitioned (λ (other : Uid). nat_lt other.0 c.args.uid.0) (always_returns_same _ _ _ (λ a r f. λ call. search rules))
    (IsPartitionedBy-ltb (λ (other : Uid). other.0) c.args.due.now c.args.uid.0 (uids-ascend 0 c.args.due.now c.requires)) in
    in-past c.args.uid c.args.due.now c.partition_point-place.result
    (place_in-splits c.args.uid c.args.due.now c.partition_point-place.result c.partition_point-place.ensures.bound split.0 split.1) c.if-place-due.false
